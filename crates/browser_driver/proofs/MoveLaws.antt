-- A tab that moves: the state and the orders hold the browser in which it stands at its new place.
use Rattle.std.specs.Prelude.{Ok}
use Rattle.std.proofs.Common.{◌≡◌, ℕ, suc, ◌-◌, ◌≤◌, ◌<◌, nat_lt, min, max, Bool, true, false, is_some, if◌then◌else◌}
use Rattle.std.proofs.Common.{ℤ, List, [], ◌∷◌, ◌++◌, map, take, drop, length, Some, None, option_map, refl, sym, ap}
use Rattle.std.proofs.Common.{subst, ◌∙◌, arith}
use Rattle.std.specs.List.{insert, remove}
use Rattle.std.specs.Ordering.{int_cmp, int_eq, is_eq}
use Rattle.std.proofs.lemmas.Bool.Decides.{nat_tests}
use Rattle.std.proofs.lemmas.List.{drop-map, drop_at, length-map, map-append, take-map}
use Rattle.script_lines.specs.declared.verb.Verb.TheVariants.{Move}
use Rattle.session_commands.specs.declared.command.SessionCommand.{SessionCommand}
use Rattle.session_commands.specs.declared.command.SessionCommand.TheVariants.{TabWindow}
use Rattle.window_state.specs.RowLists.{find_row}
use Rattle.window_state.specs.States.{State, is_within, placed, with_both}
use Rattle.window_state.proofs.IdLaws.{equals_itself, same_key, flip}
use Rattle.replay_machine.specs.Step.{fold}
use Rattle.browser_model.specs.Browsers.{Browser, BrowserTab, BrowserWindow, Stand, own_id, open_key, stand_key, row_of}
use Rattle.browser_model.specs.Browsers.{Matches}
use Rattle.browser_model.specs.Entries.{with_left, left_commands}
use Rattle.browser_model.specs.Moving as moving
use Rattle.browser_model.specs.Pictures.{nat_of}
use Rattle.browser_model.specs.Running.{IsRunning}
use Rattle.browser_model.specs.Tabs.{stand_of, tabs_of, with_tabs, taken_out, put_at, put_in, places, later_tabs}
use Rattle.browser_model.proofs.AnyMoveLaws.{move-matches}
use Rattle.browser_model.proofs.Matching.{in-order, one-stand}
use Rattle.browser_model.proofs.RunningLaws.{running-fold, running-placed}
use Rattle.browser_model.proofs.Splits.{Split, split, InOrder}
use Rattle.browser_model.proofs.Turns.{fold-append, has_tab}
use Rattle.browser_driver.specs.Acts.{act, is_above, issues, outcome, window_of}
use Rattle.browser_driver.specs.Held.{held, IsHeld}
use Rattle.browser_driver.specs.MovePlans.{within_step, elsewhere_step, move_step, others, moves}
use Rattle.browser_driver.specs.Orders.{order_of, moved, between}
use Rattle.browser_driver.specs.Places.{places_of, with_places}
use Rattle.browser_driver.specs.SeatPlans.{Parts, SeatStep, set_order}
use Rattle.browser_driver.specs.declared.fault.VerbFault.TheVariants.{Place}
use Rattle.browser_driver.proofs.CloseLaws.{places-are}
use Rattle.browser_driver.proofs.FoundLaws.{found-row}
use Rattle.browser_driver.proofs.MoveStepLaws.{above-room}
use Rattle.browser_driver.proofs.PlacedLaws.{AllStand, placed-running, placed-stand, placed-fold, all-placed, all-take}
use Rattle.browser_driver.proofs.PlacedLaws.{all-drop, all-join, orders-stand}
use Rattle.browser_driver.proofs.SeatAnswers.{JoinsSeats, seats-tab, seats-where, seats-window}
use Rattle.browser_driver.proofs.SeatLaws.{order-is, order-taken, place-is}
use Rattle.browser_driver.proofs.ShiftLaws.{drop-inserted}

-- the tabs of a window to which a tab comes, and of the others
tabs-come : (window : ℤ) (place : ℕ) (t : BrowserTab) (ws : List BrowserWindow)
    → is_some (find_row int_cmp open_key window ws) ≡ true
    → tabs_of window (put_in window place t ws) ≡ put_at place t (tabs_of window ws)
tabs-come window place t [] live = absurd cc
tabs-come window place t (v ∷ vs) live = by (tabs-come window place t vs) (is_eq (int_cmp window (open_key v))) refl
  where
    by : (is_some (find_row int_cmp open_key window vs) ≡ true
        → tabs_of window (put_in window place t vs) ≡ put_at place t (tabs_of window vs)) → (b : Bool)
        → is_eq (int_cmp window (open_key v)) ≡ b
        → tabs_of window (put_in window place t (v ∷ vs)) ≡ put_at place t (tabs_of window (v ∷ vs))
    by rest true e = rw (e, e) refl
    by rest false e = rw (e, e) (rest (rw e at live))

tabs-stay : (window w : ℤ) (place : ℕ) (t : BrowserTab) (ws : List BrowserWindow) → is_eq (int_cmp window w) ≡ false
    → tabs_of w (put_in window place t ws) ≡ tabs_of w ws
tabs-stay window w place t [] apart = refl
tabs-stay window w place t (v ∷ vs) apart =
    by (tabs-stay window w place t vs apart) (is_eq (int_cmp w (open_key v))) refl
    (is_eq (int_cmp window (open_key v))) refl
  where
    by : tabs_of w (put_in window place t vs) ≡ tabs_of w vs → (b : Bool) → is_eq (int_cmp w (open_key v)) ≡ b
        → (c : Bool) → is_eq (int_cmp window (open_key v)) ≡ c
        → tabs_of w (put_in window place t (v ∷ vs)) ≡ tabs_of w (v ∷ vs)
    by rest true e true f =
        let never : is_eq (int_cmp window w) ≡ true =
        ap (λ q. is_eq (int_cmp window q)) (same_key w (open_key v) e) ∙ f in
        absurd cc
    by rest true e false f = rw (f, e) refl
    by rest false e true f = rw (f, e) rest
    by rest false e false f = rw (f, e) rest

-- a window stays where its tabs change
find-with : (change : List BrowserTab → List BrowserTab) (w : ℤ) (ws : List BrowserWindow)
    → is_some (find_row int_cmp open_key w (map (with_tabs change) ws)) ≡ is_some (find_row int_cmp open_key w ws)
find-with change w [] = refl
find-with change w (v ∷ vs) = by (find-with change w vs) (is_eq (int_cmp w (open_key v))) refl
  where
    by : is_some (find_row int_cmp open_key w (map (with_tabs change) vs)) ≡ is_some (find_row int_cmp open_key w vs)
        → (b : Bool) → is_eq (int_cmp w (open_key v)) ≡ b
        → is_some (find_row int_cmp open_key w (map (with_tabs change) (v ∷ vs)))
        ≡ is_some (find_row int_cmp open_key w (v ∷ vs))
    by rest true e = rw e refl
    by rest false e = rw e rest

ids-come : (place : ℕ) (t : BrowserTab) (ts : List BrowserTab)
    → map own_id (put_at place t ts) ≡ insert (map own_id ts) place (own_id t)
ids-come place t ts =
    map-append own_id (take place ts) (t ∷ drop place ts)
    ∙ ap (λ us. us ++ own_id t ∷ map own_id (drop place ts)) (sym (take-map own_id place ts))
    ∙ ap (λ us. take place (map own_id ts) ++ own_id t ∷ us) (sym (drop-map own_id place ts))

ids-between : (first last : ℕ) (ts : List BrowserTab)
    → map own_id (take (suc (last - first)) (drop first ts)) ≡ between first last (map own_id ts)
ids-between first last ts =
    sym (take-map own_id (suc (last - first)) (drop first ts))
    ∙ ap (take (suc (last - first))) (sym (drop-map own_id first ts))

-- the commands that tell tabs between two places theirs, whichever place is the first
places-between : (from to : ℕ) (ts : List BrowserTab)
    → places_of (min from to) (between (min from to) (max from to) (map own_id ts))
    ≡ (if nat_lt from to then places from (take (suc (to - from)) (drop from ts))
    else places to (take (suc (from - to)) (drop to ts)))
places-between from to ts = by (nat_lt from to) refl
  where
    told : (first last : ℕ) → places_of first (between first last (map own_id ts))
        ≡ places first (take (suc (last - first)) (drop first ts))
    told first last =
        ap (places_of first) (sym (ids-between first last ts))
        ∙ sym (places-are first (take (suc (last - first)) (drop first ts)))

    by : (b : Bool) → nat_lt from to ≡ b → places_of (min from to) (between (min from to) (max from to) (map own_id ts))
        ≡ (if nat_lt from to then places from (take (suc (to - from)) (drop from ts))
        else places to (take (suc (from - to)) (drop to ts)))
    by true e =
        let less : from < to = grind (arith, nat_tests) in
        let first : min from to ≡ from = omega arith in
        let last : max from to ≡ to = omega arith in
        rw (first, last, e) (told from to)
    by false e =
        let least : to ≤ from = grind (arith, nat_tests) in
        let first : min from to ≡ to = omega arith in
        let last : max from to ≡ from = omega arith in
        rw (first, last, e) (told to from)

-- what a step makes is what the verb makes
pub record IsMoved (s : State) (step : SeatStep) (commands : List SessionCommand) (windows : List BrowserWindow)
    : Type 0 where
  pub session : step.session ≡ commands
  pub state : fold s step.session ≡ step.state
  pub seated : (w : ℤ) → step.orders w ≡ map own_id (tabs_of w windows)
  pub groups : step.state.groups ≡ s.groups
  pub left : step.left ≡ None

module _ (old : Parts) (moment : ℤ) (h : IsHeld old.state old.orders old.closed moment) (id : ℤ) (st : Stand)
    (found : stand_of id (held old.state old.orders old.closed moment) ≡ Some st) (window : ℤ) (to : ℕ)
    (live : is_some (window_of window (held old.state old.orders old.closed moment)) ≡ true) where
  abbrev b : Browser
  b = held old.state old.orders old.closed moment

  abbrev s : State
  s = old.state

  sorted : InOrder b.windows
  sorted = in-order s b h.running h.matches

  here : Split id b.windows st
  here = split id b.windows st (one-stand s b id st h.running h.matches found)

  abbrev own_order : List ℤ
  own_order = order_of st.window old.orders

  -- the windows without the tab, and with it at its new place
  abbrev left : List BrowserWindow
  left = taken_out (stand_key st) b.windows

  abbrev after : List BrowserWindow
  after = put_in window to st.tab left

  taken : (w : ℤ) → set_order st.window (remove own_order st.place) old.orders w ≡ map own_id (tabs_of w left)
  taken w =
      order-taken old.orders id b.windows st here sorted h.seated w
      ∙ ap (λ q. map own_id (tabs_of w (taken_out q b.windows))) here.tab.key

  comes : map own_id (tabs_of window after) ≡ insert (map own_id (tabs_of window left)) to id
  comes =
      ap (map own_id) (tabs-come window to st.tab left (find-with _ window b.windows ∙ live))
      ∙ ids-come to st.tab (tabs_of window left)
      ∙ ap (insert (map own_id (tabs_of window left)) to) (sym here.tab.key)

  stays : (w : ℤ) → is_eq (int_cmp window w) ≡ false
      → set_order st.window (remove own_order st.place) old.orders w ≡ map own_id (tabs_of w after)
  stays w apart = taken w ∙ ap (map own_id) (sym (tabs-stay window w to st.tab left apart))

  -- the tab itself stands
  stands : has_tab id s ≡ true
  stands = ap is_some (found-row s b id h.running h.matches ∙ ap (λ o. option_map row_of o) found)

  abbrev without : List ℤ
  without = remove own_order st.place

  all-stand : (w : ℤ) → AllStand s (order_of w old.orders)
  all-stand = orders-stand s old.orders old.closed moment h

  -- within its window
  module _ (same : is_eq (int_cmp window st.window) ≡ true) where
    is : window ≡ st.window
    is = same_key window st.window same

    others-are : without ≡ map own_id (tabs_of st.window left)
    others-are = ap (λ c. if c then without else own_order) (sym (equals_itself st.window)) ∙ taken st.window

    shifted : moved st.place to own_order ≡ insert without to id
    shifted =
        let pre = map own_id here.tab.pre in
        let post = map own_id here.tab.post in
        ap (λ us. take to without ++ (us ++ drop to without))
        (ap (λ us. take 1 (drop st.place us)) (order-is old.orders id b.windows st here sorted h.seated)
        ∙ ap (take 1) (drop_at pre (id ∷ post) st.place
        (sym (place-is old.orders id b.windows st here sorted h.seated))))

    order-stands : AllStand s (moved st.place to own_order)
    order-stands =
        let P : ℤ → Type 0 = λ i. has_tab i s ≡ true in
        let all = all-stand st.window in
        let rest : AllStand s without = all-join P (take st.place own_order) (drop (suc st.place) own_order)
        (all-take P st.place own_order all) (all-drop P (suc st.place) own_order all) in
        all-join P (take to without) (take 1 (drop st.place own_order) ++ drop to without)
        (all-take P to without rest) (all-join P (take 1 (drop st.place own_order)) (drop to without)
        (all-take P 1 (drop st.place own_order) (all-drop P st.place own_order all)) (all-drop P to without rest))

    within-seated : (w : ℤ)
        → set_order st.window (moved st.place to own_order) old.orders w ≡ map own_id (tabs_of w after)
    within-seated w = by (is_eq (int_cmp st.window w)) refl
      where
        by : (c : Bool) → is_eq (int_cmp st.window w) ≡ c
            → (if c then moved st.place to own_order else order_of w old.orders) ≡ map own_id (tabs_of w after)
        by true e =
            shifted ∙ ap (λ us. insert us to id) others-are
            ∙ ap (λ v. insert (map own_id (tabs_of v left)) to id) (sym is)
            ∙ sym comes ∙ ap (λ v. map own_id (tabs_of v after)) (is ∙ same_key st.window w e)
        by false e =
            ap (λ c. if c then without else order_of w old.orders) (sym e)
            ∙ stays w (subst (λ v. is_eq (int_cmp v w) ≡ false) (sym is) e)

    is-within : IsMoved s (within_step st.window st.place to old) (moving.move_within st to b) after
    is-within =
        let P : ℤ → Type 0 = λ i. has_tab i s ≡ true in
        let first = min st.place to in
        let last = max st.place to in
        let order = moved st.place to own_order in
        let tabs = put_at to st.tab (tabs_of st.window left) in
        let order_is : order ≡ map own_id tabs =
        shifted ∙ ap (λ us. insert us to id) others-are
        ∙ ap (insert (map own_id (tabs_of st.window left)) to) here.tab.key
        ∙ sym (ids-come to st.tab (tabs_of st.window left)) in
        record {
          session = ap (λ us. places_of first (between first last us)) order_is ∙ places-between st.place to tabs;
          state = placed-fold first (between first last order) s h.running
              (all-take P (suc (last - first)) (drop first order) (all-drop P first order order-stands));
          seated = within-seated;
          groups = refl;
          left = refl;
        }

  -- to another window
  module _ (apart : is_eq (int_cmp window st.window) ≡ false)
      (room : to ≤ length (moving.others_of st window b.windows)) where
    abbrev order : List ℤ
    order = order_of window old.orders

    abbrev new : List ℤ
    new = insert order to id

    abbrev later : List ℤ
    later = drop (suc st.place) own_order

    order-is-others : order ≡ map own_id (tabs_of window left)
    order-is-others = ap (λ c. if c then without else order) (sym (flip window st.window apart)) ∙ taken window

    behind : drop to new ≡ id ∷ drop to order
    behind =
        let count = ap length order-is-others ∙ length-map (tabs_of window left) own_id in
        drop-inserted order to id (omega (arith, count, room))

    elsewhere-session : (elsewhere_step id st.window window st.place to old).session
        ≡ moving.move_elsewhere st window to b
    elsewhere-session =
        let tabs = drop to (tabs_of window left) in
        let gone = later_tabs st b.windows in
        let later_is : later ≡ map own_id gone =
        ap (drop (suc st.place)) (h.seated st.window) ∙ drop-map own_id (suc st.place) (tabs_of st.window b.windows) in
        let behind_is : drop to new ≡ map own_id (st.tab ∷ tabs) =
        behind ∙ ap (λ us. id ∷ drop to us) order-is-others
        ∙ ap (λ us. id ∷ us) (drop-map own_id to (tabs_of window left)) ∙ ap (λ q. q ∷ map own_id tabs) here.tab.key in
        ap (λ us. (TabWindow window id ∷ places_of st.place us) ++ places_of to (drop to new)) later_is
        ∙ ap (λ cs. (TabWindow window id ∷ cs) ++ places_of to (drop to new)) (sym (places-are st.place gone))
        ∙ ap (λ us. (TabWindow window id ∷ places st.place gone) ++ places_of to us) behind_is
        ∙ ap (λ cs. (TabWindow window id ∷ places st.place gone) ++ cs) (sym (places-are to (st.tab ∷ tabs)))
        ∙ ap (λ q. (TabWindow window q ∷ places st.place gone) ++ places to (st.tab ∷ tabs)) here.tab.key

    elsewhere-state : fold s (elsewhere_step id st.window window st.place to old).session
        ≡ (elsewhere_step id st.window window st.place to old).state
    elsewhere-state =
        let P : ℤ → Type 0 = λ i. has_tab i s ≡ true in
        let s1 = placed window id s in
        let r1 = running-placed window id s h.running in
        let later_stand : AllStand s1 later =
        all-placed window id s later (all-drop P (suc st.place) own_order (all-stand st.window)) in
        let new_stand : AllStand s1 (drop to new) = all-placed window id s (drop to new)
        (subst (AllStand s) (sym behind) (stands, all-drop P to order (all-stand window))) in
        fold-append s1 (places_of st.place later) (places_of to (drop to new))
        ∙ ap (λ x. fold x (places_of to (drop to new))) (placed-fold st.place later s1 r1 later_stand)
        ∙ placed-fold to (drop to new) (with_places st.place later s1) (placed-running st.place later s1 r1)
        (placed-stand st.place later s1 (drop to new) new_stand)

    elsewhere-seated : (w : ℤ) → (if int_eq st.window w then without else set_order window new old.orders w)
        ≡ map own_id (tabs_of w after)
    elsewhere-seated w = by (is_eq (int_cmp window w)) refl
      where
        by : (c : Bool) → is_eq (int_cmp window w) ≡ c
            → (if int_eq st.window w then without else (if c then new else order_of w old.orders))
            ≡ map own_id (tabs_of w after)
        by true e =
            let is = same_key window w e in
            let beside : int_eq st.window w ≡ false =
            subst (λ v. int_eq st.window v ≡ false) is (flip window st.window apart) in
            ap (λ c. if c then without else new) beside ∙ ap (λ us. insert us to id) order-is-others ∙ sym comes
            ∙ ap (λ v. map own_id (tabs_of v after)) is
        by false e = stays w e

    is-elsewhere : IsMoved s (elsewhere_step id st.window window st.place to old)
        (moving.move_elsewhere st window to b) after
    is-elsewhere = record {
      session = elsewhere-session;
      state = elsewhere-state;
      seated = elsewhere-seated;
      groups = elim (is_within (with_both window id s))
          as (λ c. (if c then with_both window id s else s).groups ≡ s.groups) [ true ↦ refl | false ↦ refl ];
      left = refl;
    }

  is-moved : to ≤ length (moving.others_of st window b.windows)
      → IsMoved s (move_step id st.window window st.place to old) (moving.move st window to b) after
  is-moved room = by (is_eq (int_cmp window st.window)) refl
    where
      by : (c : Bool) → is_eq (int_cmp window st.window) ≡ c
          → IsMoved s
          (if c then within_step st.window st.place to old else elsewhere_step id st.window window st.place to old)
          (if c then moving.move_within st to b else moving.move_elsewhere st window to b) after
      by true e = is-within e
      by false e = is-elsewhere e room

  count-others : others st.window st.place old.orders window ≡ length (moving.others_of st window b.windows)
  count-others = ap length (taken window) ∙ length-map (tabs_of window left) own_id

  joins-moved : to ≤ length (moving.others_of st window b.windows)
      → Matches (fold s (moving.move st window to b)) (moving.moved_tab st window to b)
      → JoinsSeats old.closed moment (Ok (move_step id st.window window st.place to old))
      (issues (moving.moved_tab st window to b) (moving.move st window to b))
  joins-moved room matches =
      let m = is-moved room in
      let step = move_step id st.window window st.place to old in
      let browser = moving.moved_tab st window to b in (
        λ orders says. record {
          running = subst IsRunning m.state (running-fold s step.session h.running);
          matches = subst (λ z. Matches z browser) (sym (ap (fold s) m.session) ∙ m.state) matches;
          seated = λ w. says w ∙ m.seated w;
          groups = m.groups;
          closed_is = ap (λ l. with_left l old.closed) m.left;
          moment_is = refl;
        },
        ap (λ cs. outcome browser cs []) (sym m.session)
            ∙ ap (λ l. outcome browser step.session (left_commands l)) (sym m.left),
      )

-- the plan of the call that moves a tab leads to what the verb says
module _ (old : Parts) (moment : ℤ) (h : IsHeld old.state old.orders old.closed moment) (id window place : ℤ) where
  pub joins-move : JoinsSeats old.closed moment (moves id window place old)
      (act (Move id window place) (held old.state old.orders old.closed moment))
  joins-move =
      let b = held old.state old.orders old.closed moment in
      let to = nat_of place in
      seats-tab old moment h id _ _ (λ st found. seats-window old moment h window _ _ (λ w live.
      let there : is_some (find_row int_cmp open_key window b.windows) ≡ true = ap is_some live in
      let count = count-others old moment h id st found window to there in
      seats-where old.closed moment (is_above place (others st.window st.place old.orders window))
      (is_above place (length (moving.others_of st window b.windows))) (Place place)
      (Ok (move_step id st.window window st.place to old))
      (issues (moving.moved_tab st window to b) (moving.move st window to b)) (ap (is_above place) count) (λ low.
      let room = above-room place (length (moving.others_of st window b.windows)) low in
      joins-moved old moment h id st found window to there room
      (move-matches old.state b id window st w to h.running h.matches found live room))))
