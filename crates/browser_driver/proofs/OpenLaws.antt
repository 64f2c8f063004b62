-- A window or a tab that is opened: the state and the orders hold the browser with it.
use Rattle.std.proofs.Common.{◌≡◌, ℕ, suc, ◌≤◌, nat_le, Bool, true, false, not, ◌&&◌, ◌||◌, if◌then◌else◌, ℤ, pos}
use Rattle.std.proofs.Common.{List, [], ◌∷◌, ◌++◌, map, length, Option, Some, None, is_some, option_map, refl, sym, ap}
use Rattle.std.proofs.Common.{subst, ◌∙◌, arith}
use Rattle.std.specs.Cmp.{IsTotalOrder, int_cmp_total}
use Rattle.std.specs.declared.cmp.Ordering.{Ordering}
use Rattle.std.specs.declared.cmp.Ordering.TheVariants.{Less, Equal, Greater}
use Rattle.std.specs.List.{insert}
use Rattle.std.specs.List.Sorted.{IsStrictlySortedBy}
use Rattle.std.specs.Option.{unwrap_or}
use Rattle.std.specs.Ordering.{int_cmp, int_eq}
use Rattle.std.proofs.lemmas.Bool.Decides.{nat_tests}
use Rattle.std.proofs.lemmas.List.{length-map, map-append}
use Rattle.std.proofs.lemmas.List.Edits.{insert_end}
use Rattle.std.proofs.lemmas.Map.Lookups.{exact_signed}
use Rattle.closed_entries.specs.declared.entry.Entry.{Entry}
use Rattle.session_commands.specs.declared.command.SessionCommand.TheVariants.{TabIndex, TabWindow, WindowKind}
use Rattle.script_lines.specs.declared.verb.Verb.TheVariants.{Tab, Window}
use Rattle.window_state.specs.declared.change.TabEdit.{TabEdit}
use Rattle.window_state.specs.declared.change.TabEdit.TheVariants.{Index}
use Rattle.window_state.specs.Changes.{edited_tab, new_tab, new_window}
use Rattle.window_state.specs.Keys.{tab_key, window_key}
use Rattle.window_state.specs.Limits.{limit}
use Rattle.window_state.specs.RowLists.{find_row, on_key, step_row}
use Rattle.window_state.specs.States.{State, IsState, on_tab, placed, stands, with_both}
use Rattle.window_state.proofs.FindLaws.{find-step, find-beside}
use Rattle.window_state.proofs.IdLaws.{equals_itself, same_key}
use Rattle.window_state.proofs.OnlyLaws.{step-map}
use Rattle.window_state.proofs.StateLaws.{itself}
use Rattle.replay_machine.specs.Step.{fold}
use Rattle.browser_model.specs.Browsers.{Browser, BrowserTab, BrowserWindow, own_id, open_key, row_of, Matches}
use Rattle.browser_model.specs.Opening as opening
use Rattle.browser_model.specs.Opening.{fresh_tab, fresh_window}
use Rattle.browser_model.specs.Running.{IsRunning}
use Rattle.browser_model.specs.Tabs.{stand_of, tabs_of, tabs_or_none, with_tabs}
use Rattle.browser_model.proofs.Matching.{in-order}
use Rattle.browser_model.proofs.OpenLaws.{open-matches}
use Rattle.browser_model.proofs.OpenWindowLaws.{normal, open_window-matches}
use Rattle.browser_model.proofs.RoomLaws.{count-tabs, count-windows, room-tab, room-window}
use Rattle.browser_model.proofs.RunningLaws.{running-fold, running-placed}
use Rattle.browser_model.proofs.Splits.{InOrder}
use Rattle.browser_model.proofs.WindowLaws.{stands-is}
use Rattle.browser_driver.specs.Acts.{Answer, act, outcome, has_most_windows, is_live, is_open, issues, refused_where}
use Rattle.browser_driver.specs.Acts.{lacks_room as lacks_room_in}
use Rattle.browser_driver.specs.Held.{held, AreSeated, IsHeld}
use Rattle.browser_driver.specs.OpenPlans.{is_there, lacks_room, opens_last, opens_tab, opens_window}
use Rattle.browser_driver.specs.Orders.{order_of}
use Rattle.browser_driver.specs.Plans.{refuses_where, with_edit}
use Rattle.browser_driver.specs.SeatPlans.{Parts, SeatPlan, set_order}
use Rattle.browser_driver.specs.WindowPlans.{does}
use Rattle.browser_driver.specs.declared.fault.VerbFault.{VerbFault}
use Rattle.browser_driver.specs.declared.fault.VerbFault.TheVariants.{Full, Taken}
use Rattle.browser_driver.proofs.AnswerLaws.{IsDone, Joins, joins-where}
use Rattle.browser_driver.proofs.FoundLaws.{found-row}
use Rattle.browser_driver.proofs.SeatAnswers.{JoinsSeats}
use Rattle.browser_driver.proofs.WindowLaws.{groups-kept, joins-does}

-- rows are full for one more where there are as many as there may be, and none has its key
module _ {K R : Type 0} (cmp : K → K → Ordering) (key : R → K) (total : IsTotalOrder cmp)
    (exact : (x y : K) → cmp x y ≡ Equal → x ≡ y) (k : K) (fresh : R) (rows : List R)
    (sorted : IsStrictlySortedBy cmp (map key rows)) where
  step-absent : (rs : List R) → find_row cmp key k rs ≡ None
      → length (step_row cmp key k fresh (λ r. r) rs) ≡ suc (length rs)
  step-absent [] none = refl
  step-absent (r ∷ rs) none = by (step-absent rs) (cmp k (key r)) refl
    where
      by : (find_row cmp key k rs ≡ None → length (step_row cmp key k fresh (λ r. r) rs) ≡ suc (length rs))
          → (o : Ordering) → cmp k (key r) ≡ o
          → length (step_row cmp key k fresh (λ r. r) (r ∷ rs)) ≡ suc (length (r ∷ rs))
      by rest Less e = rw e refl
      by rest Equal e = let none' : Some r ≡ None = rw e at none in absurd cc
      by rest Greater e = rw e (ap suc (rest (rw e at none)))

  pub full-is : (full : Bool) → length rows ≤ limit
      → nat_le (length (step_row cmp key k fresh (λ r. r) rows)) limit ≡ not full
      → full ≡ (not (is_some (find_row cmp key k rows)) && nat_le limit (length rows))
  full-is full few says = by (find_row cmp key k rows) refl full says
    where
      by : (o : Option R) → find_row cmp key k rows ≡ o → (full : Bool)
          → nat_le (length (step_row cmp key k fresh (λ r. r) rows)) limit ≡ not full
          → full ≡ (not (is_some (find_row cmp key k rows)) && nat_le limit (length rows))
      by None e true says =
          let more = step-absent rows e in
          let most : nat_le limit (length rows) ≡ true = grind (arith, nat_tests) in
          rw (e, most) refl
      by None e false says =
          let more = step-absent rows e in
          let room : nat_le limit (length rows) ≡ false = grind (arith, nat_tests) in
          rw (e, room) refl
      by (Some r) e true says =
          let stays = ap length (step-map cmp key total exact k fresh (λ r. r) rows sorted (ap is_some e))
          ∙ length-map rows (on_key cmp key k (λ r. r)) in
          let few' : nat_le (length rows) limit ≡ true = grind (arith, nat_tests) in
          let no : nat_le (length rows) limit ≡ false = ap (λ n. nat_le n limit) (sym stays) ∙ says in
          absurd cc
      by (Some r) e false says = rw e refl

-- what a state says of one tab or window more
pub full-tabs : (id : ℤ) (s : State) → IsState s → (full : Bool)
    → nat_le (length (step_row int_cmp tab_key id (new_tab id) (λ t. t) s.tabs)) limit ≡ not full
    → full ≡ (not (is_there id s) && nat_le limit (length s.tabs))
full-tabs id s known full says = full-is int_cmp tab_key int_cmp_total exact_signed id (new_tab id) s.tabs
    known.ordered.tabs full known.kept.tabs says

pub full-windows : (id : ℤ) (s : State) → IsState s → (full : Bool)
    → nat_le (length (step_row int_cmp window_key id (new_window id) (λ w. w) s.windows)) limit ≡ not full
    → full ≡ (not (stands id s.windows) && nat_le limit (length s.windows))
full-windows id s known full says = full-is int_cmp window_key int_cmp_total exact_signed id (new_window id) s.windows
    known.ordered.windows full known.kept.windows says

module _ (window id : ℤ) (s : State) (known : IsState s) (absent : is_there id s ≡ false) where
  tabs-lack : (full : Bool)
      → nat_le (length (step_row int_cmp tab_key id (new_tab id) (λ t. t) s.tabs)) limit ≡ not full
      → full ≡ nat_le limit (length s.tabs)
  tabs-lack full says =
      full-tabs id s known full says ∙ ap (λ there. not there && nat_le limit (length s.tabs)) absent

  pub lacks-tabs : nat_le (length (step_row int_cmp tab_key id (new_tab id) (λ t. t) s.tabs)) limit ≡ false
      → true ≡ lacks_room window s
  lacks-tabs says =
      ap (λ full. full || (not (stands window s.windows) && nat_le limit (length s.windows))) (tabs-lack true says)

  pub lacks-windows : nat_le (length (step_row int_cmp tab_key id (new_tab id) (λ t. t) s.tabs)) limit ≡ true
      → (full : Bool)
      → nat_le (length (step_row int_cmp window_key window (new_window window) (λ w. w) s.windows)) limit ≡ not full
      → full ≡ lacks_room window s
  lacks-windows few full says =
      full-windows window s known full says
      ∙ ap (λ tabs. tabs || (not (stands window s.windows) && nat_le limit (length s.windows))) (tabs-lack false few)

-- a window that isn't there opens where there is room
pub window-opens : (id : ℤ) (s : State) → IsState s → false ≡ stands id s.windows → (full : Bool)
    → nat_le (length (step_row int_cmp window_key id (new_window id) (λ w. w) s.windows)) limit ≡ not full
    → opens_window id s ≡ refuses_where full (Full id) (does (WindowKind id (pos 0)) s)
window-opens id s known absent full says =
    ap (λ there. refuses_where there (Taken id) (refuses_where (nat_le limit (length s.windows)) (Full id)
    (does (WindowKind id (pos 0)) s))) (sym absent)
    ∙ ap (λ most. refuses_where most (Full id) (does (WindowKind id (pos 0)) s)) (sym (full-windows id s known full says
    ∙ ap (λ there. not there && nat_le limit (length s.windows)) (sym absent)))

-- the tabs of a window that came or whose tabs changed, and of the others
tabs-stepped : (window : ℤ) (change : List BrowserTab → List BrowserTab) (ws : List BrowserWindow) → InOrder ws
    → (v : ℤ) → tabs_of v (step_row int_cmp open_key window (fresh_window window) (with_tabs change) ws)
    ≡ (if int_eq window v then change (tabs_of window ws) else tabs_of v ws)
tabs-stepped window change ws sorted v = by (int_eq window v) refl
  where
    of_row : (o : Option BrowserWindow)
        → (with_tabs change (unwrap_or o (fresh_window window))).tabs ≡ change (tabs_or_none o)
    of_row None = refl
    of_row (Some w) = refl

    by : (b : Bool) → int_eq window v ≡ b
        → tabs_of v (step_row int_cmp open_key window (fresh_window window) (with_tabs change) ws)
        ≡ (if b then change (tabs_of window ws) else tabs_of v ws)
    by true e =
        ap (λ q. tabs_of q (step_row int_cmp open_key window (fresh_window window) (with_tabs change) ws))
        (sym (same_key window v e))
        ∙ ap tabs_or_none (find-step int_cmp open_key int_cmp_total exact_signed window (fresh_window window)
        (with_tabs change) ws (itself window) refl (λ w. refl) sorted)
        ∙ of_row (find_row int_cmp open_key window ws)
    by false e = ap tabs_or_none (find-beside int_cmp open_key int_cmp_total exact_signed v window (fresh_window window)
        (with_tabs change) ws apart (itself window) refl (λ w. refl))
      where
        apart : v ≡ window → ⊥
        apart same =
            let yes_ : int_eq window v ≡ true = ap (int_eq window) same ∙ equals_itself window in
            absurd cc

-- a tab that stands is edited as a change of it says
edit-is : (id : ℤ) (edit : TabEdit) (s : State) → IsRunning s → is_there id s ≡ true
    → with_edit id edit s ≡ on_tab id (edited_tab edit) s
edit-is id edit s r there =
    let change = edited_tab edit in
    let map_is = step-map int_cmp tab_key int_cmp_total exact_signed id (new_tab id) change s.tabs r.tabs there in
    sym (rw (map_is, length-map s.tabs (on_key int_cmp tab_key id change), r.within) refl)

module _ (s : State) (orders : List (ℤ × List ℤ)) (closed : List Entry) (moment : ℤ)
    (h : IsHeld s orders closed moment) where
  abbrev b : Browser
  b = held s orders closed moment

  sorted : InOrder b.windows
  sorted = in-order s b h.running h.matches

  -- a window that opens has no tabs
  seated-opened_window : (id : ℤ) → AreSeated orders (opening.opened_window id b).windows
  seated-opened_window id v =
      h.seated v ∙ ap (map own_id) (sym (tabs-stepped id (λ tabs. tabs) b.windows sorted v ∙ by (int_eq id v) refl))
    where
      by : (same : Bool) → int_eq id v ≡ same
          → (if same then tabs_of id b.windows else tabs_of v b.windows) ≡ tabs_of v b.windows
      by true e = ap (λ q. tabs_of q b.windows) (same_key id v e)
      by false e = refl

  pub joins-open_window : (id : ℤ) → Joins orders closed moment (opens_window id s) (act (Window id) b)
  joins-open_window id =
      joins-where orders closed moment (stands id s.windows) (is_open id b) (Taken id) _ _
      (stands-is s b id h.matches) (λ absent.
      joins-where orders closed moment (nat_le limit (length s.windows)) (has_most_windows b) (Full id)
      (does (WindowKind id (pos 0)) s) (issues (opening.opened_window id b) (opening.open_window id))
      (ap (nat_le limit) (count-windows s b h.matches)) (λ few.
      joins-does s orders closed moment h (WindowKind id (pos 0)) (opening.opened_window id b)
      (open_window-matches s b id h.matches absent (room-window s b id normal h.running h.matches few))
      (seated-opened_window id) (groups-kept id normal s) refl refl))

module _ (old : Parts) (moment : ℤ) (h : IsHeld old.state old.orders old.closed moment) (window id : ℤ) where
  abbrev before : Browser
  before = held old.state old.orders old.closed moment

  -- both are refused at the same values
  seats-where : (here there : Bool) (why : VerbFault) (plan : SeatPlan) (answer : Answer) → here ≡ there
      → (there ≡ false → JoinsSeats old.closed moment plan answer)
      → JoinsSeats old.closed moment (refuses_where here why plan) (refused_where there why answer)
  seats-where here there why plan answer same joins = rw same (by there refl)
    where
      by : (refused : Bool) → there ≡ refused
          → JoinsSeats old.closed moment (refuses_where refused why plan) (refused_where refused why answer)
      by true e = refl
      by false e = joins e

  there-is : is_there id old.state ≡ is_live id before
  there-is = ap is_some (found-row old.state before id h.running h.matches) ∙ by (stand_of id before)
    where
      by : (o : Option _) → is_some (option_map row_of o) ≡ is_some o
      by None = refl
      by (Some st) = refl

  room-is : lacks_room window old.state ≡ lacks_room_in window before
  room-is =
      let tabs = count-tabs old.state before h.running h.matches in
      let windows = count-windows old.state before h.matches in
      let open_is = stands-is old.state before window h.matches in
      rw (tabs, windows, open_is) refl

  abbrev place : ℕ
  place = length (order_of window old.orders)

  abbrev opened : State
  opened = with_edit id (Index (pos place)) (placed window id old.state)

  place-is : place ≡ length (tabs_of window before.windows)
  place-is = ap length (h.seated window) ∙ length-map (tabs_of window before.windows) own_id

  opened-is : lacks_room_in window before ≡ false → opened ≡ fold old.state (opening.open_tab window id before)
  opened-is room =
      let s1 = placed window id old.state in
      let both = room-tab old.state before window id h.running h.matches room in
      let made : s1 ≡ with_both window id old.state = rw both refl in
      let stands : is_there id s1 ≡ true = ap (is_there id) made
      ∙ ap is_some (find-step int_cmp tab_key int_cmp_total exact_signed id (new_tab id)
      (λ t. record t { window = Some window }) old.state.tabs (itself id) refl (λ t. refl) h.running.tabs) in
      edit-is id (Index (pos place)) s1 (running-placed window id old.state h.running) stands
      ∙ ap (λ n. fold old.state (TabWindow window id ∷ TabIndex id (pos n) ∷ [])) place-is

  seated-opened : (new : List (ℤ × List ℤ))
      → ((v : ℤ) → order_of v new ≡ set_order window (insert (order_of window old.orders) place id) old.orders v)
      → AreSeated new (opening.opened_tab window id before).windows
  seated-opened new says v =
      says v ∙ by (int_eq window v)
      ∙ sym (ap (map own_id) (tabs-stepped window (λ tabs. tabs ++ fresh_tab id ∷ []) before.windows
      (in-order old.state before h.running h.matches) v))
    where
      by : (same : Bool)
          → (if same then insert (order_of window old.orders) place id else order_of v old.orders)
          ≡ map own_id (if same then tabs_of window before.windows ++ fresh_tab id ∷ [] else tabs_of v before.windows)
      by true =
          insert_end (order_of window old.orders) id ∙ ap (λ ids. ids ++ id ∷ []) (h.seated window)
          ∙ sym (map-append own_id (tabs_of window before.windows) (fresh_tab id ∷ []))
      by false = h.seated v

  open-done : lacks_room_in window before ≡ false → is_live id before ≡ false → (new : List (ℤ × List ℤ))
      → ((v : ℤ) → order_of v new ≡ set_order window (insert (order_of window old.orders) place id) old.orders v)
      → IsDone opened new old.closed moment (opening.opened_tab window id before)
  open-done room absent new says =
      let commands = opening.open_tab window id before in
      let is = sym (opened-is room) in
      let both = room-tab old.state before window id h.running h.matches room in
      record {
        running = subst IsRunning is (running-fold old.state commands h.running);
        matches = subst (λ s. Matches s (opening.opened_tab window id before)) is
            (open-matches old.state before window id h.running h.matches absent both);
        seated = seated-opened new says;
        groups = rw both refl;
        closed_is = refl;
        moment_is = refl;
      }

  pub joins-open : JoinsSeats old.closed moment (opens_tab window id old) (act (Tab window id) before)
  joins-open =
      seats-where (is_there id old.state) (is_live id before) (Taken id) _ _ there-is (λ absent.
      seats-where (lacks_room window old.state) (lacks_room_in window before) (Full id) (opens_last window id old)
      (issues (opening.opened_tab window id before) (opening.open_tab window id before)) room-is (λ room. (
        open-done room absent,
        ap (λ n. outcome (opening.opened_tab window id before)
            (TabWindow window id ∷ TabIndex id (pos n) ∷ []) []) (sym place-is),
      )))
