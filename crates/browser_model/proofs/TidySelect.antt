-- Tabs and windows changed by one run: the tabs of all shown windows, and each window's selected place.
use Rattle.std.proofs.Common.{◌≡◌, zero, Bool, true, false, cond, if◌then◌else◌, ℤ, pos, List, [], ◌∷◌, ◌++◌, map}
use Rattle.std.proofs.Common.{filter, refl, sym, ap, subst, ◌∙◌}
use Rattle.std.specs.declared.cmp.Ordering.TheVariants.{Less}
use Rattle.std.specs.Ordering.{int_eq, int_cmp, is_eq}
use Rattle.std.specs.Cmp.{int_cmp_total}
use Rattle.std.specs.List.{AllByRecursion}
use Rattle.std.specs.List.Sorted.{IsStrictlySortedBy}
use Rattle.std.proofs.lemmas.Map.Keys.{sorted_head, sorted_tail}
use Rattle.std.proofs.lemmas.Map.Lookups.{exact_signed}
use Rattle.std.proofs.lemmas.List.{length-map}
use Rattle.session_commands.specs.declared.command.SessionCommand.{SessionCommand}
use Rattle.session_commands.specs.declared.command.SessionCommand.TheVariants.{SelectTab}
use Rattle.tab_pages.specs.PageLists.{has_page}
use Rattle.window_state.specs.declared.tab.Tab.{Tab}
use Rattle.window_state.specs.declared.window.Window.{Window}
use Rattle.window_state.specs.Keys.{tab_key, window_key}
use Rattle.window_state.specs.RowLists.{only, on_key}
use Rattle.window_state.specs.Changes.{new_window}
use Rattle.window_state.specs.States.{State, stands, on_window}
use Rattle.window_state.proofs.OnlyLaws.{only-map, only-some, find-only, step-map}
use Rattle.window_state.proofs.IdLaws.{equals_itself, same_key, flip}
use Rattle.replay_machine.specs.Step.{step, fold}
use Rattle.browser_model.specs.Running.{IsRunning}
use Rattle.browser_model.specs.Browsers.{window_row}
use Rattle.browser_model.specs.Tidying.{tidy_tabs, tidy_window, unless, seen_place, tidy_windows}
use Rattle.browser_model.specs.Tidied.{tidied_with, tidied_windows}
use Rattle.browser_model.proofs.Turns.{Turns, has_tab, map-map, map-agree, map-same, fold-append, has-mapped}
use Rattle.browser_model.proofs.Turns.{running-mapped}
use Rattle.browser_model.proofs.TidyAll.{told, told_all, AllStand, turns-told}

abbrev pub both_mapped : (Tab → Tab) → (Window → Window) → State → State
both_mapped g h s = record s { tabs = map g s.tabs; windows = map h s.windows }

pub record Both (has : ℤ → Type 0) (open_ : ℤ → Type 0) (g : Tab → Tab) (h : Window → Window)
    (commands : List SessionCommand) : Type 0 where
  pub keys : (t : Tab) → tab_key (g t) ≡ tab_key t
  pub ids : (w : Window) → window_key (h w) ≡ window_key w
  pub to : (s : State) → IsRunning s → ((id : ℤ) → has id → has_tab id s ≡ true)
      → ((id : ℤ) → open_ id → stands id s.windows ≡ true) → fold s commands ≡ both_mapped g h s

stands-mapped : (id : ℤ) (h : Window → Window) → ((w : Window) → window_key (h w) ≡ window_key w) → (ws : List Window)
    → stands id ws ≡ true → stands id (map h ws) ≡ true
stands-mapped id h same ws there =
    let found = only-some int_cmp window_key id ws there in
    let through : only int_cmp window_key id (map h ws) ≡ h found.0 ∷ map h found.1 =
    only-map int_cmp window_key h same id ws ∙ ap (map h) found.2 in
    rw (find-only int_cmp window_key id (h found.0) (map h found.1) (map h ws) through) refl

pub running-both : (g : Tab → Tab) (h : Window → Window) → ((t : Tab) → tab_key (g t) ≡ tab_key t)
    → ((w : Window) → window_key (h w) ≡ window_key w) → (s : State) → IsRunning s → IsRunning (both_mapped g h s)
running-both g h keys ids s r =
    let half = running-mapped g keys s r in
    record {
      tabs = half.tabs;
      windows = subst (IsStrictlySortedBy int_cmp)
          (sym (map-map h window_key s.windows ∙ map-agree (λ w. window_key (h w)) window_key ids s.windows)) r.windows;
      within = rw (length-map s.windows h) half.within;
    }

module _ (has open_ : ℤ → Type 0) where
  pub both-none : Both has open_ (λ t. t) (λ w. w) []
  both-none = record {
    keys = λ t. refl;
    ids = λ w. refl;
    to =
        λ s r h o. rw (map-same (λ (t : Tab). t) (λ t. refl) s.tabs, map-same (λ (w : Window). w) (λ w. refl) s.windows)
        refl;
  }

  pub both-tabs : (g : Tab → Tab) (commands : List SessionCommand) → Turns has open_ g commands
      → Both has open_ g (λ w. w) commands
  both-tabs g commands turns = record {
    keys = turns.keys;
    ids = λ w. refl;
    to = λ s r h o. turns.to s r h o
        ∙ ap (λ (ws : List Window). record s { tabs = map g s.tabs; windows = ws })
        (sym (map-same (λ (w : Window). w) (λ w. refl) s.windows));
  }

  pub both-select : (id : ℤ) (f : Window → Window) (command : SessionCommand)
      → ((w : Window) → window_key (f w) ≡ window_key w) → open_ id → ((s : State) → step s command ≡ on_window id f s)
      → Both has open_ (λ t. t) (on_key int_cmp window_key id f) (command ∷ [])
  both-select id f command same own steps = record {
    keys = λ t. refl;
    ids = λ w. elim (is_eq (int_cmp id (window_key w))) as (λ b. window_key (cond b (f w) w) ≡ window_key w)
        [ true ↦ same w | false ↦ refl ];
    to = λ s r h o. steps s ∙ turned s r (o id own);
  }
    where
      turned : (s : State) → IsRunning s → stands id s.windows ≡ true
          → on_window id f s ≡ both_mapped (λ t. t) (on_key int_cmp window_key id f) s
      turned s r there =
          let map_is = step-map int_cmp window_key int_cmp_total exact_signed id (new_window id) f s.windows r.windows
          there in
          rw (
            map_is,
            length-map s.windows (on_key int_cmp window_key id f),
            r.within,
            map-same (λ (t : Tab). t) (λ t. refl) s.tabs,
          ) refl

  pub both-then : (f g : Tab → Tab) (h k : Window → Window) (xs ys : List SessionCommand) → Both has open_ f h xs
      → Both has open_ g k ys → Both has open_ (λ t. g (f t)) (λ w. k (h w)) (xs ++ ys)
  both-then f g h k xs ys first second = record {
    keys = λ t. second.keys (f t) ∙ first.keys t;
    ids = λ w. second.ids (h w) ∙ first.ids w;
    to = λ s r hs os.
        fold-append s xs ys ∙ ap (λ t. fold t ys) (first.to s r hs os)
        ∙ second.to (both_mapped f h s) (running-both f h first.keys first.ids s r)
        (λ id own. has-mapped id f first.keys s (hs id own))
        (λ id own. stands-mapped id h first.ids s.windows (os id own))
        ∙ (λ i. record s { tabs = map-map f g s.tabs i; windows = map-map h k s.windows i });
  }

-- each window's selected place
abbrev pub select_one : Window → List Tab → Window → Window
select_one w [] x = x
select_one w (t ∷ ts) x = if int_eq w.selected (pos (seen_place w (t ∷ ts))) then x else on_key int_cmp window_key
    w.info.id (λ y. record y { selected = pos (seen_place w (t ∷ ts)) }) x

abbrev pub select_all : (ℤ → List Tab) → List Window → Window → Window
select_all tabs_of [] x = x
select_all tabs_of (w ∷ ws) x = select_all tabs_of ws (select_one w (tabs_of w.info.id) x)

-- the windows with shown tabs are open, and all their tabs stand
abbrev pub AllOpen : (ℤ → Type 0) → (ℤ → Type 0) → (ℤ → List Tab) → List Window → Type 0
AllOpen has open_ tabs_of [] = Unit {0}
AllOpen has open_ tabs_of (w ∷ ws) = (AllStand has (tabs_of w.info.id)
    × (has_page (tabs_of w.info.id) ≡ true → open_ w.info.id)) × AllOpen has open_ tabs_of ws

both-window : (has open_ : ℤ → Type 0) (w : Window) (X : List Tab) → AllStand has X
    → (has_page X ≡ true → open_ w.info.id) → Both has open_ (told zero X) (select_one w X) (tidy_window w X)
both-window has open_ w [] all opened = both-none has open_
both-window has open_ w (t ∷ ts) all opened =
    both-then has open_ (told zero (t ∷ ts)) (λ x. x) (λ x. x) (select_one w (t ∷ ts)) (tidy_tabs zero (t ∷ ts))
    (unless (int_eq w.selected (pos (seen_place w (t ∷ ts)))) (SelectTab w.info.id (pos (seen_place w (t ∷ ts)))))
    (both-tabs has open_ (told zero (t ∷ ts)) (tidy_tabs zero (t ∷ ts)) (turns-told has open_ zero (t ∷ ts) all))
    (by (int_eq w.selected (pos (seen_place w (t ∷ ts)))))
  where
    place : ℤ
    place = pos (seen_place w (t ∷ ts))

    by : (b : Bool) → Both has open_ (λ x. x)
        (λ x. if b then x else on_key int_cmp window_key w.info.id
        (λ y. record y { selected = pos (seen_place w (t ∷ ts)) }) x)
        (unless b (SelectTab w.info.id (pos (seen_place w (t ∷ ts)))))
    by true = both-none has open_
    by false = both-select has open_ w.info.id (λ y. record y { selected = pos (seen_place w (t ∷ ts)) })
        (SelectTab w.info.id (pos (seen_place w (t ∷ ts)))) (λ y. refl) (opened refl) (λ s. refl)

pub both-windows : (has open_ : ℤ → Type 0) (tabs_of : ℤ → List Tab) (ws : List Window) → AllOpen has open_ tabs_of ws
    → Both has open_ (told_all tabs_of ws) (select_all tabs_of ws) (tidy_windows tabs_of ws)
both-windows has open_ tabs_of [] all = both-none has open_
both-windows has open_ tabs_of (w ∷ ws) all =
    both-then has open_ (told zero (tabs_of w.info.id)) (told_all tabs_of ws) (select_one w (tabs_of w.info.id))
    (select_all tabs_of ws) (tidy_window w (tabs_of w.info.id)) (tidy_windows tabs_of ws)
    (both-window has open_ w (tabs_of w.info.id) all.0.0 all.0.1) (both-windows has open_ tabs_of ws all.1)

-- the shown windows, each with the place that is seen
select-one-other : (w : Window) (X : List Tab) (x : Window) → is_eq (int_cmp w.info.id x.info.id) ≡ false
    → select_one w X x ≡ x
select-one-other w [] x apart = refl
select-one-other w (t ∷ ts) x apart = by (int_eq w.selected (pos (seen_place w (t ∷ ts))))
  where
    by : (b : Bool) → (if b then x else on_key int_cmp window_key w.info.id
        (λ y. record y { selected = pos (seen_place w (t ∷ ts)) }) x) ≡ x
    by true = refl
    by false = ap (λ b. cond b (record x { selected = pos (seen_place w (t ∷ ts)) }) x) apart

select-all-other : (tabs_of : ℤ → List Tab) (ws : List Window) (x : Window)
    → AllByRecursion (λ y. int_cmp x.info.id y ≡ Less) (map window_key ws) → select_all tabs_of ws x ≡ x
select-all-other tabs_of [] x all = refl
select-all-other tabs_of (w ∷ ws) x all =
    let less = all.0 in
    let apart : is_eq (int_cmp x.info.id w.info.id) ≡ false = rw less refl in
    ap (select_all tabs_of ws) (select-one-other w (tabs_of w.info.id) x (flip x.info.id w.info.id apart))
    ∙ select-all-other tabs_of ws x all.1

pub selected-windows : (tabs_of : ℤ → List Tab) (ws : List Window) → IsStrictlySortedBy int_cmp (map window_key ws)
    → map (select_all tabs_of ws) (filter (λ w. has_page (tabs_of w.info.id)) ws)
    ≡ map window_row (tidied_windows tabs_of ws)
selected-windows tabs_of [] sorted = refl
selected-windows tabs_of (w ∷ ws) sorted =
    by (selected-windows tabs_of ws (sorted_tail int_cmp w.info.id (map window_key ws) sorted)) (tabs_of w.info.id) refl
  where
    head : AllByRecursion (λ y. int_cmp w.info.id y ≡ Less) (map window_key ws)
    head = sorted_head int_cmp w.info.id (map window_key ws) sorted

    tail : (X : List Tab) (vs : List Window) → AllByRecursion (λ y. int_cmp w.info.id y ≡ Less) (map window_key vs)
        → map (λ x. select_all tabs_of ws (select_one w X x)) (filter (λ v. has_page (tabs_of v.info.id)) vs)
        ≡ map (select_all tabs_of ws) (filter (λ v. has_page (tabs_of v.info.id)) vs)
    tail X [] all = refl
    tail X (v ∷ vs) all =
        let less = all.0 in
        let apart : is_eq (int_cmp w.info.id v.info.id) ≡ false = rw less refl in
        let rest = tail X vs all.1 in
        let one = ap (select_all tabs_of ws) (select-one-other w X v apart) in
        elim (has_page (tabs_of v.info.id)) as (λ b. map (λ x. select_all tabs_of ws (select_one w X x))
        (cond b (v ∷ filter (λ u. has_page (tabs_of u.info.id)) vs) (filter (λ u. has_page (tabs_of u.info.id)) vs))
        ≡ map (select_all tabs_of ws) (cond b (v ∷ filter (λ u. has_page (tabs_of u.info.id)) vs)
        (filter (λ u. has_page (tabs_of u.info.id)) vs))) [
          | true ↦ ap (λ y. y ∷ map (λ x. select_all tabs_of ws (select_one w X x))
              (filter (λ u. has_page (tabs_of u.info.id)) vs)) one
              ∙ ap (λ ys. select_all tabs_of ws v ∷ ys) rest
          | false ↦ rest
        ]

    own : (t : Tab) (ts : List Tab) → select_one w (t ∷ ts) w ≡ record w { selected = pos (seen_place w (t ∷ ts)) }
    own t ts = at (int_eq w.selected (pos (seen_place w (t ∷ ts)))) refl
      where
        at : (b : Bool) → int_eq w.selected (pos (seen_place w (t ∷ ts))) ≡ b
            → (if b then w else on_key int_cmp window_key w.info.id
            (λ y. record y { selected = pos (seen_place w (t ∷ ts)) }) w)
            ≡ record w { selected = pos (seen_place w (t ∷ ts)) }
        at true e = ap (λ z. record w { selected = z }) (same_key w.selected (pos (seen_place w (t ∷ ts))) e)
        at false e = ap (λ b. cond b (record w { selected = pos (seen_place w (t ∷ ts)) }) w) (equals_itself w.info.id)

    by : map (select_all tabs_of ws) (filter (λ v. has_page (tabs_of v.info.id)) ws)
        ≡ map window_row (tidied_windows tabs_of ws) → (X : List Tab) → tabs_of w.info.id ≡ X
        → map (λ x. select_all tabs_of ws (select_one w (tabs_of w.info.id) x))
        (cond (has_page (tabs_of w.info.id)) (w ∷ filter (λ v. has_page (tabs_of v.info.id)) ws)
        (filter (λ v. has_page (tabs_of v.info.id)) ws))
        ≡ map window_row (tidied_with w (tabs_of w.info.id) (tidied_windows tabs_of ws))
    by rest X e =
        subst (λ Y. map (λ x. select_all tabs_of ws (select_one w Y x))
        (cond (has_page Y) (w ∷ filter (λ v. has_page (tabs_of v.info.id)) ws)
        (filter (λ v. has_page (tabs_of v.info.id)) ws))
        ≡ map window_row (tidied_with w Y (tidied_windows tabs_of ws))) (sym e) (at X)
      where
        at : (Y : List Tab) → map (λ x. select_all tabs_of ws (select_one w Y x))
            (cond (has_page Y) (w ∷ filter (λ v. has_page (tabs_of v.info.id)) ws)
            (filter (λ v. has_page (tabs_of v.info.id)) ws))
            ≡ map window_row (tidied_with w Y (tidied_windows tabs_of ws))
        at [] = tail [] ws head ∙ rest
        at (t ∷ ts) =
            let mine : select_all tabs_of ws (select_one w (t ∷ ts) w)
            ≡ record w { selected = pos (seen_place w (t ∷ ts)) } = ap (select_all tabs_of ws) (own t ts)
            ∙ select-all-other tabs_of ws (record w { selected = pos (seen_place w (t ∷ ts)) }) head in
            ap (λ y. y ∷ map (λ x. select_all tabs_of ws (select_one w (t ∷ ts) x))
            (filter (λ v. has_page (tabs_of v.info.id)) ws)) mine
            ∙ ap (λ ys. record w { selected = pos (seen_place w (t ∷ ts)) } ∷ ys) (tail (t ∷ ts) ws head ∙ rest)
