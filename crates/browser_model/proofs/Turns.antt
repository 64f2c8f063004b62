-- Runs of commands that change tabs which stand: together they are one map over the state's tabs.
use Rattle.std.proofs.Common.{◌≡◌, is_some, Bool, true, false, cond, if◌then◌else◌, ℤ, List, [], ◌∷◌, ◌++◌, map, Some}
use Rattle.std.proofs.Common.{refl, sym, ap, subst, ◌∙◌}
use Rattle.std.specs.Ordering.{int_cmp, is_eq}
use Rattle.std.specs.List.Sorted.{IsStrictlySortedBy}
use Rattle.std.specs.Cmp.{int_cmp_total}
use Rattle.std.proofs.lemmas.Map.Lookups.{exact_signed}
use Rattle.std.proofs.lemmas.List.{length-map}
use Rattle.session_commands.specs.declared.command.SessionCommand.{SessionCommand}
use Rattle.session_commands.specs.declared.command.SessionCommand.TheVariants.{TabWindow}
use Rattle.window_state.specs.declared.tab.Tab.{Tab}
use Rattle.window_state.specs.declared.window.Window.{Window}
use Rattle.window_state.specs.Keys.{tab_key, window_key}
use Rattle.window_state.specs.RowLists.{find_row, step_row, only, on_key}
use Rattle.window_state.specs.Changes.{new_tab, new_window}
use Rattle.window_state.specs.States.{State, on_tab, placed, stands}
use Rattle.window_state.proofs.OnlyLaws.{only-map, find-only, only-some, step-map}
use Rattle.replay_machine.specs.Step.{step, fold}
use Rattle.browser_model.specs.Running.{IsRunning}

abbrev pub has_tab : ℤ → State → Bool
has_tab id s = is_some (find_row int_cmp tab_key id s.tabs)

abbrev pub mapped : (Tab → Tab) → State → State
mapped g s = record s { tabs = map g s.tabs }

abbrev pub on : ℤ → (Tab → Tab) → Tab → Tab
on id f = on_key int_cmp tab_key id f

pub map-map : {X Y Z : Type 0} (f : X → Y) (g : Y → Z) (xs : List X) → map g (map f xs) ≡ map (λ x. g (f x)) xs
map-map f g [] = refl
map-map f g (x ∷ xs) = ap (λ ys. g (f x) ∷ ys) (map-map f g xs)

pub map-agree : {X Y : Type 0} (f g : X → Y) → ((x : X) → f x ≡ g x) → (xs : List X) → map f xs ≡ map g xs
map-agree f g same [] = refl
map-agree f g same (x ∷ xs) = rw (same x) (ap (λ ys. g x ∷ ys) (map-agree f g same xs))

pub map-same : {X : Type 0} (f : X → X) → ((x : X) → f x ≡ x) → (xs : List X) → map f xs ≡ xs
map-same f same [] = refl
map-same f same (x ∷ xs) = rw (same x) (ap (λ ys. x ∷ ys) (map-same f same xs))

pub on-key : (id : ℤ) (f : Tab → Tab) → ((t : Tab) → tab_key (f t) ≡ tab_key t) → (t : Tab)
    → tab_key (on id f t) ≡ tab_key t
on-key id f same t = elim (is_eq (int_cmp id (tab_key t))) as (λ b. tab_key (cond b (f t) t) ≡ tab_key t)
    [ true ↦ same t | false ↦ refl ]

pub has-mapped : (id : ℤ) (g : Tab → Tab) → ((t : Tab) → tab_key (g t) ≡ tab_key t) → (s : State) → has_tab id s ≡ true
    → has_tab id (mapped g s) ≡ true
has-mapped id g same s has =
    let found = only-some int_cmp tab_key id s.tabs has in
    let through : only int_cmp tab_key id (map g s.tabs) ≡ g found.0 ∷ map g found.1 =
    only-map int_cmp tab_key g same id s.tabs ∙ ap (map g) found.2 in
    rw (find-only int_cmp tab_key id (g found.0) (map g found.1) (map g s.tabs) through) refl

pub running-mapped : (g : Tab → Tab) → ((t : Tab) → tab_key (g t) ≡ tab_key t) → (s : State) → IsRunning s
    → IsRunning (mapped g s)
running-mapped g same s r = record {
  tabs = subst (IsStrictlySortedBy int_cmp) (sym
      (map-map g tab_key s.tabs ∙ map-agree (λ t. tab_key (g t)) tab_key same s.tabs)) r.tabs;
  windows = r.windows;
  within = rw (length-map s.tabs g) r.within;
}

pub fold-append : (s : State) (xs ys : List SessionCommand) → fold s (xs ++ ys) ≡ fold (fold s xs) ys
fold-append s [] ys = refl
fold-append s (x ∷ xs) ys = fold-append (step s x) xs ys

-- in each state in order in which these tabs and these windows stand, the commands change its tabs and nothing else
pub record Turns (has : ℤ → Type 0) (open_ : ℤ → Type 0) (g : Tab → Tab) (commands : List SessionCommand) : Type 0 where
  pub keys : (t : Tab) → tab_key (g t) ≡ tab_key t
  pub to : (s : State) → IsRunning s → ((id : ℤ) → has id → has_tab id s ≡ true)
      → ((id : ℤ) → open_ id → stands id s.windows ≡ true) → fold s commands ≡ mapped g s

module _ (has open_ : ℤ → Type 0) where
  pub turns-none : Turns has open_ (λ t. t) []
  turns-none = record { keys = λ t. refl; to = λ s r h o. rw (map-same {X = Tab} (λ t. t) (λ t. refl) s.tabs) refl }

  pub turns-one : (id : ℤ) (f : Tab → Tab) (command : SessionCommand) → ((t : Tab) → tab_key (f t) ≡ tab_key t) → has id
      → ((s : State) → step s command ≡ on_tab id f s) → Turns has open_ (on id f) (command ∷ [])
  turns-one id f command same own steps = record
      { keys = on-key id f same; to = λ s r h o. steps s ∙ turned s r (h id own) }
    where
      turned : (s : State) → IsRunning s → has_tab id s ≡ true → on_tab id f s ≡ mapped (on id f) s
      turned s r h =
          let map_is = step-map int_cmp tab_key int_cmp_total exact_signed id (new_tab id) f s.tabs r.tabs h in
          rw (map_is, length-map s.tabs (on id f), r.within) refl

  pub turns-placed : (window id : ℤ) → has id → open_ window
      → Turns has open_ (on id (λ t. record t { window = Some window })) (TabWindow window id ∷ [])
  turns-placed window id own opened = record {
    keys = on-key id (λ t. record t { window = Some window }) (λ t. refl);
    to = λ s r h o. turned s r (h id own) (o window opened);
  }
    where
      turned : (s : State) → IsRunning s → has_tab id s ≡ true → stands window s.windows ≡ true
          → placed window id s ≡ mapped (on id (λ t. record t { window = Some window })) s
      turned s r h o =
          let map_is = step-map int_cmp tab_key int_cmp_total exact_signed id (new_tab id)
          (λ t. record t { window = Some window }) s.tabs r.tabs h in
          let left : step_row int_cmp window_key window (new_window window) (λ w. w) s.windows ≡ s.windows =
          step-map int_cmp window_key int_cmp_total exact_signed window (new_window window) (λ w. w) s.windows r.windows
          o
          ∙ map-same (on_key int_cmp window_key window (λ (w : Window). w))
          (λ w. elim (is_eq (int_cmp window (window_key w))) as (λ b. cond b w w ≡ w)
          [ true ↦ refl | false ↦ refl ]) s.windows in
          rw (map_is, left, length-map s.tabs (on id (λ t. record t { window = Some window })), r.within) refl

  pub turns-then : (f g : Tab → Tab) (xs ys : List SessionCommand) → Turns has open_ f xs → Turns has open_ g ys
      → Turns has open_ (λ t. g (f t)) (xs ++ ys)
  turns-then f g xs ys first second = record {
    keys = λ t. second.keys (f t) ∙ first.keys t;
    to = λ s r h o.
        fold-append s xs ys ∙ ap (λ t. fold t ys) (first.to s r h o)
        ∙ second.to (mapped f s) (running-mapped f first.keys s r) (λ id own. has-mapped id f first.keys s (h id own)) o
        ∙ ap (λ tabs. record s { tabs = tabs }) (map-map f g s.tabs);
  }

  pub turns-where : (b : Bool) (f : Tab → Tab) (xs : List SessionCommand) → Turns has open_ f xs
      → Turns has open_ (λ t. if b then f t else t) (if b then xs else [])
  turns-where true f xs turns = turns
  turns-where false f xs turns = turns-none
