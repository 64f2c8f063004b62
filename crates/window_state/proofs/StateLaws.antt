-- What every state keeps, after each change.
use Rattle.std.proofs.Common.{◌≡◌, ◌≢◌, ℕ, ◌≤◌, nat_le, ℤ, Bool, true, false, not, cond, ◌&&◌, List, [], ◌∷◌, filter, length, Option, Some, None, Result, Ok, Err, OnOk, OnErr, IfSome, if◌then◌else◌, refl, sym, subst, ◌∙◌, true≢false, arith}
use Rattle.std.proofs.lemmas.Int.{ints}
use Rattle.std.proofs.lemmas.Bool.Decides.{nat_tests}
use Rattle.std.proofs.lemmas.Map.Lookups.{exact_signed}
use Rattle.std.specs.Cmp.{int_cmp_total}
use Rattle.std.specs.declared.cmp.Ordering.TheVariants.{Equal}
use Rattle.std.specs.Ordering.{int_cmp, int_eq}
use Rattle.std.specs.List.{AllByRecursion}
use Rattle.window_state.specs.declared.tab.Tab.{Tab}
use Rattle.window_state.specs.declared.window.Window.{Window}
use Rattle.tab_pages.proofs.RangeLaws.{all-filter}
use Rattle.window_state.specs.Limits.{limit}
use Rattle.window_state.specs.RowLists.{step_row, without_row}
use Rattle.window_state.specs.Keys.{tab_key, window_key}
use Rattle.window_state.specs.Changes.{new_tab, new_window}
use Rattle.window_state.specs.Fits.{IsKeptTab, IsKeptWindow}
use Rattle.window_state.specs.States.{State, IsKept, HasWindow, is_in, stands, with_tab, with_window, with_both, on_tab, on_window, placed, tab_closed, without_window}
use Rattle.window_state.proofs.ChangeLaws.{kept-new_tab, kept-new_window, moved-tab}
use Rattle.window_state.proofs.RowLaws.{all-step, all-without, length-without, stands-step, stands-made, stands-without}

-- what holds of the new value and of the old one holds of what a call leaves
pub either : {T E X : Type 0} (P : X → Type 0) (r : Result T E) (left new old : X) → OnOk r (left ≡ new) → OnErr r (left ≡ old) → P new → P old → P left
either P (Ok v) left new old ok err n o = subst P (sym ok) n
either P (Err e) left new old ok err n o = subst P (sym err) o

pub itself : (x : ℤ) → int_cmp x x ≡ Equal
itself x = let same : int_cmp x x ≡ Equal = grind (arith, ints) in same

within : (n : ℕ) → nat_le n limit ≡ true → n ≤ limit
within n h = grind (arith, nat_tests)

-- a tab is changed and stays in its window
pub kept-tab : (id : ℤ) (change : Tab → Tab) (s : State) → ((t : Tab) → IsKeptTab t → IsKeptTab (change t)) → ((t : Tab) → (change t).window ≡ t.window)
    → nat_le (length (step_row int_cmp tab_key id (new_tab id) change s.tabs)) limit ≡ true → IsKept s → IsKept (with_tab id change s)
kept-tab id change s keeps stays room k = record {
  tabs = within (length (step_row int_cmp tab_key id (new_tab id) change s.tabs)) room;
  windows = k.windows;
  standing = all-step int_cmp tab_key (HasWindow s.windows) id (new_tab id) change s.tabs (has (new_tab id) tt) has k.standing;
  each_tab = all-step int_cmp tab_key IsKeptTab id (new_tab id) change s.tabs (keeps (new_tab id) (kept-new_tab id)) keeps k.each_tab;
  each_window = k.each_window;
}
  where
    has : (t : Tab) → HasWindow s.windows t → HasWindow s.windows (change t)
    has t h = subst (λ w. IfSome w (λ id. stands id s.windows ≡ true)) (sym (stays t)) h

weaker : {X : Type 0} (P Q : X → Type 0) → ((x : X) → P x → Q x) → (xs : List X) → AllByRecursion P xs → AllByRecursion Q xs
weaker P Q f [] all = tt
weaker P Q f (x ∷ xs) all = (f x all.0, weaker P Q f xs all.1)

-- where windows that stood stand still, tabs have their windows
has-still : (old new : List Window) → ((q : ℤ) → stands q old ≡ true → stands q new ≡ true) → (t : Tab) → HasWindow old t → HasWindow new t
has-still old new still t h = by t.window h
  where
    by : (w : Option ℤ) → IfSome w (λ id. stands id old ≡ true) → IfSome w (λ id. stands id new ≡ true)
    by None h = tt
    by (Some q) h = still q h

-- a window is changed
pub kept-window : (id : ℤ) (change : Window → Window) (s : State) → ((w : Window) → IsKeptWindow w → IsKeptWindow (change w)) → ((w : Window) → window_key (change w) ≡ window_key w)
    → nat_le (length (step_row int_cmp window_key id (new_window id) change s.windows)) limit ≡ true → IsKept s → IsKept (with_window id change s)
kept-window id change s keeps stays room k = record {
  tabs = k.tabs;
  windows = within (length (step_row int_cmp window_key id (new_window id) change s.windows)) room;
  standing = weaker (HasWindow s.windows) (HasWindow (step_row int_cmp window_key id (new_window id) change s.windows))
      (has-still s.windows (step_row int_cmp window_key id (new_window id) change s.windows) (λ q found. stands-step int_cmp window_key int_cmp_total q id (new_window id) change s.windows stays found)) s.tabs k.standing;
  each_tab = k.each_tab;
  each_window = all-step int_cmp window_key IsKeptWindow id (new_window id) change s.windows (keeps (new_window id) (kept-new_window id)) keeps k.each_window;
}

-- a tab is put into a window
pub kept-both : (window tab : ℤ) (s : State) → nat_le (length (step_row int_cmp window_key window (new_window window) (λ w. w) s.windows)) limit ≡ true
    → nat_le (length (step_row int_cmp tab_key tab (new_tab tab) (λ t. record t { window = Some window }) s.tabs)) limit ≡ true → IsKept s → IsKept (with_both window tab s)
kept-both window tab s room_window room_tab k =
    let made = kept-window window (λ w. w) s (λ w f. f) (λ w. refl) room_window k in
    let here = stands-made int_cmp window_key int_cmp_total window (new_window window) s.windows (itself window) refl in
    record {
      tabs = within (length (step_row int_cmp tab_key tab (new_tab tab) (λ t. record t { window = Some window }) s.tabs)) room_tab;
      windows = made.windows;
      standing = all-step int_cmp tab_key (HasWindow (step_row int_cmp window_key window (new_window window) (λ w. w) s.windows)) tab (new_tab tab) (λ t. record t { window = Some window }) s.tabs here (λ t h. here) made.standing;
      each_tab = all-step int_cmp tab_key IsKeptTab tab (new_tab tab) (λ t. record t { window = Some window }) s.tabs (moved (new_tab tab) (kept-new_tab tab)) moved k.each_tab;
      each_window = made.each_window;
    }
  where
    moved : (t : Tab) → IsKeptTab t → IsKeptTab (record t { window = Some window })
    moved t kept = moved-tab t (Some window) t.index t.current t.pages kept.rising kept

pub kept-tab_closed : (id : ℤ) (s : State) → IsKept s → IsKept (tab_closed id s)
kept-tab_closed id s k =
    let fewer = length-without int_cmp tab_key id s.tabs in
    let before = k.tabs in
    record {
      tabs = omega arith;
      windows = k.windows;
      standing = all-without int_cmp tab_key (HasWindow s.windows) id s.tabs k.standing;
      each_tab = all-without int_cmp tab_key IsKeptTab id s.tabs k.each_tab;
      each_window = k.each_window;
    }

-- the tabs that stay when a window goes
pub length-filter : {X : Type 0} (p : X → Bool) (xs : List X) → length (filter p xs) ≤ length xs
length-filter p [] = omega arith
length-filter p (x ∷ xs) = let rest = length-filter p xs in elim (p x) as (λ b. length (cond b (x ∷ filter p xs) (filter p xs)) ≤ length (x ∷ xs)) [ true ↦ omega arith | false ↦ omega arith ]

apart : (own id : ℤ) → int_eq own id ≡ false → own ≢ id
apart own id differs same = let equal : int_eq own id ≡ true = rw (same, itself id) refl in true≢false (sym equal ∙ differs)

has-elsewhere : (id : ℤ) (windows : List Window) (w : Option ℤ) → is_in id w ≡ false → IfSome w (λ own. stands own windows ≡ true) → IfSome w (λ own. stands own (without_row int_cmp window_key id windows) ≡ true)
has-elsewhere id windows None differs h = tt
has-elsewhere id windows (Some own) differs h = stands-without int_cmp window_key int_cmp_total exact_signed own id windows (apart own id differs) h

standing-filter : (id : ℤ) (windows : List Window) (tabs : List Tab) → AllByRecursion (HasWindow windows) tabs → AllByRecursion (HasWindow (without_row int_cmp window_key id windows)) (filter (λ t. not (is_in id t.window)) tabs)
standing-filter id windows [] all = tt
standing-filter id windows (t ∷ ts) all = by (standing-filter id windows ts all.1) (is_in id t.window) refl
  where
    by : AllByRecursion (HasWindow (without_row int_cmp window_key id windows)) (filter (λ t. not (is_in id t.window)) ts) → (b : Bool) → is_in id t.window ≡ b
        → AllByRecursion (HasWindow (without_row int_cmp window_key id windows)) (filter (λ t. not (is_in id t.window)) (t ∷ ts))
    by rest true is = rw is rest
    by rest false is = rw is (has-elsewhere id windows t.window is all.0, rest)

pub kept-without_window : (id : ℤ) (s : State) → IsKept s → IsKept (without_window id s)
kept-without_window id s k =
    let fewer_tabs = length-filter (λ (t : Tab). not (is_in id t.window)) s.tabs in
    let fewer_windows = length-without int_cmp window_key id s.windows in
    let tabs_before = k.tabs in
    let windows_before = k.windows in
    record {
      tabs = omega arith;
      windows = omega arith;
      standing = standing-filter id s.windows s.tabs k.standing;
      each_tab = all-filter IsKeptTab (λ t. not (is_in id t.window)) s.tabs k.each_tab;
      each_window = all-without int_cmp window_key IsKeptWindow id s.windows k.each_window;
    }

-- at the limit nothing changes, and below it the change is made
pub full-tab : (id : ℤ) (change : Tab → Tab) (s : State) → nat_le (length (step_row int_cmp tab_key id (new_tab id) change s.tabs)) limit ≡ false → s ≡ on_tab id change s
full-tab id change s full = rw full refl

pub full-window : (id : ℤ) (change : Window → Window) (s : State) → nat_le (length (step_row int_cmp window_key id (new_window id) change s.windows)) limit ≡ false → s ≡ on_window id change s
full-window id change s full = rw full (elim (nat_le (length s.tabs) limit) as (λ b. s ≡ (if b && false then with_window id change s else s)) [ true ↦ refl | false ↦ refl ])

is_le : (n : ℕ) → n ≤ limit → nat_le n limit ≡ true
is_le n h = grind (arith, nat_tests)

pub room-tab : (id : ℤ) (change : Tab → Tab) (s : State) → nat_le (length (step_row int_cmp tab_key id (new_tab id) change s.tabs)) limit ≡ true → length s.windows ≤ limit → with_tab id change s ≡ on_tab id change s
room-tab id change s room small = rw (room, is_le (length s.windows) small) refl

pub room-window : (id : ℤ) (change : Window → Window) (s : State) → nat_le (length (step_row int_cmp window_key id (new_window id) change s.windows)) limit ≡ true → length s.tabs ≤ limit → with_window id change s ≡ on_window id change s
room-window id change s room small = rw (is_le (length s.tabs) small, room) refl

pub full-placed_window : (window tab : ℤ) (s : State) → nat_le (length (step_row int_cmp window_key window (new_window window) (λ w. w) s.windows)) limit ≡ false → s ≡ placed window tab s
full-placed_window window tab s full = rw full (elim (nat_le (length (step_row int_cmp tab_key tab (new_tab tab) (λ t. record t { window = Some window }) s.tabs)) limit) as (λ b. s ≡ (if b && false then with_both window tab s else s)) [ true ↦ refl | false ↦ refl ])

pub full-placed_tab : (window tab : ℤ) (s : State) → nat_le (length (step_row int_cmp tab_key tab (new_tab tab) (λ t. record t { window = Some window }) s.tabs)) limit ≡ false → s ≡ placed window tab s
full-placed_tab window tab s full = rw full refl

pub room-placed : (window tab : ℤ) (s : State) → nat_le (length (step_row int_cmp window_key window (new_window window) (λ w. w) s.windows)) limit ≡ true
    → nat_le (length (step_row int_cmp tab_key tab (new_tab tab) (λ t. record t { window = Some window }) s.tabs)) limit ≡ true → with_both window tab s ≡ placed window tab s
room-placed window tab s room_window room_tab = rw (room_window, room_tab) refl
