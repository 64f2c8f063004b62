-- Every command of a tidying can be written, and its numbers are in the ranges of their types.
use Rattle.std.proofs.Common.{◌≡◌, ◌≤◌, ◌+◌, ℕ, zero, suc, ℤ, pos, ◌+ℤ◌, ◌-ℤ◌, ◌≤ℤ◌, int_lt, int_le, Bool, true}
use Rattle.std.proofs.Common.{false, not, List, [], ◌∷◌, map, filter, length, Option, Some, None, IfSome, FitsSigned}
use Rattle.std.proofs.Common.{w32, w64, refl, arith}
use Rattle.std.specs.List.{AllByRecursion, list_any}
use Rattle.std.specs.Ordering.{int_eq}
use Rattle.std.proofs.lemmas.Int.{ints}
use Rattle.std.proofs.lemmas.List.{length-map}
use Rattle.navigation_entry.specs.declared.navigation.Navigation.{Navigation}
use Rattle.session_commands.specs.declared.command.SessionCommand.{SessionCommand}
use Rattle.session_commands.specs.declared.command.SessionCommand.TheVariants.{SelectNavigation, SelectTab, Pruned}
use Rattle.session_commands.specs.declared.command.SessionCommand.TheVariants.{TabIndex, TabClosed, WindowClosed}
use Rattle.session_commands.specs.declared.command.SessionCommand.TheVariants.{ActiveWindow}
use Rattle.session_commands.specs.Table.{IsSound, IsInRange}
use Rattle.tab_pages.specs.PageLists.{IsRising}
use Rattle.tab_pages.specs.Ranges.{IsPageInRange}
use Rattle.tab_pages.proofs.RangeLaws.{all-filter}
use Rattle.window_state.specs.declared.tab.Tab.{Tab}
use Rattle.window_state.specs.declared.window.Window.{Window}
use Rattle.window_state.specs.declared.view_parts.ViewWindow.{ViewWindow}
use Rattle.window_state.specs.Fits.{IsKeptTab}
use Rattle.window_state.specs.Limits.{limit}
use Rattle.window_state.specs.Ranges.{IsTabInRange, IsWindowInRange}
use Rattle.window_state.specs.States.{State, IsState, is_in}
use Rattle.window_state.specs.Views.{active_shown, is_shown_in, least_shown, shown_tabs, view_windows, with_shown}
use Rattle.compaction_runs.specs.Runs.{Are}
use Rattle.compaction_runs.proofs.CommandLaws.{joint, are-one, are-map, both}
use Rattle.browser_model.specs.Tidying.{activate, current_index, gaps, index_from, is_open, is_tab_shown, seen_active}
use Rattle.browser_model.specs.Tidying.{seen_place, tidy_tab, tidy_tabs, tidy_window, tidy_windows, tidying, unless}
use Rattle.browser_model.proofs.TidyRows.{all-sorted, first-within}

-- what is wanted of each command
pub record IsFit (command : SessionCommand) : Type 0 where
  pub sound : IsSound command
  pub ranged : IsInRange command

abbrev pub AreFit : List SessionCommand → Type 0
AreFit commands = Are IsFit commands

none-fit : AreFit []
none-fit = record { all = tt }

unless-fit : (b : Bool) (command : SessionCommand) → IsFit command → AreFit (unless b command)
unless-fit true command is = none-fit
unless-fit false command is = are-one IsFit command is

-- a gap begins no later than its page, and is no longer than that page's index
abbrev IsGapInRange : ℕ × ℤ → Type 0
IsGapInRange gap = FitsSigned w32 (pos gap.0) × FitsSigned w32 gap.1

gaps-fit : (place : ℕ) (next : ℤ) (pages : List (ℤ × Navigation)) → pos place ≤ℤ next → IsRising next pages
    → AllByRecursion IsPageInRange pages → AllByRecursion IsGapInRange (gaps place next pages)
gaps-fit place next [] behind rising fits = tt
gaps-fit place next (p ∷ ps) behind rising fits =
    by (gaps-fit (suc place) (p.0 +ℤ pos 1) ps (omega (arith, ints, rising.0)) rising.1 fits.1) (int_lt next p.0) refl
  where
    by : AllByRecursion IsGapInRange (gaps (suc place) (p.0 +ℤ pos 1) ps) → (b : Bool) → int_lt next p.0 ≡ b
        → AllByRecursion IsGapInRange (gaps place next (p ∷ ps))
    by rest true e =
        let index = fits.0.0 in
        let from = rising.0 in
        let here : FitsSigned w32 (pos place) = omega (arith, ints) in
        let count : FitsSigned w32 (p.0 -ℤ next) = omega (arith, ints) in
        rw e ((here, count), rest)
    by rest false e = rw e rest

index-fits : (c last : ℤ) (pages : List (ℤ × Navigation)) → FitsSigned w32 last → AllByRecursion IsPageInRange pages
    → FitsSigned w32 (index_from c pages last)
index-fits c last [] fits all = fits
index-fits c last (p ∷ ps) fits all = by (index-fits c p.0 ps all.0.0 all.1) (int_le c p.0) refl
  where
    by : FitsSigned w32 (index_from c ps p.0) → (b : Bool) → int_le c p.0 ≡ b
        → FitsSigned w32 (index_from c (p ∷ ps) last)
    by rest true e = rw e all.0.0
    by rest false e = rw e rest

-- what every tab of a state keeps
abbrev IsOrderly : Tab → Type 0
IsOrderly t = IsKeptTab t × IsTabInRange t

place-fits : (n : ℕ) → n ≤ limit → FitsSigned w32 (pos n)
place-fits n few = omega (arith, ints)

tab-fit : (n : ℕ) (t : Tab) → n ≤ limit → IsOrderly t → AreFit (tidy_tab n t)
tab-fit n t few is =
    let id = is.1.info.id in
    joint (unless-fit (int_eq (current_index t) t.current) (SelectNavigation t.info.id (current_index t))
    (record { sound = tt; ranged = (id, (index-fits t.current t.current t.pages is.1.current is.1.pages, tt)) }))
    (joint (are-map IsFit IsGapInRange (λ gap. Pruned t.info.id (pos gap.0) gap.1) (gaps zero (pos 0) t.pages)
    (λ gap fits. record { sound = tt; ranged = (id, (fits.0, (fits.1, tt))) })
    (gaps-fit zero (pos 0) t.pages (omega (arith, ints)) is.0.rising is.1.pages))
    (unless-fit (int_eq t.index (pos n)) (TabIndex t.info.id (pos n))
    (record { sound = tt; ranged = (id, (place-fits n few, tt)) })))

tabs-fit : (n : ℕ) (ts : List Tab) → n + length ts ≤ limit → AllByRecursion IsOrderly ts → AreFit (tidy_tabs n ts)
tabs-fit n [] few all = none-fit
tabs-fit n (t ∷ ts) few all = joint (tab-fit n t (omega arith) all.0) (tabs-fit (suc n) ts (omega arith) all.1)

window-fit : (w : Window) (ts : List Tab) → IsWindowInRange w → length ts ≤ limit → AllByRecursion IsOrderly ts
    → AreFit (tidy_window w ts)
window-fit w [] fits few all = none-fit
window-fit w (t ∷ ts) fits few all =
    let within = first-within w.selected t.index (map (λ x. x.index) ts) in
    let long : length (map (λ (x : Tab). x.index) ts) ≡ length ts = length-map ts (λ (x : Tab). x.index) in
    joint (tabs-fit zero (t ∷ ts) (omega arith) all)
    (unless-fit (int_eq w.selected (pos (seen_place w (t ∷ ts)))) (SelectTab w.info.id (pos (seen_place w (t ∷ ts))))
    (record { sound = tt; ranged = (fits.id, (place-fits (seen_place w (t ∷ ts)) (omega arith), tt)) }))

windows-fit : (f : ℤ → List Tab) (ws : List Window) → ((id : ℤ) → length (f id) ≤ limit)
    → ((id : ℤ) → AllByRecursion IsOrderly (f id)) → AllByRecursion IsWindowInRange ws → AreFit (tidy_windows f ws)
windows-fit f [] few orderly all = none-fit
windows-fit f (w ∷ ws) few orderly all =
    joint (window-fit w (f w.info.id) all.0 (few w.info.id) (orderly w.info.id))
    (windows-fit f ws few orderly all.1)

-- the windows of a view are windows of the state
shown-fit : (f : ℤ → List Tab) (ws : List Window) → AllByRecursion IsWindowInRange ws
    → AllByRecursion (λ w. FitsSigned w32 w.info.id) (view_windows f ws)
shown-fit f [] all = tt
shown-fit f (w ∷ ws) all = by (f w.info.id) (shown-fit f ws all.1)
  where
    by : (ts : List Tab) → AllByRecursion (λ (x : ViewWindow). FitsSigned w32 x.info.id) (view_windows f ws)
        → AllByRecursion (λ (x : ViewWindow). FitsSigned w32 x.info.id) (with_shown w ts (view_windows f ws))
    by [] rest = rest
    by (t ∷ ts) rest = (all.0.id, rest)

least-fits : (ws : List ViewWindow) → AllByRecursion (λ w. FitsSigned w32 w.info.id) ws
    → IfSome (least_shown ws) (FitsSigned w32)
least-fits [] all = tt
least-fits (w ∷ ws) all = all.0

active-fits : (active : Option ℤ) (ws : List ViewWindow) → IfSome active (FitsSigned w32)
    → AllByRecursion (λ w. FitsSigned w32 w.info.id) ws → IfSome (active_shown active ws) (FitsSigned w32)
active-fits None ws fits all = least-fits ws all
active-fits (Some id) ws fits all = by (list_any (λ w. int_eq w.info.id id) ws) refl
  where
    by : (b : Bool) → list_any (λ w. int_eq w.info.id id) ws ≡ b → IfSome (active_shown (Some id) ws) (FitsSigned w32)
    by true e = rw e fits
    by false e = rw e (least-fits ws all)

activate-fit : (active now : Option ℤ) → IfSome active (FitsSigned w32) → AreFit (activate active now)
activate-fit None now fits = none-fit
activate-fit (Some id) now fits = by (is_in id now) refl
  where
    by : (b : Bool) → is_in id now ≡ b → AreFit (activate (Some id) now)
    by true e = rw e none-fit
    by false e = rw e (are-one IsFit (ActiveWindow id) (record { sound = tt; ranged = (fits, tt) }))

pub tidying-fit : (s : State) → IsState s → ((id : ℤ) → length (shown_tabs id s.tabs) ≤ limit) → AreFit (tidying s)
tidying-fit s is few =
    let f : ℤ → List Tab = λ id. shown_tabs id s.tabs in
    let hidden_tab : Tab → Bool = λ t. not (is_tab_shown t) in
    let hidden_window : Window → Bool = λ w. not (is_open s w) in
    let fits = is.ranged in
    let none : FitsSigned w64 (pos 0) = omega (arith, ints) in
    let each_tab = both IsKeptTab IsTabInRange s.tabs is.kept.each_tab fits.tabs in
    let orderly : (id : ℤ) → AllByRecursion IsOrderly (f id) = λ id.
    all-sorted IsOrderly [] (filter (is_shown_in id) s.tabs) tt
    (all-filter IsOrderly (is_shown_in id) s.tabs each_tab) in
    let active = active-fits s.active (view_windows f s.windows) fits.active (shown-fit f s.windows fits.windows) in
    joint (are-map IsFit IsTabInRange (λ t. TabClosed t.info.id (pos 0)) (filter hidden_tab s.tabs)
    (λ t fits. record { sound = tt; ranged = (fits.info.id, (tt, (none, tt))) })
    (all-filter IsTabInRange hidden_tab s.tabs fits.tabs))
    (joint (are-map IsFit IsWindowInRange (λ w. WindowClosed w.info.id (pos 0)) (filter hidden_window s.windows)
    (λ w fits. record { sound = tt; ranged = (fits.id, (tt, (none, tt))) })
    (all-filter IsWindowInRange hidden_window s.windows fits.windows))
    (joint (windows-fit f s.windows few orderly fits.windows) (activate-fit (seen_active s) s.active active)))
