-- The browser to which tidying leads: the view of the state.
use Rattle.std.specs.Prelude.{ℕ, zero, suc, ℤ, pos, List, [], ◌∷◌, map, Option, Some, None}
use Rattle.std.specs.List.{AllByRecursion}
use Rattle.navigation_entry.specs.declared.navigation.Navigation.{Navigation}
use Rattle.tab_pages.specs.PageLists.{IsRising, prune}
use Rattle.tab_pages.specs.Positions.{first_from}
use Rattle.window_state.specs.declared.tab.Tab.{Tab}
use Rattle.window_state.specs.declared.window.Window.{Window}
use Rattle.window_state.specs.Changes.{current_pruned}
use Rattle.window_state.specs.States.{State, HasWindow}
use Rattle.window_state.specs.Views.{shown_tabs}
use Rattle.browser_model.specs.Browsers.{Browser, BrowserTab, BrowserWindow, numbered}
use Rattle.browser_model.specs.Running.{IsRunning}
use Rattle.browser_model.specs.Tidying.{seen_active, seen_place}

-- what the closing of gaps does to pages and to the current index
abbrev pub prune_gaps : List (ℕ × ℤ) → List (ℤ × Navigation) → List (ℤ × Navigation)
prune_gaps [] pages = pages
prune_gaps (gap ∷ gs) pages = prune_gaps gs (prune (pos gap.0) gap.1 pages)

abbrev pub current_gaps : List (ℕ × ℤ) → ℤ → ℤ
current_gaps [] c = c
current_gaps (gap ∷ gs) c = current_gaps gs (current_pruned (pos gap.0) gap.1 c)

-- the place of a tab's current page
abbrev pub current_place : Tab → ℕ
current_place t = first_from t.current (map (λ page. page.0) t.pages)

-- a shown tab as a browser has it
abbrev pub tidied_tab : Tab → BrowserTab
tidied_tab t = record { info = t.info; pages = map (λ page. page.1) t.pages; current = pos (current_place t) }

-- its row at a place
abbrev pub tidied_row : ℕ → Tab → Tab
tidied_row n t = record t {
  index = pos n;
  current = pos (current_place t);
  pages = numbered zero (map (λ page. page.1) t.pages);
}

abbrev pub tidied_rows : ℕ → List Tab → List Tab
tidied_rows n [] = []
tidied_rows n (t ∷ ts) = tidied_row n t ∷ tidied_rows (suc n) ts

-- a window with its shown tabs, where it has any
abbrev pub tidied_with : Window → List Tab → List BrowserWindow → List BrowserWindow
tidied_with w [] others = others
tidied_with w (t ∷ ts) others =
    record { info = w.info; selected = pos (seen_place w (t ∷ ts)); tabs = map tidied_tab (t ∷ ts) } ∷ others

abbrev pub tidied_windows : (ℤ → List Tab) → List Window → List BrowserWindow
tidied_windows tabs_of [] = []
tidied_windows tabs_of (w ∷ ws) = tidied_with w (tabs_of w.info.id) (tidied_windows tabs_of ws)

abbrev pub or_now : Option ℤ → Option ℤ → Option ℤ
or_now None now = now
or_now (Some id) now = Some id

abbrev pub tidied : State → Browser
tidied s = record {
  windows = tidied_windows (λ id. shown_tabs id s.tabs) s.windows;
  groups = s.groups;
  active = or_now (seen_active s) s.active;
  closed = [];
  moment = pos 0;
}

-- states that tidying leads there: in order and within the limits, each tab's window stands, and its pages rise
pub record IsTidyable (s : State) : Type 0 where
  pub running : IsRunning s
  pub standing : AllByRecursion (HasWindow s.windows) s.tabs
  pub rising : AllByRecursion (λ t. IsRising (pos 0) t.pages) s.tabs
