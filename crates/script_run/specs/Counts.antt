-- What the line of a start counts: the windows and tabs that a user sees of a session, and the closed entries.
use Rattle.std.specs.Prelude.{ℕ, ◌+◌, List, [], ◌∷◌, length}
use Rattle.session_disk.specs.declared.family.Family.TheVariants.{Session, Tabs}
use Rattle.window_state.specs.declared.view_parts.View.{View}
use Rattle.window_state.specs.declared.view_parts.ViewWindow.{ViewWindow}
use Rattle.window_state.specs.Views.{view}
use Rattle.run_words.specs.declared.lines.Counts.{Counts}
use Rattle.script_run.specs.Families.{Firsts}

-- the tabs of all these windows
abbrev pub tab_count : List ViewWindow → ℕ
tab_count [] = 0
tab_count (w ∷ ws) = length w.tabs + tab_count ws

-- of a view, beside so many closed entries
abbrev pub shown_counts : View → ℕ → Counts
shown_counts view entries =
    record { windows = length view.windows; tabs = tab_count view.windows; entries = entries }

abbrev pub counts_of : Firsts → Counts
counts_of firsts = shown_counts (view (firsts Session)) (length (firsts Tabs).entries)
