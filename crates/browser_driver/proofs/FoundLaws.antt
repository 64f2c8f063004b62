-- A tab's row is found in a state exactly where the tab stands in a browser that the state matches.
use Rattle.std.proofs.Common.{◌≡◌, ℤ, [], map, Option, Some, None, option_map, refl, sym, ap, ◌∙◌}
use Rattle.std.specs.Ordering.{int_cmp}
use Rattle.window_state.specs.Keys.{tab_key}
use Rattle.window_state.specs.RowLists.{find_row, only}
use Rattle.window_state.specs.States.{State}
use Rattle.window_state.specs.TabLists.{under}
use Rattle.window_state.proofs.OnlyLaws.{find-only, find-none, only-none, only-seen}
use Rattle.browser_model.specs.Running.{IsRunning}
use Rattle.browser_model.specs.Browsers.{Browser, Stand, stand_key, row_of, all_stands, Matches}
use Rattle.browser_model.specs.Tabs.{stand_of}
use Rattle.browser_model.proofs.Matching.{one-stand}

pub found-row : (s : State) (b : Browser) (id : ℤ) → IsRunning s → Matches s b
    → find_row int_cmp tab_key id s.tabs ≡ option_map row_of (stand_of id b)
found-row s b id r m = by (stand_of id b) refl
  where
    seen : under id s.tabs ≡ map row_of (only int_cmp stand_key id (all_stands b.windows))
    seen = m.tabs id ∙ only-seen int_cmp stand_key tab_key row_of (λ x. refl) id (all_stands b.windows)

    by : (o : Option Stand) → stand_of id b ≡ o
        → find_row int_cmp tab_key id s.tabs ≡ option_map row_of (stand_of id b)
    by None e =
        let none = only-none int_cmp stand_key id (all_stands b.windows) (rw e refl) in
        find-none int_cmp tab_key id s.tabs (seen ∙ ap (map row_of) none) ∙ ap (option_map row_of) (sym e)
    by (Some st) e =
        find-only int_cmp tab_key id (row_of st) [] s.tabs (seen ∙ ap (map row_of) (one-stand s b id st r m e))
        ∙ ap (option_map row_of) (sym e)
