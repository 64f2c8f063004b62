-- The commands of a closed window make it with its tabs, and leave so many awaited.
use Rattle.std.proofs.Common.{◌≡◌, ℕ, suc, ◌+◌, ◌-◌, ◌<◌, pos, true, List, [], ◌∷◌, ◌++◌, length, flat_map, Option, Some, None, sym, subst, length-append, arith}
use Rattle.std.specs.List.{AllByRecursion}
use Rattle.tab_restore_commands.specs.declared.command.TabsCommand.TheVariants.{WindowApp, WindowEntry, UserTitle}
use Rattle.closed_entries.specs.declared.limits.TheConstants.{ENTRIES}
use Rattle.closed_entries.specs.declared.closed_tab.ClosedTab.{ClosedTab}
use Rattle.closed_entries.specs.declared.closed_window.ClosedWindow.{ClosedWindow}
use Rattle.closed_entries.specs.declared.entry.Entry.TheVariants.{Window}
use Rattle.closed_entries.specs.Changes.{new_tab, new_window}
use Rattle.closed_entries.specs.States.{State, IsTab}
use Rattle.closed_entries.proofs.StepLaws.{ending, opened-behind, selected-awaited, on_tab-in_window, on_window-last}
use Rattle.compaction_runs.specs.Runs.{Leads}
use Rattle.compaction_runs.proofs.RunLaws.{followed, leads-one, leads-given, leads-flat}
use Rattle.compaction_runs.proofs.Appended.{all-here, length-here}
use Rattle.tabs_compactor.specs.Compaction.{tab_commands, window_commands}
use Rattle.tabs_compactor.specs.TabsKind.{tabs_kind}
use Rattle.tabs_compactor.specs.Laws.TabRuns.{leads-tab}

module _ (s : State) (below : length s.entries < ENTRIES) (w : ClosedWindow) (awaited : ℕ) where
  -- the window with some of what it has, and so many tabs still to come
  abbrev so_far : Option (List ℕ) → Option (List ℕ) → List ClosedTab → ℕ → State
  so_far app title tabs left =
      ending s.entries (Window (record { id = w.id; selected = w.selected; time = w.time; bounds = w.bounds; app = app; title = title; tabs = tabs })) true left

  abbrev count : ℕ
  count = length w.tabs + awaited

  abbrev with_tabs : List ClosedTab → State
  with_tabs tabs = so_far w.app w.title tabs (count - length tabs)

  -- one of its tabs, which is awaited
  next_tab : (done rest : List ClosedTab) (t : ClosedTab) → done ++ t ∷ rest ≡ w.tabs → IsTab t → Leads tabs_kind (with_tabs done) (tab_commands t) (with_tabs (done ++ t ∷ []))
  next_tab done rest t whole is =
      let short : length done < length w.tabs = rw whole at (length-here done rest t) in
      let left = count - (length done + 1) in
      let before : suc left ≡ count - length done = omega arith in
      let after : left ≡ count - length (done ++ t ∷ []) = omega (arith, length-append done (t ∷ [])) in
      let run = leads-tab (λ x. so_far w.app w.title (done ++ x ∷ []) left) (λ change x. on_tab-in_window change s.entries w done x left)
      (so_far w.app w.title done (suc left)) t (selected-awaited (new_tab t.id t.selected t.time) s.entries (record w { tabs = done }) true left) is.rising in
      subst (λ n. Leads tabs_kind (so_far w.app w.title done n) (tab_commands t) (with_tabs (done ++ t ∷ []))) before
      (subst (λ n. Leads tabs_kind (so_far w.app w.title done (suc left)) (tab_commands t) (so_far w.app w.title (done ++ t ∷ []) n)) after run)

  all_tabs : AllByRecursion IsTab w.tabs → Leads tabs_kind (so_far w.app w.title [] count) (flat_map tab_commands w.tabs) (ending s.entries (Window w) true awaited)
  all_tabs are =
      let all_left : count - 0 ≡ count = omega arith in
      let awaited_left : count - length w.tabs ≡ awaited = omega arith in
      let run = leads-flat tabs_kind with_tabs w.tabs tab_commands (λ done rest t whole. next_tab done rest t whole (all-here IsTab done rest t (subst (AllByRecursion IsTab) (sym whole) are))) in
      subst (λ n. Leads tabs_kind (so_far w.app w.title [] n) (flat_map tab_commands w.tabs) (ending s.entries (Window w) true awaited)) all_left
      (subst (λ n. Leads tabs_kind (with_tabs []) (flat_map tab_commands w.tabs) (so_far w.app w.title w.tabs n)) awaited_left run)

  pub leads-window : AllByRecursion IsTab w.tabs → Leads tabs_kind s (window_commands awaited w) (ending s.entries (Window w) true awaited)
  leads-window are =
      followed (followed (followed
      (leads-one tabs_kind s (so_far None None [] count) (WindowEntry w.id w.selected (pos count) w.time w.bounds []) (opened-behind (Window (new_window w.id w.selected w.time w.bounds)) count s below))
      (leads-given tabs_kind (λ text. WindowApp w.id text []) (λ app. so_far app None [] count) w.app
      (λ text _. on_window-last (λ x. record x { app = Some text }) s.entries (new_window w.id w.selected w.time w.bounds) count)))
      (leads-given tabs_kind (λ text. UserTitle w.id text []) (λ title. so_far w.app title [] count) w.title
      (λ text _. on_window-last (λ x. record x { title = Some text }) s.entries (record (new_window w.id w.selected w.time w.bounds) { app = w.app }) count)))
      (all_tabs are)
