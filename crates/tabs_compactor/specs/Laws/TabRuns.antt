-- The commands of a closed tab make it, wherever commands of the current tab change it alone.
use Rattle.std.proofs.Common.{◌≡◌, ℕ, ℤ, pos, Bool, true, false, List, [], Option, Some, None, ap, ◌∙◌}
use Rattle.navigation_entry.specs.declared.group.GroupInfo.{GroupInfo}
use Rattle.navigation_entry.specs.declared.navigation.Navigation.{Navigation}
use Rattle.tab_restore_commands.specs.declared.command.TabsCommand.TheVariants.{UpdateNavigation, SelectedInTab, Pinned, Extension, Group, UserAgent}
use Rattle.tab_pages.specs.PageLists.{IsRising, put_page}
use Rattle.closed_entries.specs.declared.closed_tab.ClosedTab.{ClosedTab}
use Rattle.closed_entries.specs.Changes.{new_tab}
use Rattle.closed_entries.specs.States.{State}
use Rattle.closed_entries.specs.Step.{on_tab, step}
use Rattle.compaction_runs.specs.Runs.{Leads}
use Rattle.compaction_runs.proofs.RunLaws.{followed, leads-one, leads-given, leads-flagged, leads-map}
use Rattle.compaction_runs.proofs.Appended.{put-page-behind}
use Rattle.tabs_compactor.specs.Compaction.{tab_commands}
use Rattle.tabs_compactor.specs.TabsKind.{tabs_kind}

abbrev tab_of : ℤ → ℤ → ℤ → Bool → Option (List ℕ) → Option (List ℕ) → Option GroupInfo → List (ℤ × Navigation) → ClosedTab
tab_of id selected time pinned extension agent group pages =
    record { id = id; selected = selected; time = time; pinned = pinned; extension = extension; agent = agent; group = group; pages = pages }

pub leads-tab : (state : ClosedTab → State) → ((change : ClosedTab → ClosedTab) (t : ClosedTab) → on_tab change (state t) ≡ state (change t))
    → (old : State) (t : ClosedTab) → step old (SelectedInTab t.id t.selected t.time) ≡ state (new_tab t.id t.selected t.time) → IsRising (pos 0) t.pages → Leads tabs_kind old (tab_commands t) (state t)
leads-tab state changes old t made rising =
    let so_far = tab_of t.id t.selected t.time in
    followed (followed (followed (followed (followed
    (leads-one tabs_kind old (state (so_far false None None None [])) (SelectedInTab t.id t.selected t.time) made)
    (leads-flagged tabs_kind (Pinned true) (λ pinned. state (so_far pinned None None None [])) t.pinned
    (changes (λ x. record x { pinned = true }) (so_far false None None None []))))
    (leads-given tabs_kind (λ text. Extension t.id text []) (λ extension. state (so_far t.pinned extension None None [])) t.extension
    (λ text _. changes (λ x. record x { extension = Some text }) (so_far t.pinned None None None []))))
    (leads-given tabs_kind (λ rest. UserAgent t.id rest) (λ agent. state (so_far t.pinned t.extension agent None [])) t.agent
    (λ rest _. changes (λ x. record x { agent = Some rest }) (so_far t.pinned t.extension None None []))))
    (leads-given tabs_kind (λ group. Group group) (λ group. state (so_far t.pinned t.extension t.agent group [])) t.group
    (λ group _. changes (λ x. record x { group = Some group }) (so_far t.pinned t.extension t.agent None []))))
    (leads-map tabs_kind (λ pages. state (so_far t.pinned t.extension t.agent t.group pages)) t.pages (λ page. UpdateNavigation t.id page.0 page.1)
    (λ before rest page whole. changes (λ x. record x { pages = put_page page.0 page.1 x.pages }) (so_far t.pinned t.extension t.agent t.group before)
    ∙ ap (λ pages. state (so_far t.pinned t.extension t.agent t.group pages)) (put-page-behind t.pages before rest page rising whole)))
