use Rattle.compaction_runs.proofs.Pieces.{more}
use Rattle.tabs_compactor.proofs.tab.push.Goals as goal

pub returns : goal.returns
returns c =
    let old = c.args.out.now.items in
    more old _ _ _ _ (more old _ _ _ _ (more old _ _ _ _ (more old _ _ _ _ (more old _ _ _ _
    c.in_ok-push_selected.ensures c.in_ok-push_pinned.ensures) c.in_ok-push_extension.ensures) c.in_ok-push_agent.ensures) c.in_ok-push_group.ensures) c.in_ok-push_pages.ensures
