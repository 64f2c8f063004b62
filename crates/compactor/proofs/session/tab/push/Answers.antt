use Rattle.compaction_runs.proofs.Pieces.{more}
use Rattle.compactor.proofs.session.tab.push.Goals as goal

pub returns : goal.returns
returns c =
    let old = c.args.out.now.items in
    more old _ _ _ _ (more old _ _ _ _ (more old _ _ _ _ (more old _ _ _ _ (more old _ _ _ _ (more old _ _ _ _ (more old _ _ _ _ (more old _ _ _ _ (more old _ _ _ _ (more old _ _ _ _ (more old _ _ _ _
    c.in_ok-push_index.ensures c.in_ok-push_window.ensures) c.in_ok-push_pages.ensures) c.in_ok-push_current.ensures) c.in_ok-push_pinned.ensures)
    c.in_ok-push_extension.ensures) c.in_ok-push_storage.ensures) c.in_ok-push_guid.ensures) c.in_ok-push_agent.ensures) c.in_ok-push_last_active.ensures)
    c.in_ok-push_group.ensures) c.in_ok-push_of_tab.ensures
