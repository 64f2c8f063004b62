use Rattle.compaction_runs.proofs.Pieces.{more}
use Rattle.compactor.proofs.session.window.push.Goals as goal

pub returns : goal.returns
returns c =
    let old = c.args.out.now.items in
    more old _ _ _ _ (more old _ _ _ _ (more old _ _ _ _ (more old _ _ _ _ (more old _ _ _ _ (more old _ _ _ _ (more old _ _ _ _
    c.in_ok-push_selected.ensures c.in_ok-push_kind.ensures) c.in_ok-push_bounds.ensures) c.in_ok-push_app.ensures) c.in_ok-push_workspace.ensures)
    c.in_ok-push_all_workspaces.ensures) c.in_ok-push_title.ensures) c.in_ok-push_of_window.ensures
