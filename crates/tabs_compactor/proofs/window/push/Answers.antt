use Rattle.compaction_runs.proofs.Pieces.{more}
use Rattle.tabs_compactor.proofs.window.push.Goals as goal

pub returns : goal.returns
returns c =
    let old = c.args.out.now.items in
    let tabs = rw c.as_slice.ensures at c.in_ok-push_tabs.ensures in
    more old _ _ _ _ (more old _ _ _ _ (more old _ _ _ _ c.in_ok-push_entry.ensures c.in_ok-push_app.ensures) c.in_ok-push_title.ensures) tabs
