use Rattle.std.proofs.Common.{sum_by}
use Rattle.compactor.specs.session.Compaction.{tab_weight}
use Rattle.compaction_runs.proofs.Weights.{all_added, greatest}
use Rattle.compactor.proofs.session.weight.of_tabs.Goals as goal

pub returns : goal.returns
returns c = all_added tab_weight _ c.loop-tab.weight (sum_by tab_weight c.args.tabs.now) greatest c.in-None.ensures.steps.0 c.loop-tab.invariant.0 c.loop-tab.invariant.1
