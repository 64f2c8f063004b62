use Rattle.std.proofs.Common.{sum_by}
use Rattle.compactor.specs.session.Compaction.{window_weight}
use Rattle.compaction_runs.proofs.Weights.{all_added, greatest}
use Rattle.compactor.proofs.session.weight.of_windows.Goals as goal

pub returns : goal.returns
returns c = all_added window_weight _ c.loop-window.weight (sum_by window_weight c.args.windows.now) greatest c.in-None.ensures.steps.0 c.loop-window.invariant.0 c.loop-window.invariant.1
