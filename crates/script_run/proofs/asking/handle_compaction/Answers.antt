use Rattle.std.proofs.Common.{sym, subst}
use Rattle.script_run.specs.Acting.{compaction_steps}
use Rattle.script_run.specs.Doing.{DoesSteps, StepsDone}
use Rattle.script_run.proofs.HandledLaws.{done-none}
use Rattle.script_run.proofs.asking.handle_compaction.Goals as goal

pub returns-in-true : goal.returns-in-true
returns-in-true g c = λ sink.
    subst (λ compacts. DoesSteps (compaction_steps compacts) c.args.writers.now c.handle_item.new.writers sink sink
    c.handle_item.result) (sym c.in-true.is) (c.handle_item.ensures.steps sink)

pub returns-in-false : goal.returns-in-false
returns-in-false g c = λ sink.
    subst (λ compacts. StepsDone (compaction_steps compacts) c.args.writers.now c.args.writers.now sink sink)
    (sym c.in-false.is) (done-none c.args.writers.now sink c.requires.session_works c.requires.tabs_work)
