use Rattle.std.proofs.Common.{ap, ◌∙◌, subst}
use Rattle.session_disk.specs.declared.family.Family.TheVariants.{Session, Tabs}
use Rattle.script_run.specs.Acting.{command_steps}
use Rattle.script_run.specs.Doing.{StepsDone, StepsHalted}
use Rattle.script_run.specs.Families.{kind_of}
use Rattle.script_run.specs.Runs.{logs, states_of}
use Rattle.script_run.specs.Script.{tidying_steps}
use Rattle.script_run.proofs.HandledLaws.{halted-first}
use Rattle.script_run.proofs.starting.tidy.Goals as goal

pub returns-in_default : goal.returns-in_default
returns-in_default g c = λ sink.
    halted-first (tidying_steps (states_of (logs c.args.writers.now))) c.args.writers.now sink c.requires.session_works
    c.requires.tabs_work

pub returns-in_default-tidy : goal.returns-in_default-tidy
returns-in_default-tidy g c = λ sink.
    halted-first (tidying_steps (states_of (logs c.args.writers.now))) c.args.writers.now sink c.requires.session_works
    c.requires.tabs_work

pub returns-in-Ok-handle_commands : goal.returns-in-Ok-handle_commands
returns-in-Ok-handle_commands g c = λ sink.
    let old = c.args.writers.now in
    let new = c.handle_commands.new.writers in
    let session = c.in-Ok.ensures.tidying ∙ ap (kind_of Session).tidying c.state.ensures in
    let tabs = c.in-Ok-tidy.ensures.tidying ∙ ap (kind_of Tabs).tidying c.state-2.ensures in
    subst (λ commands. StepsDone (command_steps commands ((kind_of Tabs).tidying old.tabs.present.state)) old new sink
    sink)
    session (subst (λ commands. StepsDone (command_steps c.in-Ok.session.items commands) old new sink sink) tabs
    (c.in-Ok-handle_commands.ensures sink))

pub returns-in-Err : goal.returns-in-Err
returns-in-Err g c = λ sink.
    let old = c.args.writers.now in
    let new = c.handle_commands.new.writers in
    let session = c.in-Ok.ensures.tidying ∙ ap (kind_of Session).tidying c.state.ensures in
    let tabs = c.in-Ok-tidy.ensures.tidying ∙ ap (kind_of Tabs).tidying c.state-2.ensures in
    subst (λ commands. StepsHalted (command_steps commands ((kind_of Tabs).tidying old.tabs.present.state)) old new sink
    sink c.in-Err.halt) session
    (subst (λ commands. StepsHalted (command_steps c.in-Ok.session.items commands) old new sink sink c.in-Err.halt) tabs
    (c.in-Err.ensures sink))
