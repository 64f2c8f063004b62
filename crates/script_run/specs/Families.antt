-- The two families of a run: what the state and the commands of each are, and what an item asks of the journal of each.
use Rattle.machine_law.specs.Kind.{Kind}
use Rattle.session_disk.specs.declared.family.Family.{Family}
use Rattle.session_disk.specs.declared.family.Family.TheVariants.{Session, Tabs}
use Rattle.session_commands.specs.declared.command.SessionCommand.{SessionCommand}
use Rattle.tab_restore_commands.specs.declared.command.TabsCommand.{TabsCommand}
use Rattle.window_state.specs.States.{State as SessionState}
use Rattle.closed_entries.specs.States.{State as ClosedState}
use Rattle.compactor.specs.session.SessionKind.{session_kind}
use Rattle.tabs_compactor.specs.TabsKind.{tabs_kind}
use Rattle.writer_core.specs.declared.item.Item.{Item}
use Rattle.writer_core.specs.declared.item.Job.{Job}
use Rattle.writer_core.specs.Jobs.{session_job, tabs_job}

abbrev pub StateOf : Family → Type 0
StateOf Session = SessionState
StateOf Tabs = ClosedState

abbrev pub CommandOf : Family → Type 0
CommandOf Session = SessionCommand
CommandOf Tabs = TabsCommand

abbrev pub kind_of : (family : Family) → Kind (StateOf family) (CommandOf family)
kind_of Session = session_kind
kind_of Tabs = tabs_kind

-- an item for the journals of a run
abbrev pub RunItem : Type 0
RunItem = Item SessionCommand TabsCommand

abbrev pub job_of : (family : Family) → RunItem → Job (CommandOf family)
job_of Session item = session_job item
job_of Tabs item = tabs_job item

-- the states to which the files of both families read
abbrev pub Firsts : Type 0
Firsts = (family : Family) → StateOf family
