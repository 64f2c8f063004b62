-- Whether the accounts of both families go through a run's items, or which answer the first that they refuse ends it
-- with.
use Rattle.std.specs.Prelude.{◌-◌, ◌^◌, List, Option, None, Some}
use Rattle.session_disk.specs.declared.family.Family.{Family}
use Rattle.session_disk.specs.declared.family.Family.TheVariants.{Session, Tabs}
use Rattle.session_commands.specs.declared.command.SessionCommand.{SessionCommand}
use Rattle.tab_restore_commands.specs.declared.command.TabsCommand.{TabsCommand}
use Rattle.window_state.specs.States.{State as SessionState}
use Rattle.closed_entries.specs.States.{State as ClosedState}
use Rattle.writer_core.specs.Accounts.{Accounts, Both, TooLongFor, LastStampFor, accounts}
use Rattle.writer_core.specs.Working.{Beginning}
use Rattle.run_words.specs.declared.status.Status.{Status}
use Rattle.run_words.specs.declared.status.Status.TheVariants as status
use Rattle.run_words.specs.declared.status.Long.TheVariants.{File}
use Rattle.script_run.specs.Families.{StateOf, Firsts, RunItem, kind_of}

-- where the journal of each family begins
abbrev pub Beginnings : Type 0
Beginnings = (family : Family) → Beginning (StateOf family)

abbrev pub firsts_of : Beginnings → Firsts
firsts_of b family = (b family).first

abbrev pub ended : Accounts SessionState SessionCommand ClosedState TabsCommand → Option Status
ended (Both session tabs) = None
ended (TooLongFor family needed) = Some (status.TooLong (File family) needed)
ended (LastStampFor family) = Some (status.LastStamp family (2 ^ 63 - 1))

abbrev pub RunAccounts : Type 0
RunAccounts = Accounts SessionState SessionCommand ClosedState TabsCommand

-- the accounts of both families, from where their journals begin
abbrev pub run_accounts : Beginnings → List RunItem → RunAccounts
run_accounts b items = accounts (kind_of Session) (kind_of Tabs) (b Session) (b Tabs) items

-- the answer with which they end a run of these items, where they do
abbrev pub end_of : Beginnings → List RunItem → Option Status
end_of b items = ended (run_accounts b items)
