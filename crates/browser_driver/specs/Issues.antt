-- What a call issues.
use Rattle.std.specs.Prelude.{Bool, false, List, []}
use Rattle.session_commands.specs.declared.command.SessionCommand.{SessionCommand}
use Rattle.tab_restore_commands.specs.declared.command.TabsCommand.{TabsCommand}
use Rattle.browser_driver.specs.declared.issued.Issued.{Issued}

abbrev pub issued : List SessionCommand → List TabsCommand → Issued
issued session tabs = record { session = session; tabs = tabs; sync = false; compact = false }

abbrev pub of_session : List SessionCommand → Issued
of_session session = issued session []

-- no command, but this is asked for
abbrev pub asking : (sync compact : Bool) → Issued
asking sync compact = record { session = []; tabs = []; sync = sync; compact = compact }
