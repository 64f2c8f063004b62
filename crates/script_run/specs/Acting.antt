-- What a line asks of the journals, and what acting on it makes of the browser.
use Rattle.std.specs.Prelude.{◌≡◌, Bool, true, false, List, [], ◌∷◌, ◌++◌, map, Result, Ok, Err}
use Rattle.session_commands.specs.declared.command.SessionCommand.{SessionCommand}
use Rattle.tab_restore_commands.specs.declared.command.TabsCommand.{TabsCommand}
use Rattle.browser_model.specs.Browsers.{Browser}
use Rattle.script_lines.specs.declared.verb.Verb.{Verb}
use Rattle.script_lines.specs.declared.verb.Verb.TheVariants as verb
use Rattle.writer_core.specs.declared.item.Item.TheVariants as item
use Rattle.script_run.specs.Script.{Acted}
use Rattle.script_run.specs.Segments.{sync_steps}
use Rattle.script_run.specs.Steps.{Step, Handle}
use Rattle.script_run.specs.declared.asking.Asked.{Asked}
use Rattle.script_run.specs.declared.asking.Asked.TheVariants as asked
use Rattle.script_run.specs.declared.asking.Work.{Work}
use Rattle.script_run.specs.declared.acting.Unasked.{Unasked}
use Rattle.script_run.specs.declared.acting.Unasked.TheVariants as unasked

-- the session's commands come first
abbrev pub command_steps : List SessionCommand → List TabsCommand → List Step
command_steps session tabs =
    map (λ command. Handle (item.Session command)) session ++ map (λ command. Handle (item.Tabs command)) tabs

-- a compaction, where it is asked for
abbrev pub compaction_steps : Bool → List Step
compaction_steps true = Handle item.Compact ∷ []
compaction_steps false = []

abbrev pub work_steps : Work → List Step
work_steps work =
    map (λ command. Handle (item.Session command)) work.session.items
    ++ (map (λ command. Handle (item.Tabs command)) work.tabs.items ++ compaction_steps work.compacts)

abbrev pub asked_steps : Asked → List Step
asked_steps asked.Sync = sync_steps
asked_steps (asked.Work work) = work_steps work

-- the commands that are asked for, and whether it is a sync
abbrev pub session_asked : Asked → List SessionCommand
session_asked asked.Sync = []
session_asked (asked.Work work) = work.session.items

abbrev pub tabs_asked : Asked → List TabsCommand
tabs_asked asked.Sync = []
tabs_asked (asked.Work work) = work.tabs.items

abbrev pub syncs : Asked → Bool
syncs asked.Sync = true
syncs (asked.Work work) = false

abbrev pub wants_compaction : Verb → Bool
wants_compaction verb.Compact = true
wants_compaction other = false

-- a refused line leaves the browser
abbrev pub ActsOnLine : Acted → (old new : Browser) → Result Asked Unasked → Type 0
ActsOnLine acted old new (Ok asked) = acted ≡ Ok (asked_steps asked, new)
ActsOnLine acted old new (Err (unasked.Refused why)) = (acted ≡ Err why) × (new ≡ old)
ActsOnLine acted old new (Err unasked.Memory) = new ≡ old
