-- Closed entries beside a browser that remembers them.
use Rattle.std.specs.Prelude.{◌≡◌, ◌≤◌, List, length}
use Rattle.machine_law.specs.Kind.{fold}
use Rattle.tab_restore_commands.specs.declared.command.TabsCommand.{TabsCommand}
use Rattle.closed_entries.specs.States.{State}
use Rattle.closed_entries.specs.declared.limits.TheConstants.{ENTRIES}
use Rattle.browser_model.specs.Browsers.{Browser}
use Rattle.tabs_compactor.specs.TabsKind.{tabs_kind}

-- a state of closed entries has those that the browser remembers, and awaits no tab
pub record HoldsClosed (s : State) (b : Browser) : Type 0 where
  pub awaits_none : s.awaited ≡ 0
  pub entries : s.entries ≡ b.closed
  pub few : length s.entries ≤ ENTRIES

-- commands lead from what one browser remembers to what another does
abbrev pub LeadsClosed : Browser → List TabsCommand → Browser → Type 0
LeadsClosed b commands next = (s : State) → HoldsClosed s b → HoldsClosed (fold tabs_kind s commands) next
