-- The tables of commands of both families.
use Rattle.std.specs.Prelude.{ℕ, List, Option}
use Rattle.payload_rows.specs.declared.fault.PayloadFault.{PayloadFault}
use Rattle.payload_rows.specs.declared.shape.Shape.{Shape}
use Rattle.session_commands.specs.Faults as session
use Rattle.session_disk.specs.declared.family.Family.{Family}
use Rattle.session_disk.specs.declared.family.Family.TheVariants.{Session, Tabs}
use Rattle.tab_restore_commands.specs.Faults as tabs

-- the shape of an id's payloads
abbrev pub shape_of : Family → ℕ → Option Shape
shape_of Session id = session.name_of id
shape_of Tabs id = tabs.name_of id

-- the first test that a payload fails, None where a row holds
abbrev pub fault_of : Family → ℕ → List ℕ → Option PayloadFault
fault_of Session id payload = session.fault_of id payload
fault_of Tabs id payload = tabs.fault_of id payload
