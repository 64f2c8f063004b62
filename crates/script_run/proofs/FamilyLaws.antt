-- What holds of both families.
use Rattle.session_disk.specs.declared.family.Family.{Family}
use Rattle.session_disk.specs.declared.family.Family.TheVariants.{Session, Tabs}

-- a fact of each family
pub each : (P : Family → Type 0) → P Session → P Tabs → (family : Family) → P family
each P session tabs Session = session
each P session tabs Tabs = tabs
