-- The names of session files (Chromium's components/sessions/core, command_storage_backend.cc): a prefix for
-- the family, then a plain decimal, the number of microseconds since 1601-01-01 UTC.
use Rattle.std.specs.Prelude.{ℕ, List, ◌++◌, codes}
use Rattle.std.specs.Fmt.{decimal}
use Rattle.session_disk.specs.declared.family.Family.{Family}
use Rattle.session_disk.specs.declared.family.Family.TheVariants.{Session, Tabs}

abbrev pub prefix_of : Family → List ℕ
prefix_of Session = codes "Session_"
prefix_of Tabs = codes "Tabs_"

abbrev pub name_of : Family → ℕ → List ℕ
name_of family stamp = prefix_of family ++ decimal stamp
