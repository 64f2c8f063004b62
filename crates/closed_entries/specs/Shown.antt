-- What a user sees of closed entries.
use Rattle.std.specs.Prelude.{List, reverse}
use Rattle.closed_entries.specs.declared.entry.Entry.{Entry}
use Rattle.closed_entries.specs.States.{State}

-- the newest first
abbrev pub shown : State → List Entry
shown s = reverse s.entries
