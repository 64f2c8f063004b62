-- The earlier moments of a disk in memory, from the present one and the log of what changed.
use Rattle.std.specs.Prelude.{ℕ, ◌-◌, Bool, not, nat_eq, List, [], ◌∷◌, length, take, reverse, map, Option, Some, None, option_map}
use Rattle.std.specs.List.{list_any, last_or}
use Rattle.session_disk.specs.declared.memory.file_list.DiskFile.{DiskFile}
use Rattle.session_disk.specs.declared.memory.change_log.Undo.{Undo}
use Rattle.session_disk.specs.declared.memory.change_log.Undo.TheVariants.{Created, Appended, Synced, Settled, Told}
use Rattle.session_disk.specs.declared.memory.change_log.Undo.TheVariants as change
use Rattle.session_disk.specs.DiskFiles.{standing_in, removed_of}
use Rattle.session_disk.specs.Histories.{History}
use Rattle.session_disk.specs.Moments.{Moment, Standing, Removed, with_file, with_change}

-- the last removed file stands again
abbrev pub unremove : Bool → Option Removed → Moment → Moment
unremove settled None m = m
unremove settled (Some file) m = record m {
  standing = with_file file.stamp (Some (record { bytes = file.bytes; synced = file.synced; settled = settled })) m.standing;
  removed = take (length m.removed - 1) m.removed;
}

-- the name of the file under a stamp is settled, unless the stamp is one of these
abbrev pub unsettle : List ℕ → ℕ → Standing → Standing
unsettle stamps stamp file = record file { settled = not (list_any (nat_eq stamp) stamps) }

-- the moment before a change
unfoldable pub undo : Undo → Moment → Moment
undo (Created stamp) m = record m { standing = with_file stamp None m.standing; creates = m.creates - 1 }
undo (Appended stamp count) m = with_change (λ file. record file { bytes = take (length file.bytes - count) file.bytes }) stamp m
undo (Synced stamp before) m = with_change (λ file. record file { synced = before }) stamp m
undo (change.Removed settled) m = unremove settled (last_or None m.removed) m
undo (Settled unsettled removed) m = record m {
  standing = λ stamp. option_map (unsettle unsettled.items stamp) (m.standing stamp);
  removed = map removed_of removed.items;
}
undo (Told before) m = record m { told = before }

-- the moments before one, the latest first, from the changes that led to it, the latest first
unfoldable pub past_of : List Undo → Moment → List Moment
past_of [] m = []
past_of (change ∷ changes) m = undo change m ∷ past_of changes (undo change m)

abbrev pub moment_of : List DiskFile → List DiskFile → ℕ → ℕ → Moment
moment_of files removed told creates = record {
  standing = standing_in files;
  removed = map removed_of removed;
  told = told;
  creates = creates;
}

-- the history of a moment, with its log in the order of writing
abbrev pub history_from : List Undo → Moment → History
history_from log m = record { now = m; past = past_of (reverse log) m }
