-- The files of a disk in memory, as a list by rising stamp, and what they stand for.
use Rattle.std.specs.Prelude.{ℕ, suc, ◌^◌, nat_lt, nat_le, Bool, true, ◌&&◌, if◌then◌else◌, ◌==◌, List, [], ◌∷◌, length, Option, Some, None}
use Rattle.session_disk.specs.declared.memory.file_list.DiskFile.{DiskFile}
use Rattle.session_disk.specs.Crashes.{Remains}
use Rattle.session_disk.specs.Moments.{Standing, Removed}

abbrev pub standing_of : DiskFile → Standing
standing_of file = record { bytes = file.bytes; synced = file.synced; settled = file.settled }

abbrev pub removed_of : DiskFile → Removed
removed_of file = record { stamp = file.stamp; bytes = file.bytes; synced = file.synced }

abbrev pub remains_of : DiskFile → Remains
remains_of file = record { bytes = file.bytes; synced = file.synced }

abbrev pub settle_file : DiskFile → DiskFile
settle_file file = record file { settled = true }

-- the file under a stamp
abbrev pub standing_in : List DiskFile → ℕ → Option Standing
standing_in [] stamp = None
standing_in (file ∷ files) stamp = if stamp == file.stamp then Some (standing_of file) else standing_in files stamp

-- each stamp is above a bound
abbrev pub all_above : ℕ → List DiskFile → Bool
all_above bound [] = true
all_above bound (file ∷ files) = nat_lt bound file.stamp && all_above bound files

-- its stamp is below 2^63, and it is no longer than 2^62 bytes
abbrev pub is_bounded : DiskFile → Bool
is_bounded file = nat_lt file.stamp (2 ^ 63) && nat_le (length file.bytes) (2 ^ 62)

-- stamps rise and are below 2^63, and no file is longer than 2^62
abbrev pub is_listed : List DiskFile → Bool
is_listed [] = true
is_listed (file ∷ files) = (all_above file.stamp files && nat_lt file.stamp (2 ^ 63)) && (nat_le (length file.bytes) (2 ^ 62) && is_listed files)

-- how many files at the start have stamps below a bound
abbrev pub place_of : ℕ → List DiskFile → ℕ
place_of bound [] = 0
place_of bound (file ∷ files) = if nat_lt file.stamp bound then suc (place_of bound files) else 0

-- how many files at the start are below a bound, where there is one
abbrev pub end_of : Option ℕ → List DiskFile → ℕ
end_of None files = length files
end_of (Some bound) files = place_of bound files

-- the stamps of the files whose names aren't settled
abbrev pub unsettled_stamps : List DiskFile → List ℕ
unsettled_stamps [] = []
unsettled_stamps (file ∷ files) = if file.settled then unsettled_stamps files else (file.stamp ∷ unsettled_stamps files)
