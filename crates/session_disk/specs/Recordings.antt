-- What a recording stands for.
use Rattle.std.specs.Prelude.{ℕ, List, [], Some, None}
use Rattle.session_disk.specs.declared.memory.recording.Recording.{Recording}
use Rattle.session_disk.specs.ChangeLog.{moment_of, history_from}
use Rattle.session_disk.specs.Histories.{History}
use Rattle.session_disk.specs.Moments.{Moment, with_file, safe_file}

abbrev pub history_of : Recording → History
history_of recording = history_from recording.log.items (moment_of recording.files.items recording.removed.items recording.told recording.creates)

-- nothing is there, nothing was told, nothing made
abbrev pub empty_moment : Moment
empty_moment = record { standing = λ stamp. None; removed = []; told = 0; creates = 0 }

-- with one more file, synced and settled
abbrev pub with_safe_file : ℕ → List ℕ → Moment → Moment
with_safe_file stamp bytes m = record m { standing = with_file stamp (Some (safe_file bytes)) m.standing }
