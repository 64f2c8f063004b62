-- What waits for a file, as contracts see it: the bytes, and the last frame among them. Which command may take the
-- place of the last one, and what waits when it has.
use Rattle.std.specs.Prelude.{ℕ, ◌-◌, nat_lt, Bool, false, if◌then◌else◌, List, [], ◌++◌, length, take, drop, Option, None, Some}
use Rattle.snss_frames.specs.Frame.{frame_bytes}
use Rattle.machine_law.specs.Kind.{Kind}
use Rattle.fresh_files.specs.Fresh.{frame_of}
use Rattle.log_writer.specs.declared.pending.LastFrame.{LastFrame}
use Rattle.log_writer.specs.declared.pending.Pending.{Pending}

pub record Waiting (C : Type 0) : Type 0 where
  pub bytes : List ℕ
  pub last : Option (LastFrame C)

module _ {C : Type 0} where
  -- what waits in a buffer, without a frame that isn't taken yet
  abbrev pub waiting_in : Pending C → Waiting C
  waiting_in p = record { bytes = take p.whole p.bytes.items; last = p.last }

  abbrev pub nothing : Waiting C
  nothing = record { bytes = []; last = None }

  -- the last frame, where it isn't among the first bytes
  abbrev pub last_behind : ℕ → Option (LastFrame C) → Option (LastFrame C)
  last_behind place None = None
  last_behind place (Some last) =
      if nat_lt last.place place then None else Some (record { place = last.place - place; command = last.command })

  -- what waits behind the first bytes, when they are appended
  abbrev pub behind : ℕ → Waiting C → Waiting C
  behind place w = record { bytes = drop place w.bytes; last = last_behind place w.last }

module _ {S C : Type 0} (kind : Kind S C) where
  abbrev pub covers_last : Option (LastFrame C) → C → Bool
  covers_last None command = false
  covers_last (Some last) command = kind.covers last.command command

  abbrev pub place_of_last : ℕ → Option (LastFrame C) → ℕ
  place_of_last whole None = whole
  place_of_last whole (Some last) = last.place

  -- where the frame of a command goes among what waits: in the place of the last one, which it covers, or behind all
  abbrev pub place_in : Waiting C → C → ℕ
  place_in w command =
      if covers_last w.last command then place_of_last (length w.bytes) w.last else length w.bytes

  -- what waits when a command was taken at this place
  abbrev pub taken_at : ℕ → C → Waiting C → Waiting C
  taken_at place command w = record {
    bytes = take place w.bytes ++ frame_bytes (frame_of kind command);
    last = Some (record { place = place; command = command });
  }
