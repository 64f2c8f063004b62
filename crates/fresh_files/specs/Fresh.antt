-- The bytes of a file: the header of version 3, a frame for each command that restates a state, the marker, and then
-- the frames of the commands that came since.
use Rattle.std.specs.Prelude.{◌≡◌, ℕ, ◌+◌, List, ◌++◌, length, map}
use Rattle.std.specs.List.{AllByRecursion, flat_map}
use Rattle.snss_frames.specs.Header.{header}
use Rattle.snss_frames.specs.Frame.{Frame, IsFrame, frame_bytes, marker}
use Rattle.snss_frames.specs.declared.header.Version.TheVariants.{Three}
use Rattle.machine_law.specs.Kind.{Kind, fold, IsMarker}

module _ {S C : Type 0} (kind : Kind S C) where
  abbrev pub frame_of : C → Frame
  frame_of command = record { id = kind.id command; payload = kind.payload command }

  abbrev pub frames : List C → List ℕ
  frames commands = flat_map frame_bytes (map frame_of commands)

  -- a file that restates a state; the marker is last, so that no shorter prefix of it has one
  unfoldable pub fresh : S → List ℕ
  fresh state = header Three ++ (frames (kind.compaction state) ++ frame_bytes marker)

  -- how many bytes a command's frame has
  abbrev pub frame_length : C → ℕ
  frame_length command = 3 + length (kind.payload command)

  -- a command's frame fits, and its payload reads back as this command
  pub record IsWritten (command : C) : Type 0 where
    pub fits : IsFrame (frame_of command)
    pub reads_back : kind.Payload (kind.id command) command (kind.payload command)

  -- a state's compaction can be written and folds back to it; no marker is in it
  pub record Restates (state : S) : Type 0 where
    pub written : AllByRecursion IsWritten (kind.compaction state)
    pub unmarked : AllByRecursion (λ command. IsMarker kind command → ⊥) (kind.compaction state)
    pub folds_back : fold kind kind.start (kind.compaction state) ≡ state
