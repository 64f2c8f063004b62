-- What the bytes behind a header say: whole frames, one after another, then a rest that begins none. The rest
-- is how the file ends.
use Rattle.std.specs.Prelude.{◌≡◌, ℕ, ◌+◌, ◌-◌, false, List, ◌++◌, length, if◌then◌else◌, ◌==◌}
use Rattle.std.specs.List.{AllByRecursion, flat_map}
use Rattle.snss_frames.specs.Frame.{Frame, IsFrame, frame_bytes, begins_frame, size_of}
use Rattle.snss_frames.specs.declared.ending.Ending.{Ending}
use Rattle.snss_frames.specs.declared.ending.Ending.TheVariants.{Whole, CutSize, EmptyCommand, CutBody}

-- the bytes are these frames and this rest, and the rest begins no whole frame
pub record Reads (bytes : List ℕ) (frames : List Frame) (rest : List ℕ) : Type 0 where
  pub whole : bytes ≡ flat_map frame_bytes frames ++ rest
  pub each : AllByRecursion IsFrame frames
  pub ended : begins_frame rest ≡ false

-- the offset behind frames that begin at an offset
abbrev pub offset_after : ℕ → List Frame → ℕ
offset_after at frames = at + length (flat_map frame_bytes frames)

-- how a file ends whose rest begins at this offset
abbrev pub ending_at : ℕ → List ℕ → Ending
ending_at at rest =
    if length rest == 0 then Whole else (if length rest == 1 then CutSize at else (if size_of rest == 0 then EmptyCommand at else CutBody at (size_of rest) (length rest - 2)))
