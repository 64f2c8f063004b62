-- A reader of frames, within a file: what it holds stands there from its place on.
use Rattle.std.specs.Prelude.{◌≡◌, ℕ, ◌+◌, ◌<◌, ◌≤◌, ◌^◌, false, List, length, take, drop, Option, None, Some, IsNone, Result, IfOk}
use Rattle.std.specs.Vec.{vec_len}
use Rattle.snss_frames.specs.Frame.{begins_frame}
use Rattle.snss_frames.specs.Feed.{Feed}
use Rattle.snss_frames.specs.Reading.{ending_at}
use Rattle.snss_frames.specs.declared.frame.FrameRef.{FrameRef}
use Rattle.file_reading.specs.declared.reader.FrameReader.{FrameReader}

-- what a feed holds stands in the file from the feed's place on
abbrev pub IsHeldOf : List ℕ → Feed → Type 0
IsHeldOf file feed = feed.held ≡ take (length feed.held) (drop feed.at file)

-- the reader is within a file of these bytes
pub record IsWithin (file : List ℕ) (r : FrameReader) : Type 0 where
  pub end : r.end ≡ length file
  pub held : IsHeldOf file r.feed

-- A reader of a file; that it is within the file is known where the disk is modelled.
pub record IsReading (modelled : Type 0) (file : List ℕ) (r : FrameReader) : Type 0 where
  pub stamp : r.stamp < 2 ^ 63
  pub piece : vec_len r.piece ≡ 4096
  pub within : r.feed.at + length r.feed.held ≤ r.end
  pub end : r.end ≤ 2 ^ 62
  pub known : modelled → IsWithin file r

-- the feed ends where the file does, as far as its frames go
pub record EndsWith (file : List ℕ) (feed : Feed) : Type 0 where
  pub none : begins_frame (drop feed.at file) ≡ false
  pub ending : ending_at feed.at feed.held ≡ ending_at feed.at (drop feed.at file)

-- from an offset on a feed went past a frame, or where none came it stayed and begins none
abbrev pub HasMoved : ℕ → Option FrameRef → Feed → Type 0
HasMoved at None new = (new.at ≡ at) × (begins_frame new.held ≡ false)
HasMoved at (Some f) new = new.at ≡ at + (3 + length f.payload.now)

-- A reader was asked for the next frame, which it lent or not, and is now this one.
pub record GoesOn {E : Type 0} (modelled : Type 0) (file : List ℕ) (old : FrameReader) (result : Result (Option FrameRef) E) (new : FrameReader) : Type 0 where
  pub reading : IsReading modelled file new
  pub stamp : new.stamp ≡ old.stamp
  pub end : new.end ≡ old.end
  pub moved : IfOk result (λ found. HasMoved old.feed.at found new.feed)
  pub ended : modelled → IfOk result (λ found. IsNone found → EndsWith file new.feed)
