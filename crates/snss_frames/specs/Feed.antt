-- What a feed holds of a file whose bytes come in pieces: those that belong to no frame given so far.
use Rattle.std.specs.Prelude.{◌≡◌, ℕ, ◌+◌, ◌≤◌, ◌^◌, Bool, not, ◌&&◌, ◌==◌, nat_le, List, ◌++◌, length, drop, Option, None, Some}
use Rattle.snss_frames.specs.Frame.{size_of, begins_frame}
use Rattle.snss_frames.specs.declared.frame.FrameRef.{FrameRef}

pub record Feed : Type 0 where
  -- the offset in the file of the first byte that is held
  pub at : ℕ
  pub held : List ℕ

-- the feed after these bytes came
abbrev pub fed : Feed → List ℕ → Feed
fed feed bytes = record { at = feed.at; held = feed.held ++ bytes }

-- the feed without its first n bytes
abbrev pub past : ℕ → Feed → Feed
past n feed = record { at = feed.at + n; held = drop n feed.held }

-- what is held after a frame was asked for, where it begins with one and where it doesn't
abbrev pub IsLeft : Feed → Option FrameRef → Feed → Type 0
IsLeft old None new = new ≡ old
IsLeft old (Some f) new = new ≡ past (3 + length f.payload.now) old

-- whether bytes begin with a size of 0
abbrev pub begins_empty : List ℕ → Bool
begins_empty bytes = nat_le 2 (length bytes) && (size_of bytes == 0)

-- whether more bytes may make a whole frame of these
abbrev pub is_partial : List ℕ → Bool
is_partial bytes = not (begins_frame bytes) && not (begins_empty bytes)

-- The held bytes lie in a buffer of the greatest frame's length, and the offset behind them is at most 2^63.
pub record HasRoom (buffer : List ℕ) (start held at : ℕ) : Type 0 where
  pub size : length buffer ≡ 65537
  pub within : start + held ≤ 65537
  pub offset : at + held ≤ 2 ^ 63
