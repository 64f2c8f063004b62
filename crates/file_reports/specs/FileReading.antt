-- What the bytes of a file are: too few for a header, a header that isn't read, or a header and the frames behind it.
use Rattle.std.specs.Prelude.{◌≡◌, ℕ, ◌<◌, ◌≤◌, List, length, take, drop, Ok, Err}
use Rattle.snss_frames.specs.Header.{header_of}
use Rattle.snss_frames.specs.Frame.{Frame}
use Rattle.snss_frames.specs.Reading.{Reads}
use Rattle.snss_frames.specs.declared.header.Version.{Version}
use Rattle.snss_frames.specs.declared.header.HeaderFault.{HeaderFault}

-- so many bytes, where a header has eight; why the header isn't read; the version, the whole frames, and the rest that
-- begins none
pub data FileReading : Type 0 where
  TooShort : ℕ → FileReading
  Foreign : HeaderFault → FileReading
  Framed : Version → List Frame → List ℕ → FileReading

-- the bytes read so; each file has just one reading
abbrev pub IsReading : List ℕ → FileReading → Type 0
IsReading bytes (TooShort n) = (length bytes ≡ n) × (n < 8)
IsReading bytes (Foreign fault) = (8 ≤ length bytes) × (header_of (take 8 bytes) ≡ Err fault)
IsReading bytes (Framed version frames rest) =
    (8 ≤ length bytes) × (header_of (take 8 bytes) ≡ Ok version) × Reads (drop 8 bytes) frames rest
