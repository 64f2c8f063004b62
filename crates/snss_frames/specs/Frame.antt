-- A command in a file: its size in two bytes, little-endian, its id in one byte, its payload. The size counts
-- the id and the payload (Chromium's components/sessions/core/command_storage_backend.cc).
use Rattle.std.specs.Prelude.{◌≡◌, ℕ, ◌+◌, ◌<◌, ◌≤◌, Bool, List, [], ◌∷◌, ◌++◌, length, take, nat_le, ◌&&◌}
use Rattle.std.specs.Int.{w16, to_le_bytes, from_le_bytes}

pub record Frame : Type 0 where
  pub id : ℕ
  pub payload : List ℕ

-- what fits a frame
pub record IsFrame (f : Frame) : Type 0 where
  pub id : f.id < 256
  pub payload : length f.payload ≤ 65534

-- the bytes of a command's frame
unfoldable pub frame : ℕ → List ℕ → List ℕ
frame id payload = to_le_bytes w16 (1 + length payload) ++ id ∷ payload

abbrev pub frame_bytes : Frame → List ℕ
frame_bytes f = frame f.id f.payload

-- the size that the first two bytes say
unfoldable pub size_of : List ℕ → ℕ
size_of bytes = from_le_bytes w16 (take 2 bytes)

-- whether bytes begin with a whole frame
unfoldable pub begins_frame : List ℕ → Bool
begins_frame bytes = nat_le 2 (length bytes) && nat_le 1 (size_of bytes) && nat_le (2 + size_of bytes) (length bytes)

-- bytes begin with a frame
pub record BeginsWith (bytes : List ℕ) (f : Frame) : Type 0 where
  pub fits : IsFrame f
  pub more : List ℕ
  pub whole : bytes ≡ frame_bytes f ++ more

-- the initial-state marker: the id 255 without a payload
abbrev pub marker : Frame
marker = record { id = 255; payload = [] }
