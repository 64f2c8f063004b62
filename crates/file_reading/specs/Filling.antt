-- What is read of a file into a buffer.
use Rattle.std.specs.Prelude.{◌≡◌, ℕ, min, List, length, take}

-- n bytes of the file stand at the start of the buffer: all of them, or as many as there is room for
pub record IsFilled (file : List ℕ) (n : ℕ) (buffer : List ℕ) : Type 0 where
  pub count : n ≡ min (length file) (length buffer)
  pub bytes : take n buffer ≡ take n file
