-- Files that aren't this project's to remove: their header is there and is refused.
use Rattle.std.specs.Prelude.{ℕ, Bool, List, length, take, nat_le, not, is_ok, ◌&&◌}
use Rattle.snss_frames.specs.Header.{header_of}

-- the first eight bytes are there and are no header that is read; a file of fewer bytes isn't foreign
abbrev pub is_foreign : List ℕ → Bool
is_foreign bytes = nat_le 8 (length bytes) && not (is_ok (header_of (take 8 bytes)))
