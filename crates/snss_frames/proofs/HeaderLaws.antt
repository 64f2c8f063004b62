-- A written header reads back, also where bytes follow it.
use Rattle.std.proofs.Common.{◌≡◌, ℕ, List, ◌++◌, length, take, drop, refl, Ok}
use Rattle.std.proofs.lemmas.List.{take_at, drop_at}
use Rattle.snss_frames.specs.Header.{header, header_of}
use Rattle.snss_frames.specs.declared.header.Version.{Version}
use Rattle.snss_frames.specs.declared.header.Version.TheVariants.{One, Three}

-- a header reads back
pub header_of-header : (version : Version) → header_of (header version) ≡ Ok version
unfolding header header_of
header_of-header One = refl
header_of-header Three = refl

-- a header has eight bytes
pub length-header : (version : Version) → length (header version) ≡ 8
unfolding header
length-header version = refl

-- the first eight bytes of a file are its header
pub take-header : (version : Version) (more : List ℕ) → take 8 (header version ++ more) ≡ header version
take-header version more = take_at (header version) more 8 (length-header version)

-- and the rest stands behind it
pub drop-header : (version : Version) (more : List ℕ) → drop 8 (header version ++ more) ≡ more
drop-header version more = drop_at (header version) more 8 (length-header version)
