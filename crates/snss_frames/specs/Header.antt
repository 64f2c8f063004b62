-- The eight bytes at the head of a file: the signature and the version, each in four bytes, little-endian
-- (Chromium's components/sessions/core/command_storage_backend.cc).
use Rattle.std.specs.Prelude.{ℕ, List, ◌++◌, take, drop, Result, Ok, Err, if◌then◌else◌, ◌==◌, ◌||◌}
use Rattle.std.specs.Int.{w32, to_le_bytes, from_le_bytes}
use Rattle.snss_frames.specs.declared.header.Version.{Version}
use Rattle.snss_frames.specs.declared.header.Version.TheVariants.{One, Three}
use Rattle.snss_frames.specs.declared.header.HeaderFault.{HeaderFault}
use Rattle.snss_frames.specs.declared.header.HeaderFault.TheVariants.{BadSignature, Encrypted, UnknownVersion}
use Rattle.snss_frames.specs.declared.header.TheConstants.{SIGNATURE}

abbrev pub number_of : Version → ℕ
number_of One = 1
number_of Three = 3

-- the header of a version
unfoldable pub header : Version → List ℕ
header version = to_le_bytes w32 SIGNATURE ++ to_le_bytes w32 (number_of version)

abbrev pub version_of : ℕ → Result Version HeaderFault
version_of number =
    if number == 1 then Ok One else (if number == 3 then Ok Three else (if (number == 2) || (number == 4) then Err (Encrypted number) else Err (UnknownVersion number)))

-- what eight bytes say as a header
unfoldable pub header_of : List ℕ → Result Version HeaderFault
header_of bytes =
    let signature = from_le_bytes w32 (take 4 bytes) in
    if signature == SIGNATURE then version_of (from_le_bytes w32 (drop 4 bytes)) else Err (BadSignature signature)
