-- What the first eight bytes of a file say.
use Rattle.std.specs.Prelude.{ℕ, List, length, take, nat_lt, if◌then◌else◌, Result, Ok, Err}
use Rattle.snss_frames.specs.Header.{header_of}
use Rattle.snss_frames.specs.declared.header.Version.{Version}
use Rattle.snss_frames.specs.declared.header.HeaderFault.{HeaderFault}
use Rattle.file_reading.specs.declared.head.FileHead.{FileHead}
use Rattle.file_reading.specs.declared.head.FileHead.TheVariants.{Short, Foreign, Known}

abbrev pub said_by : Result Version HeaderFault → FileHead
said_by (Ok version) = Known version
said_by (Err fault) = Foreign fault

abbrev pub head_of : List ℕ → FileHead
head_of bytes = if nat_lt (length bytes) 8 then Short (length bytes) else said_by (header_of (take 8 bytes))

-- this holds where the header is one that is read
abbrev pub IfKnown : FileHead → Type 0 → Type 0
IfKnown (Known version) P = P
IfKnown head P = Unit {0}
