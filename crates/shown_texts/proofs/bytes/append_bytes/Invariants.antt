use Rattle.std.proofs.Common.{◌≡◌, ◌++◌, take}
use Rattle.shown_texts.specs.Shown.{shown_bytes}
use Rattle.shown_texts.proofs.bytes.append_bytes.Given as goal

abbrev pub invariant-loop-byte : goal.invariant-loop-byte
invariant-loop-byte l = l.out.items ≡ l.fn.out.items ++ shown_bytes (take l.byte-index l.text)
