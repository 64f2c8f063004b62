use Rattle.std.proofs.Common.{◌≡◌, take}
use Rattle.tab_pages.proofs.parts.copy.Given as goal

abbrev pub invariant-loop-part : goal.invariant-loop-part
invariant-loop-part l = l.copied.items ≡ take l.part-index l.parts
