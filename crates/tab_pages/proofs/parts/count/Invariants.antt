use Rattle.std.proofs.Common.{◌≡◌, length, take}
use Rattle.tab_pages.specs.PartLists.{joined, AreLow}
use Rattle.tab_pages.proofs.parts.count.Given as goal

abbrev pub invariant-loop-part : goal.invariant-loop-part
invariant-loop-part l = (l.count ≡ length (joined (take l.part-index l.parts))) × AreLow (joined (take l.part-index l.parts))
