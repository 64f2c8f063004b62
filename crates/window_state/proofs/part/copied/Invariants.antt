use Rattle.std.proofs.Common.{◌≡◌, take}
use Rattle.window_state.proofs.part.copied.Given as goal

abbrev pub invariant-loop-part : goal.invariant-loop-part
invariant-loop-part g l = l.copied.items ≡ take l.part-index l.parts
