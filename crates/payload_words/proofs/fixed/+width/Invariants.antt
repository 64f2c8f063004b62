use Rattle.std.proofs.Common.{length}
use Rattle.payload_words.proofs.fixed.+width.Given as goal

abbrev pub decreases-width : goal.decreases-width
decreases-width l = length l.kinds.now
