use Rattle.std.proofs.Common.{length}
use Rattle.payload_rows.proofs.refusal.+pass_items.Given as goal

abbrev pub decreases-pass_items : goal.decreases-pass_items
decreases-pass_items l = length l.kinds.now
