use Rattle.std.proofs.Common.{arith, rules}
use Rattle.file_reading.proofs.FillLaws.{filled_more}
use Rattle.file_reading.proofs.fill.fill.Goals as goal

pub loop-filled-preserved : goal.loop-filled-preserved
loop-filled-preserved g c = record {
  unchanged = search rules;
  later = search rules;
  room = search rules;
  range = λ modelled _. rw c.loop-filled.invariant.unchanged at (c.in_ok-count.ensures.range modelled);
  filled = λ modelled. filled_more _ _ _ _ _ _ c.loop-filled.invariant.room (omega (arith, c.in_ok-count.ensures.bound, c.read_at.auto.into)) (c.loop-filled.invariant.filled modelled) (search rules);
}
