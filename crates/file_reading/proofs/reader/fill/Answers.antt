use Rattle.std.proofs.Common.{sym, ◌∙◌}
use Rattle.file_reading.proofs.ReaderLaws.{ends_empty}
use Rattle.file_reading.proofs.reader.fill.Goals as goal

pub returns-after-loop-disk-clause-ends : goal.returns-after-loop-disk-clause-ends
returns-after-loop-disk-clause-ends g c = λ modelled _ _ none.
    ends_empty _ _ (c.loop-disk.invariant.held modelled) none (sym c.is_partial.ensures.value ∙ c.loop-disk-test.false)
