use Rattle.std.proofs.Common.{arith}
use Rattle.pickle_cells.specs.CellReading.{units_of}
use Rattle.pickle_cells.proofs.UnitLaws.{units_of-fits}
use Rattle.shown_texts.proofs.QuotableLaws.{units_are_quotable}
use Rattle.shown_texts.proofs.ReadingLaws.{units_only}
use Rattle.shown_texts.proofs.pairs.show_pairs.Goals as goal

pub returns-in-Ok-clause-quotable : goal.returns-in-Ok-clause-quotable
returns-in-Ok-clause-quotable c = units_are_quotable (units_of c.args.bytes.now)

pub returns-in-Ok-clause-only : goal.returns-in-Ok-clause-only
returns-in-Ok-clause-only c = units_only _ (units_of-fits c.args.bytes.now (λ i. omega (arith, c.type_inv.bytes i)))

pub returns-in-Err-clause-quotable : goal.returns-in-Err-clause-quotable
returns-in-Err-clause-quotable c = units_are_quotable (units_of c.args.bytes.now)

pub returns-in-Err-clause-only : goal.returns-in-Err-clause-only
returns-in-Err-clause-only c = units_only _ (units_of-fits c.args.bytes.now (λ i. omega (arith, c.type_inv.bytes i)))
