use Rattle.std.proofs.Common.{◌^◌, arith}
use Rattle.shown_texts.proofs.QuotableLaws.{units_are_quotable}
use Rattle.shown_texts.proofs.ReadingLaws.{below, units_only}
use Rattle.shown_texts.proofs.units.show_units.Goals as goal

pub returns-in-Ok-clause-quotable : goal.returns-in-Ok-clause-quotable
returns-in-Ok-clause-quotable c = units_are_quotable c.args.text.now

pub returns-in-Ok-clause-only : goal.returns-in-Ok-clause-only
returns-in-Ok-clause-only c = units_only c.args.text.now (below (2 ^ 16) _ (λ i. omega (arith, c.type_inv.text i)))

pub returns-in-Err-clause-quotable : goal.returns-in-Err-clause-quotable
returns-in-Err-clause-quotable c = units_are_quotable c.args.text.now

pub returns-in-Err-clause-only : goal.returns-in-Err-clause-only
returns-in-Err-clause-only c = units_only c.args.text.now (below (2 ^ 16) _ (λ i. omega (arith, c.type_inv.text i)))
