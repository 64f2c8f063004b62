use Rattle.std.proofs.Common.{◌^◌, arith}
use Rattle.shown_texts.proofs.QuotableLaws.{bytes_are_quotable}
use Rattle.shown_texts.proofs.ReadingLaws.{below, bytes_only}
use Rattle.shown_texts.proofs.bytes.show_bytes.Goals as goal

pub returns-in-Ok-clause-quotable : goal.returns-in-Ok-clause-quotable
returns-in-Ok-clause-quotable c = bytes_are_quotable c.args.text.now

pub returns-in-Ok-clause-only : goal.returns-in-Ok-clause-only
returns-in-Ok-clause-only c = bytes_only c.args.text.now (below (2 ^ 8) _ (λ i. omega (arith, c.type_inv.text i)))

pub returns-in-Err-clause-quotable : goal.returns-in-Err-clause-quotable
returns-in-Err-clause-quotable c = bytes_are_quotable c.args.text.now

pub returns-in-Err-clause-only : goal.returns-in-Err-clause-only
returns-in-Err-clause-only c = bytes_only c.args.text.now (below (2 ^ 8) _ (λ i. omega (arith, c.type_inv.text i)))
