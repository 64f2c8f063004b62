use Rattle.std.proofs.Common.{refl, inr}
use Rattle.snss_inspect.proofs.AnswerLaws.{written_prefix}
use Rattle.snss_inspect.proofs.inspection.refuse.Goals as goal

pub returns-in-Err : goal.returns-in-Err
returns-in-Err g c = inr (refl, c.in-Err.ensures.cause.failed, written_prefix _ _ _ c.in-Err.field-0 c.in-Err.ensures.bytes)
