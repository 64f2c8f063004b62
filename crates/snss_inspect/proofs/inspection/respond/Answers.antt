use Rattle.std.proofs.Common.{sym}
use Rattle.snss_inspect.proofs.AnswerLaws.{refused_answers}
use Rattle.snss_inspect.proofs.inspection.respond.Goals as goal

pub returns-in-None-clause-report : goal.returns-in-None-clause-report
returns-in-None-clause-report g c = λ known v is. refused_answers _ _ _ v _ (rw (sym c.read_words.ensures.value, c.in-None.is) at is) c.refuse.ensures
