use Rattle.std.proofs.Common.{sym, ◌∙◌}
use Rattle.decimals.proofs.DecimalLaws.{number_of-other, plain_is_utf8, parsed}
use Rattle.decimals.proofs.number.Goals as goal

pub returns-then-not-is_plain : goal.returns-then-not-is_plain
returns-then-not-is_plain c = sym (number_of-other _ (sym c.is_plain.ensures ∙ c.if-not-is_plain.true))

pub returns-in-Ok : goal.returns-in-Ok
returns-in-Ok c =
    c.ok.ensures.value ∙ parsed c.args.text.now _ (sym c.is_plain.ensures ∙ c.if-not-is_plain.false) (rw c.in-Ok.ensures.cases.0 at c.parse.ensures.value.0)

pub returns-in-Err : goal.returns-in-Err
returns-in-Err c =
    absurd (c.in-Err.ensures.cases.0 (plain_is_utf8 _ (sym c.is_plain.ensures ∙ c.if-not-is_plain.false)))
