use Rattle.std.proofs.Common.{Some, None, ap, sym, ◌∙◌, lit<}
use Rattle.std.specs.Option.{ok_or}
use Rattle.std.proofs.lemmas.Str.Pattern.{strip_prefix_char}
use Rattle.script_lines.specs.declared.fault.LineFault.TheVariants.{Number}
use Rattle.script_lines.proofs.NumberLaws.{signed_of-plain, signed_of-minus}
use Rattle.script_lines.proofs.numbers.signed.Goals as goal

pub returns-in-Some : goal.returns-in-Some
returns-in-Some c =
    c.minus.ensures ∙ ap (λ n. ok_or n Number) (sym (signed_of-minus c.args.field.now _ (strip_prefix_char 45 c.args.field.now (Some c.in-Some.digits) c.in-Some.ensures.cases (lit< tt))))

pub returns-in-None : goal.returns-in-None
returns-in-None c = c.place.ensures ∙ ap (λ n. ok_or n Number) (sym (signed_of-plain c.args.field.now (strip_prefix_char 45 c.args.field.now None c.in-None.ensures.cases (lit< tt))))
