use Rattle.std.proofs.Common.{◌≡◌, Ok}
use Rattle.script_lines.specs.Reading.{fields_of, next, behind, verb_with}
use Rattle.script_lines.proofs.RangeLaws.{line-ranged}
use Rattle.script_lines.proofs.reading.read_line.Goals as goal

pub returns-clause-ranged : goal.returns-clause-ranged
returns-clause-ranged c =
    let line = c.args.line.now in
    let same = c.in-Ok.ensures.cases.0 in
    let says : verb_with (next (fields_of line)) (behind (fields_of line)) ≡ Ok c.in_ok-read_verb.field-0 = cc (same, c.split_first.ensures.first, c.split_first.ensures.others, c.in_ok-read_verb.ensures) in
    line-ranged line c.in_ok-read_verb.field-0 c.if-line-gt-LINE_MAX.false says
