use Rattle.std.proofs.Common.{ap, sym}
use Rattle.script_lines.specs.Reading.{next, behind}
use Rattle.script_lines.proofs.FieldLaws.{fields-split, fields-whole}
use Rattle.script_lines.proofs.fields.Fields.split_first.Goals as goal

pub returns-in-Some-clause-first : goal.returns-in-Some-clause-first
returns-in-Some-clause-first c = ap next (sym (fields-split c.args.text.now (c.in-Some.first, c.in-Some.others) c.in-Some.ensures.cases))

pub returns-in-Some-clause-others : goal.returns-in-Some-clause-others
returns-in-Some-clause-others c = ap behind (sym (fields-split c.args.text.now (c.in-Some.first, c.in-Some.others) c.in-Some.ensures.cases))

pub returns-in-None-clause-first : goal.returns-in-None-clause-first
returns-in-None-clause-first c = ap next (sym (fields-whole c.args.text.now c.in-None.ensures.cases))

pub returns-in-None-clause-others : goal.returns-in-None-clause-others
returns-in-None-clause-others c = ap behind (sym (fields-whole c.args.text.now c.in-None.ensures.cases))
