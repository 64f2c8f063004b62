use Rattle.std.proofs.Common.{◌≡◌, Err, ap, sym, ◌∙◌, rules}
use Rattle.pickle_cells.specs.PickleLayout.{fault_of}
use Rattle.payload_rows.proofs.PassingLaws.{unopened, opened, passed_fault}
use Rattle.payload_rows.proofs.refusal.passed.Goals as goal

pub returns-in_err-cursor : goal.returns-in_err-cursor
returns-in_err-cursor c =
    let refused : c.from_residual.result ≡ Err c.in_err-cursor.field-0.0 = search rules in
    ap fault_of refused ∙ sym (unopened c.args.kinds.now c.args.payload.now c.in_err-cursor.field-0.0 (sym c.in_err-cursor.ensures.exact))

pub returns : goal.returns
returns c =
    passed_fault _ _ _ c.pass_items.ensures ∙ sym (opened c.args.kinds.now c.args.payload.now c.in_ok-cursor.cursor (sym c.in_ok-cursor.ensures.exact))
