-- The pieces of the pickle, appended one by one.
use Rattle.std.proofs.Common.{◌≡◌, ◌∙◌, ◌+◌, ◌++◌, List, length, ℕ, ap, w32, arith}
use Rattle.std.proofs.lemmas.Int.{to_z-of_z}
use Rattle.pickle_cells.specs.Cell.{int, uint32}
use Rattle.payload_rows.proofs.WriteLaws.{int_rest_bytes}
use Rattle.payload_rows.proofs.pickled_write.put_int_rest.Goals as goal

pub returns-clause-ok : goal.returns-clause-ok
returns-clause-ok c =
    let out = c.args.out.now.items in
    let size = 4 + length c.args.rest.now in
    let head : c.extend_from_slice.new.self.items ≡ out ++ uint32 size =
    c.in_ok-extend_from_slice.ensures.items ∙ ap (λ (x : List ℕ). x ++ c.size_bytes.result) c.reserve.ensures.items ∙ ap (λ (x : List ℕ). out ++ x) c.size_bytes.ensures in
    let number : c.extend_from_slice-2.new.self.items ≡ c.extend_from_slice.new.self.items ++ int c.args.number =
    c.in_ok-extend_from_slice-2.ensures.items ∙ ap (λ (x : List ℕ). c.extend_from_slice.new.self.items ++ x) (c.int_bytes.ensures ∙ ap int (to_z-of_z w32 c.args.number c.ranges.number)) in
    int_rest_bytes _ _ _ _ c.args.number c.args.rest.now size head number c.in_ok-extend_from_slice-3.ensures.items (omega arith)
