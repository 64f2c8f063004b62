-- Six numbers, appended one by one.
use Rattle.std.proofs.Common.{◌≡◌, ◌∙◌, ◌++◌, List, ℕ, ap, w32, rules}
use Rattle.std.specs.Prelude.{FitsSigned}
use Rattle.std.proofs.lemmas.Int.{to_z-of_z}
use Rattle.pickle_cells.specs.Cell.{int}
use Rattle.pickle_cells.specs.Layout.{fields_bytes, field_bytes}
use Rattle.payload_rows.proofs.ShapeLaws.{six_pieces}
use Rattle.payload_rows.proofs.fixed_write.put_window_bounds.Goals as goal

pub returns-clause-ok : goal.returns-clause-ok
unfolding fields_bytes field_bytes
returns-clause-ok c =
    let fits0 : FitsSigned w32 c.args.window = search rules in
    let bytes0 : c.int_bytes.result ≡ int c.args.window = c.int_bytes.ensures ∙ ap int (to_z-of_z w32 c.args.window fits0) in
    let items0 : c.extend_from_slice.new.self.items ≡ c.args.out.now.items ++ int c.args.window =
    c.in_ok-extend_from_slice.ensures.items ∙ ap (λ (x : List ℕ). x ++ c.int_bytes.result) c.reserve.ensures.items ∙ ap (λ (x : List ℕ). c.args.out.now.items ++ x) bytes0 in
    let fits1 : FitsSigned w32 c.args.bounds.x = search rules in
    let bytes1 : c.int_bytes-2.result ≡ int c.args.bounds.x = c.int_bytes-2.ensures ∙ ap int (to_z-of_z w32 c.args.bounds.x fits1) in
    let items1 : c.extend_from_slice-2.new.self.items ≡ c.extend_from_slice.new.self.items ++ int c.args.bounds.x = c.in_ok-extend_from_slice-2.ensures.items ∙ ap (λ (x : List ℕ). c.extend_from_slice.new.self.items ++ x) bytes1 in
    let fits2 : FitsSigned w32 c.args.bounds.y = search rules in
    let bytes2 : c.int_bytes-3.result ≡ int c.args.bounds.y = c.int_bytes-3.ensures ∙ ap int (to_z-of_z w32 c.args.bounds.y fits2) in
    let items2 : c.extend_from_slice-3.new.self.items ≡ c.extend_from_slice-2.new.self.items ++ int c.args.bounds.y = c.in_ok-extend_from_slice-3.ensures.items ∙ ap (λ (x : List ℕ). c.extend_from_slice-2.new.self.items ++ x) bytes2 in
    let fits3 : FitsSigned w32 c.args.bounds.width = search rules in
    let bytes3 : c.int_bytes-4.result ≡ int c.args.bounds.width = c.int_bytes-4.ensures ∙ ap int (to_z-of_z w32 c.args.bounds.width fits3) in
    let items3 : c.extend_from_slice-4.new.self.items ≡ c.extend_from_slice-3.new.self.items ++ int c.args.bounds.width = c.in_ok-extend_from_slice-4.ensures.items ∙ ap (λ (x : List ℕ). c.extend_from_slice-3.new.self.items ++ x) bytes3 in
    let fits4 : FitsSigned w32 c.args.bounds.height = search rules in
    let bytes4 : c.int_bytes-5.result ≡ int c.args.bounds.height = c.int_bytes-5.ensures ∙ ap int (to_z-of_z w32 c.args.bounds.height fits4) in
    let items4 : c.extend_from_slice-5.new.self.items ≡ c.extend_from_slice-4.new.self.items ++ int c.args.bounds.height = c.in_ok-extend_from_slice-5.ensures.items ∙ ap (λ (x : List ℕ). c.extend_from_slice-4.new.self.items ++ x) bytes4 in
    let fits5 : FitsSigned w32 c.args.bounds.show = search rules in
    let bytes5 : c.int_bytes-6.result ≡ int c.args.bounds.show = c.int_bytes-6.ensures ∙ ap int (to_z-of_z w32 c.args.bounds.show fits5) in
    let items5 : c.extend_from_slice-6.new.self.items ≡ c.extend_from_slice-5.new.self.items ++ int c.args.bounds.show = c.in_ok-extend_from_slice-6.ensures.items ∙ ap (λ (x : List ℕ). c.extend_from_slice-5.new.self.items ++ x) bytes5 in
    six_pieces _ _ _ _ _ _ _ _ _ _ _ _ _ items0 items1 items2 items3 items4 items5
