-- Five numbers, appended one by one.
use Rattle.std.proofs.Common.{◌≡◌, ◌∙◌, ◌++◌, ℤ, ap, w32, rules, append_assoc}
use Rattle.std.specs.Prelude.{FitsSigned}
use Rattle.std.proofs.lemmas.Int.{to_z-of_z}
use Rattle.pickle_cells.specs.Cell.{int}
use Rattle.payload_rows.proofs.window_entry.put_bounds.Goals as goal

pub returns-clause-written : goal.returns-clause-written
returns-clause-written c =
    let b = c.args.bounds in
    let in_x : FitsSigned w32 b.x = search rules in
    let in_y : FitsSigned w32 b.y = search rules in
    let in_width : FitsSigned w32 b.width = search rules in
    let in_height : FitsSigned w32 b.height = search rules in
    let in_show : FitsSigned w32 b.show = search rules in
    let x : c.put_int.new.self ≡ c.args.writer.now ++ int b.x = c.in_ok-put_int.ensures.written ∙ ap (λ (z : ℤ). c.args.writer.now ++ int z) (to_z-of_z w32 b.x in_x) in
    let y : c.put_int-2.new.self ≡ c.put_int.new.self ++ int b.y = c.in_ok-put_int-2.ensures.written ∙ ap (λ (z : ℤ). c.put_int.new.self ++ int z) (to_z-of_z w32 b.y in_y) in
    let width : c.put_int-3.new.self ≡ c.put_int-2.new.self ++ int b.width = c.in_ok-put_int-3.ensures.written ∙ ap (λ (z : ℤ). c.put_int-2.new.self ++ int z) (to_z-of_z w32 b.width in_width) in
    let height : c.put_int-4.new.self ≡ c.put_int-3.new.self ++ int b.height = c.in_ok-put_int-4.ensures.written ∙ ap (λ (z : ℤ). c.put_int-3.new.self ++ int z) (to_z-of_z w32 b.height in_height) in
    let show : c.put_int-5.new.self ≡ c.put_int-4.new.self ++ int b.show = c.in_ok-put_int-5.ensures.written ∙ ap (λ (z : ℤ). c.put_int-4.new.self ++ int z) (to_z-of_z w32 b.show in_show) in
    rw (show, height, width, y, x) (simp append_assoc)
