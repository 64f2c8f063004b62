-- The pieces of the pickle, appended one by one.
use Rattle.std.proofs.Common.{◌≡◌, ◌∙◌, ◌++◌, ℤ, ap, w32, w64, rules, append_assoc}
use Rattle.std.specs.Prelude.{FitsSigned}
use Rattle.std.proofs.lemmas.Int.{to_z-of_z}
use Rattle.pickle_cells.specs.Cell.{int, int64}
use Rattle.pickle_cells.specs.PickleLayout.{pickled_bytes, items_bytes, item_bytes}
use Rattle.payload_rows.proofs.window_entry.write_window_entry.Goals as goal

pub returns : goal.returns
unfolding pickled_bytes items_bytes item_bytes
returns c =
    let e = c.args.entry in
    let in_window : FitsSigned w32 e.window = search rules in
    let in_selected : FitsSigned w32 e.selected = search rules in
    let in_count : FitsSigned w32 e.count = search rules in
    let in_time : FitsSigned w64 e.time = search rules in
    let window : c.put_int.new.self ≡ c.in_ok-writer.writer ++ int e.window = c.in_ok-put_int.ensures.written ∙ ap (λ (z : ℤ). c.in_ok-writer.writer ++ int z) (to_z-of_z w32 e.window in_window) in
    let selected : c.put_int-2.new.self ≡ c.put_int.new.self ++ int e.selected = c.in_ok-put_int-2.ensures.written ∙ ap (λ (z : ℤ). c.put_int.new.self ++ int z) (to_z-of_z w32 e.selected in_selected) in
    let count : c.put_int-3.new.self ≡ c.put_int-2.new.self ++ int e.count = c.in_ok-put_int-3.ensures.written ∙ ap (λ (z : ℤ). c.put_int-2.new.self ++ int z) (to_z-of_z w32 e.count in_count) in
    let time : c.put_int64.new.self ≡ c.put_int-3.new.self ++ int64 e.time = c.in_ok-put_int64.ensures.written ∙ ap (λ (z : ℤ). c.put_int-3.new.self ++ int64 z) (to_z-of_z w64 e.time in_time) in
    rw (c.finish.ensures, c.in_ok-put_rest.ensures.written, c.in_ok-put_bounds.ensures.written, time, count, selected, window, c.in_ok-writer.ensures) (simp append_assoc)
