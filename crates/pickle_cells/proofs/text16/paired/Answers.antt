use Rattle.std.proofs.Common.{◌≡◌, ◌*◌, ◌/◌, ◌≤◌, ◌++◌, List, ℕ, length, drop, sym, ap, ◌∙◌, append_assoc, arith, length-drop}
use Rattle.std.proofs.lemmas.List.{append-nil}
use Rattle.pickle_cells.specs.Cell.{unit_bytes}
use Rattle.pickle_cells.specs.CellReading.{units_of}
use Rattle.pickle_cells.proofs.UnitLaws.{units_of-drop, units_of-short, unit_bytes-units_of}
use Rattle.pickle_cells.proofs.text16.paired.Goals as goal

units_are : (bytes : List ℕ) (i : ℕ) (units : List ℕ) → length bytes / 2 ≤ i → units ++ units_of (drop (2 * i) bytes) ≡ units_of bytes → units ≡ units_of bytes
units_are bytes i units le before =
    let none = units_of-short (drop (2 * i) bytes) (omega (arith, length-drop (2 * i) bytes)) in
    sym (append-nil units) ∙ ap (λ (x : List ℕ). units ++ x) (sym none) ∙ before

pub loop-i-preserved : goal.loop-i-preserved
loop-i-preserved c =
    let next = units_of-drop c.args.bytes.now c.loop-i.i (omega arith) in
    let before = c.loop-i.invariant in
    let items = c.in_ok-push.ensures.items in
    grind (arith, append_assoc)

pub returns : goal.returns
returns c =
    let items = units_are c.args.bytes.now c.loop-i.i c.loop-i.units.items (omega arith) c.loop-i.invariant in
    record { units = items; pairs = ap unit_bytes items ∙ unit_bytes-units_of c.args.bytes.now (λ i. omega (arith, c.type_inv.bytes i)) c.requires }
