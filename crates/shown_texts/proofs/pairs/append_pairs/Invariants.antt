use Rattle.std.proofs.Common.{◌≡◌, ◌*◌, ◌++◌, length, take, drop}
use Rattle.pickle_cells.specs.CellReading.{units_of}
use Rattle.shown_texts.specs.Shown.{shown_units}
use Rattle.shown_texts.proofs.pairs.append_pairs.Given as goal

abbrev pub invariant-loop-i : goal.invariant-loop-i
invariant-loop-i l = record {
  shown : l.out.items ++ shown_units (units_of (drop (2 * l.i) l.bytes)) ≡ l.fn.out.items ++ shown_units (units_of l.bytes);
  kept : take (length l.fn.out.items) l.out.items ≡ l.fn.out.items;
}
