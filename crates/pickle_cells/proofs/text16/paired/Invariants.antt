use Rattle.std.proofs.Common.{◌≡◌, ◌*◌, ◌++◌, drop}
use Rattle.pickle_cells.specs.CellReading.{units_of}
use Rattle.pickle_cells.proofs.text16.paired.Given as goal

abbrev pub invariant-loop-i : goal.invariant-loop-i
invariant-loop-i l = l.units.items ++ units_of (drop (2 * l.i) l.bytes) ≡ units_of l.bytes
