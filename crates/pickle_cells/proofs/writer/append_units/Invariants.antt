use Rattle.std.proofs.Common.{◌≡◌, ◌+◌, ◌*◌, ◌≤◌, ◌++◌, length, take}
use Rattle.std.specs.Vec.{vec_len, vec_capacity}
use Rattle.pickle_cells.specs.Cell.{unit_bytes}
use Rattle.pickle_cells.proofs.writer.append_units.Given as goal

abbrev pub invariant-loop-unit : goal.invariant-loop-unit
invariant-loop-unit l = record {
  room : vec_len l.fn.out + 2 * length l.units ≤ vec_capacity l.out;
  long : vec_len l.out ≡ vec_len l.fn.out + 2 * l.unit-index;
  kept : vec_capacity l.fn.out ≤ vec_capacity l.out;
  so_far : l.out.items ≡ l.fn.out.items ++ unit_bytes (take l.unit-index l.units);
}
