use Rattle.std.proofs.Common.{◌++◌, List, ℕ, sym, ap, ◌∙◌, arith}
use Rattle.std.proofs.lemmas.List.{append-nil}
use Rattle.pickle_cells.proofs.UnitLaws.{unit_bytes-none}
use Rattle.pickle_cells.proofs.writer.append_units.Goals as goal

pub loop-unit-init : goal.loop-unit-init
loop-unit-init c = record {
  room = c.requires;
  long = omega arith;
  kept = omega arith;
  so_far = sym (ap (λ (x : List ℕ). c.args.out.now.items ++ x) unit_bytes-none ∙ append-nil c.args.out.now.items);
}
