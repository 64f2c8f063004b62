use Rattle.std.proofs.Common.{ap, ◌∙◌}
use Rattle.std.specs.Map.{values_of}
use Rattle.window_state.specs.RowLists.{without_row}
use Rattle.window_state.proofs.RowLaws.{remove-values, remove-keyed}
use Rattle.window_state.proofs.rows.Rows.remove.Goals as goal

pub invariant_of-self : goal.invariant_of-self
invariant_of-self g c =
    rw c.remove.ensures.entries (remove-keyed g.R.Key.Ord.cmp g.R.Row.key c.args.id c.self.inside.rows.entries c.self.invariant)

pub returns : goal.returns
returns g c =
    ap values_of c.remove.ensures.entries ∙ remove-values g.R.Key.Ord.cmp g.R.Row.key c.args.id c.self.inside.rows.entries c.self.invariant ∙ ap (without_row g.R.Key.Ord.cmp g.R.Row.key c.args.id) c.self.view_is
