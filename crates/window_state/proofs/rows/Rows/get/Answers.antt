use Rattle.std.proofs.Common.{ap, ◌∙◌}
use Rattle.window_state.specs.RowLists.{find_row}
use Rattle.window_state.proofs.RowLaws.{find-values}
use Rattle.window_state.proofs.rows.Rows.get.Goals as goal

pub returns : goal.returns
returns g c = c.get.ensures.value ∙ find-values g.R.Key.Ord.cmp g.R.Row.key c.args.id c.self.inside.rows.entries c.self.invariant ∙ ap (find_row g.R.Key.Ord.cmp g.R.Row.key c.args.id) c.self.view_is
