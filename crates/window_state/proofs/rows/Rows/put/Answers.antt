use Rattle.std.proofs.Common.{ap, ◌∙◌}
use Rattle.std.specs.Map.{values_of}
use Rattle.window_state.specs.RowLists.{put_row}
use Rattle.window_state.proofs.RowLaws.{put-values, put-keyed}
use Rattle.window_state.proofs.rows.Rows.put.Goals as goal

pub invariant_of-self-2 : goal.invariant_of-self-2
invariant_of-self-2 g c =
    rw c.in_ok-insert.ensures.entries (put-keyed g.R.Key.Ord.cmp g.R.Row.key g.met.R.Row.same_key c.key.result c.args.row c.key.ensures c.self.inside.rows.entries c.self.invariant)

pub returns-clause-ok : goal.returns-clause-ok
returns-clause-ok g c =
    ap values_of c.in_ok-insert.ensures.entries ∙ put-values g.R.Key.Ord.cmp g.R.Row.key c.key.result c.args.row c.key.ensures c.self.inside.rows.entries c.self.invariant ∙ ap (put_row g.R.Key.Ord.cmp g.R.Row.key c.args.row) c.self.view_is
