use Rattle.std.proofs.Common.{map, subst}
use Rattle.std.specs.List.Sorted.{IsStrictlySortedBy}
use Rattle.window_state.proofs.RowLaws.{keys-values}
use Rattle.window_state.proofs.rows.Rows.iter.Goals as goal

pub returns-clause-ordered : goal.returns-clause-ordered
returns-clause-ordered g c =
    subst (λ rows. IsStrictlySortedBy g.R.Key.Ord.cmp (map g.R.Row.key rows)) c.self.view_is
    (subst (IsStrictlySortedBy g.R.Key.Ord.cmp) (keys-values g.R.Key.Ord.cmp g.R.Row.key c.self.inside.rows.entries c.self.invariant) c.values.ensures.ordered)
