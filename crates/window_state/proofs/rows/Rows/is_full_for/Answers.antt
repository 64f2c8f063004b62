use Rattle.std.proofs.Common.{sym, ◌∙◌, ap, not, nat_eq}
use Rattle.window_state.specs.Limits.{limit}
use Rattle.window_state.proofs.RowLaws.{room-present, room-absent}
use Rattle.window_state.proofs.rows.Rows.is_full_for.Goals as goal

pub returns-then-contains_key : goal.returns-then-contains_key
returns-then-contains_key g c =
    room-present g.R.Key.Ord.cmp g.R.Row.key g.met.R.Key.Ord.total c.args.id c.self.inside.rows.entries c.args.self.now c.self.view_is c.len-len.ensures.ordered c.self.invariant (sym c.contains_key.ensures ∙ c.if-contains_key.true) c.requires

pub returns : goal.returns
returns g c =
    let full = room-absent g.R.Key.Ord.cmp g.R.Row.key g.met.R.Key.Ord.total c.args.id c.self.inside.rows.entries c.args.self.now c.self.view_is c.len-len.ensures.ordered c.self.invariant (sym c.contains_key.ensures ∙ c.if-contains_key.false) c.requires in
    λ fresh change. full fresh change ∙ ap (λ n. not (nat_eq n limit)) (sym c.len-len.ensures.len)
