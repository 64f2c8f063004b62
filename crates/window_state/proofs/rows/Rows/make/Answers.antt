use Rattle.std.proofs.Common.{◌≡◌, ap, sym, subst, ◌∙◌, None, is_some, true≢false}
use Rattle.std.specs.Map.{values_of, lookup}
use Rattle.std.specs.BTreeMap.{insert_entry, is_at}
use Rattle.window_state.specs.RowLists.{step_row, find_row}
use Rattle.window_state.proofs.RowLaws.{made-values, fresh-values, put-keyed, is_none, find-values}
use Rattle.window_state.proofs.rows.Rows.make.Goals as goal

pub returns-then-contains_key-clause-ok : goal.returns-then-contains_key-clause-ok
returns-then-contains_key-clause-ok g c =
    subst (λ rows. rows ≡ step_row g.R.Key.Ord.cmp g.R.Row.key c.args.id (g.R.Changing.fresh c.args.id) (λ row. row) rows) c.self.view_is
    (made-values g.R.Key.Ord.cmp g.R.Row.key g.met.R.Key.Ord.total c.args.id (g.R.Changing.fresh c.args.id) c.self.inside.rows.entries c.len-len.ensures.ordered (sym c.contains_key.ensures ∙ c.if-contains_key.true) c.self.invariant)

pub invariant_of-self-2 : goal.invariant_of-self-2
invariant_of-self-2 g c =
    let own = sym (ap g.R.Row.key c.fresh.ensures ∙ g.met.R.Changing.fresh_key c.args.id) in
    rw c.in_ok-insert.ensures.entries (put-keyed g.R.Key.Ord.cmp g.R.Row.key g.met.R.Row.same_key c.args.id c.fresh.result own c.self.inside.rows.entries c.self.invariant)

pub returns-clause-ok : goal.returns-clause-ok
returns-clause-ok g c =
    let es = c.self.inside.rows.entries in
    let absent : lookup (is_at (g.R.Key.Ord.cmp c.args.id)) c.self.inside.rows.entries ≡ None = is_none _ (sym c.contains_key.ensures ∙ c.if-contains_key.false) in
    ap values_of (c.in_ok-insert.ensures.entries ∙ ap (insert_entry g.R.Key.Ord.cmp es c.args.id) c.fresh.ensures)
    ∙ fresh-values g.R.Key.Ord.cmp g.R.Row.key c.args.id (g.R.Changing.fresh c.args.id) (λ row. row) es absent c.self.invariant
    ∙ ap (step_row g.R.Key.Ord.cmp g.R.Row.key c.args.id (g.R.Changing.fresh c.args.id) (λ row. row)) c.self.view_is

pub returns-clause-stood : goal.returns-clause-stood
returns-clause-stood g c =
    let seen = ap is_some (find-values g.R.Key.Ord.cmp g.R.Row.key c.args.id c.self.inside.rows.entries c.self.invariant ∙ ap (find_row g.R.Key.Ord.cmp g.R.Row.key c.args.id) c.self.view_is) in
    λ found. absurd (true≢false (sym found ∙ sym seen ∙ sym c.contains_key.ensures ∙ c.if-contains_key.false))
