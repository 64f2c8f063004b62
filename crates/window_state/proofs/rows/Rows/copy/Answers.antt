use Rattle.std.proofs.Common.{rules, ◌≡◌, sym, subst, refl}
use Rattle.std.specs.List.Sorted.{IsStrictlySortedBy}
use Rattle.std.specs.Map.{keys_of}
use Rattle.std.specs.Map.Iter.{deref_pair}
use Rattle.std.proofs.lemmas.Map.Iter.{rest_more}
use Rattle.window_state.proofs.RowLaws.{copied-next}
use Rattle.window_state.proofs.rows.Rows.copy.Goals as goal

pub loop-id-preserved-in_ok-insert : goal.loop-id-preserved-in_ok-insert
loop-id-preserved-in_ok-insert g c =
    let start : c.into_iter-id-iterator.result ≡ c.self.inside.rows.entries = search rules in
    let sorted = subst (λ es. IsStrictlySortedBy g.R.Key.Ord.cmp (keys_of es)) (sym start) c.iter-id-items.ensures.ordered in
    let left = rest_more deref_pair c.loop-id.id-iterator c.next.new.self c.next.result (c.in-Some.id, c.in-Some.row) c.in-Some.is c.next.ensures.steps in
    copied-next g.R.Key.Ord.cmp g.R.Row.key g.met.R.Key.Ord.total c.loop-id.rows.entries c.loop-id.id-iterator c.next.new.self c.into_iter-id-iterator.result c.insert.new.self.entries c.in-Some.id.now c.in-Some.id.now c.in-Some.row.now c.in_ok-row.row c.loop-id.invariant left sorted refl c.in_ok-row.ensures c.in_ok-insert.ensures.entries

pub loop-id-preserved : goal.loop-id-preserved
loop-id-preserved g c =
    let start : c.into_iter-id-iterator.result ≡ c.self.inside.rows.entries = search rules in
    let sorted = subst (λ es. IsStrictlySortedBy g.R.Key.Ord.cmp (keys_of es)) (sym start) c.iter-id-items.ensures.ordered in
    let left = rest_more deref_pair c.loop-id.id-iterator c.next.new.self c.next.result (c.in-Some.id, c.in-Some.row) c.in-Some.is c.next.ensures.steps in
    copied-next g.R.Key.Ord.cmp g.R.Row.key g.met.R.Key.Ord.total c.loop-id.rows.entries c.loop-id.id-iterator c.next.new.self c.into_iter-id-iterator.result c.insert.new.self.entries c.in-Some.id.now c.in-Some.id.now c.in-Some.row.now c.in_ok-row.row c.loop-id.invariant left sorted refl c.in_ok-row.ensures c.in_ok-insert.ensures.entries
