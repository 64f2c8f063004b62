use Rattle.std.proofs.Common.{◌≡◌, Some, None, ap, sym, ◌∙◌}
use Rattle.std.specs.Map.{values_of, lookup, set_value}
use Rattle.std.specs.Option.{option_copied_mut}
use Rattle.std.specs.BTreeMap.{is_at, insert_entry}
use Rattle.std.proofs.lemmas.Result.{on_ok_weaker, on_err_weaker}
use Rattle.std.proofs.lemmas.Map.Steps.{set_value_same}
use Rattle.window_state.specs.RowLists.{step_row}
use Rattle.window_state.proofs.RowLaws.{set-values, set-keyed, fresh-values, put-keyed}
use Rattle.window_state.proofs.rows.Rows.step.Goals as goal

pub invariant_of-self : goal.invariant_of-self
invariant_of-self g c =
    let found : lookup (is_at (g.R.Key.Ord.cmp c.args.id)) c.self.inside.rows.entries ≡ Some c.in-Some.row.now = sym c.get_mut.ensures.value ∙ ap option_copied_mut c.in-Some.is in
    rw (c.get_mut.follows.holds c.change.new.self).0 (set-keyed g.R.Key.Ord.cmp g.R.Row.key c.args.id c.in-Some.row.now c.change.new.self c.self.inside.rows.entries found c.change.ensures.same_key c.self.invariant)

pub invariant_of-self-in-None : goal.invariant_of-self-in-None
invariant_of-self-in-None g c =
    let own = sym (c.change-in-None.ensures.same_key ∙ ap g.R.Row.key c.fresh-row.ensures ∙ g.met.R.Changing.fresh_key c.args.id) in
    rw (c.in_ok-insert-in-None.ensures.entries, c.get_mut.follows.holds-at-none) (put-keyed g.R.Key.Ord.cmp g.R.Row.key g.met.R.Row.same_key c.args.id c.change-in-None.new.self own c.self.inside.rows.entries c.self.invariant)

pub returns-in-Some-clause-ok : goal.returns-in-Some-clause-ok
returns-in-Some-clause-ok g c =
    let es = c.self.inside.rows.entries in
    let found : lookup (is_at (g.R.Key.Ord.cmp c.args.id)) c.self.inside.rows.entries ≡ Some c.in-Some.row.now = sym c.get_mut.ensures.value ∙ ap option_copied_mut c.in-Some.is in
    on_ok_weaker c.change.result (λ changed. ap values_of ((c.get_mut.follows.holds c.change.new.self).0 ∙ ap (set_value (is_at (g.R.Key.Ord.cmp c.args.id)) es) changed)
    ∙ set-values g.R.Key.Ord.cmp g.R.Row.key g.met.R.Key.Ord.total c.args.id c.in-Some.row.now (g.R.Changing.fresh c.args.id) (g.R.Changing.changed c.args.change) es c.get_mut.ensures.ordered found c.self.invariant
    ∙ ap (step_row g.R.Key.Ord.cmp g.R.Row.key c.args.id (g.R.Changing.fresh c.args.id) (g.R.Changing.changed c.args.change)) c.self.view_is) c.change.ensures.ok

pub returns-in-Some-clause-err : goal.returns-in-Some-clause-err
returns-in-Some-clause-err g c =
    let es = c.self.inside.rows.entries in
    let found : lookup (is_at (g.R.Key.Ord.cmp c.args.id)) c.self.inside.rows.entries ≡ Some c.in-Some.row.now = sym c.get_mut.ensures.value ∙ ap option_copied_mut c.in-Some.is in
    on_err_weaker c.change.result (λ same. ap values_of ((c.get_mut.follows.holds c.change.new.self).0 ∙ ap (set_value (is_at (g.R.Key.Ord.cmp c.args.id)) es) same
    ∙ set_value_same (is_at (g.R.Key.Ord.cmp c.args.id)) es c.in-Some.row.now found) ∙ c.self.view_is) c.change.ensures.err

pub returns-in_ok-insert-in-None-clause-ok : goal.returns-in_ok-insert-in-None-clause-ok
returns-in_ok-insert-in-None-clause-ok g c =
    let es = c.self.inside.rows.entries in
    let absent : lookup (is_at (g.R.Key.Ord.cmp c.args.id)) c.self.inside.rows.entries ≡ None = sym c.get_mut.ensures.value ∙ ap option_copied_mut c.in-None.is in
    let row = c.in_ok-change-in-None.ensures.ok ∙ ap (g.R.Changing.changed c.args.change) c.fresh-row.ensures in
    let put = rw c.get_mut.follows.holds-at-none at c.in_ok-insert-in-None.ensures.entries in
    ap values_of (put ∙ ap (insert_entry g.R.Key.Ord.cmp es c.args.id) row)
    ∙ fresh-values g.R.Key.Ord.cmp g.R.Row.key c.args.id (g.R.Changing.fresh c.args.id) (g.R.Changing.changed c.args.change) es absent c.self.invariant
    ∙ ap (step_row g.R.Key.Ord.cmp g.R.Row.key c.args.id (g.R.Changing.fresh c.args.id) (g.R.Changing.changed c.args.change)) c.self.view_is
