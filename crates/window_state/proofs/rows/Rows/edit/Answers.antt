use Rattle.std.proofs.Common.{◌≡◌, Some, None, map, ap, sym, ◌∙◌}
use Rattle.std.specs.Map.{values_of, lookup, set_value}
use Rattle.std.specs.Option.{option_copied_mut}
use Rattle.std.specs.BTreeMap.{is_at}
use Rattle.window_state.specs.RowLists.{on_key}
use Rattle.window_state.proofs.RowLaws.{set-keyed}
use Rattle.window_state.proofs.EditLaws.{edit-values, edit-none}
use Rattle.window_state.proofs.rows.Rows.edit.Goals as goal

pub returns-in_default : goal.returns-in_default
returns-in_default g c =
    let es = c.self.inside.rows.entries in
    let absent : lookup (is_at (g.R.Key.Ord.cmp c.args.id)) es ≡ None =
    sym c.get_mut.ensures.value ∙ ap option_copied_mut c.in_default.is in
    rw c.get_mut.follows.holds-at-none
    (edit-none g.R.Key.Ord.cmp g.R.Row.key c.args.id (g.R.Editing.edited c.args.edit) es absent c.self.invariant
    ∙ ap (map (on_key g.R.Key.Ord.cmp g.R.Row.key c.args.id (g.R.Editing.edited c.args.edit))) c.self.view_is)

pub invariant_of-self-2 : goal.invariant_of-self-2
invariant_of-self-2 g c =
    let es = c.self.inside.rows.entries in
    let found : lookup (is_at (g.R.Key.Ord.cmp c.args.id)) es ≡ Some c.in-Some.row.now =
    sym c.get_mut.ensures.value ∙ ap option_copied_mut c.in-Some.is in
    rw (c.get_mut.follows.holds c.edit.new.self).0
    (set-keyed g.R.Key.Ord.cmp g.R.Row.key c.args.id c.in-Some.row.now c.edit.new.self es found c.edit.ensures.same_key
    c.self.invariant)

pub returns : goal.returns
returns g c =
    let es = c.self.inside.rows.entries in
    let found : lookup (is_at (g.R.Key.Ord.cmp c.args.id)) es ≡ Some c.in-Some.row.now =
    sym c.get_mut.ensures.value ∙ ap option_copied_mut c.in-Some.is in
    ap values_of ((c.get_mut.follows.holds c.edit.new.self).0
    ∙ ap (set_value (is_at (g.R.Key.Ord.cmp c.args.id)) es) c.edit.ensures.edited)
    ∙ edit-values g.R.Key.Ord.cmp g.R.Row.key g.met.R.Key.Ord.total c.args.id c.in-Some.row.now
    (g.R.Editing.edited c.args.edit) es c.get_mut.ensures.ordered found c.self.invariant
    ∙ ap (map (on_key g.R.Key.Ord.cmp g.R.Row.key c.args.id (g.R.Editing.edited c.args.edit))) c.self.view_is
