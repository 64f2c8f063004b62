use Rattle.std.proofs.Common.{◌∙◌, sym, FitsSigned, w32}
use Rattle.std.proofs.lemmas.Int.{to_z-of_z}
use Rattle.closed_entries.specs.Step.{has_id}
use Rattle.closed_entries.proofs.LastItemLaws.{without-at, without-none}
use Rattle.closed_entries.proofs.entry_list.remove.Goals as goal

pub returns-in-Some : goal.returns-in-Some
returns-in-Some c =
    let f : FitsSigned w32 c.args.id = c.ranges.id in
    let found = simp (to_z-of_z, c.as_slice.ensures.value) at c.in-Some.ensures in
    c.remove.ensures.items ∙ without-at (has_id c.args.id) c.args.entries.now.items c.in-Some.place found.within found.here found.later

pub returns-in_default : goal.returns-in_default
returns-in_default c =
    let f : FitsSigned w32 c.args.id = c.ranges.id in
    let none = simp (to_z-of_z, c.as_slice.ensures.value) at c.in_default.ensures.none in
    sym (without-none (has_id c.args.id) c.args.entries.now.items none)
