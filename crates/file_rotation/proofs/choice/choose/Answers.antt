use Rattle.std.proofs.Common.{refl, rules}
use Rattle.file_rotation.proofs.SearchLaws.{searched_more, searched_found, searched_none, chosen_from}
use Rattle.file_rotation.proofs.choice.choose.Goals as goal

pub returns-in-Some-2-clause-chosen : goal.returns-in-Some-2-clause-chosen
returns-in-Some-2-clause-chosen g c = λ modelled.
    let l = c.loop-next.invariant in
    chosen_from (g.D.SessionDisk.history c.args.disk.now).now _ _ (searched_found _ _ _ (rw c.in-Some.is at (l.searched modelled)) refl) (rw (l.unchanged, c.in-Some-2.is) at (c.in_ok-version.ensures.found modelled))

pub loop-next-preserved : goal.loop-next-preserved
loop-next-preserved g c =
    let l = c.loop-next.invariant in
    record {
      unchanged = search rules;
      later = search rules;
      in_range = search rules;
      searched = λ modelled. searched_more _ _ _ c.in_ok-next-2.next (rw c.in-Some.is at (l.searched modelled)) refl
          (rw (l.unchanged, c.in_default-2.is) at (c.in_ok-version.ensures.found modelled))
          (rw (c.in_ok-version.ensures.unchanged, l.unchanged) at (c.in_ok-next-2.ensures.newest modelled));
    }

pub returns-clause-chosen : goal.returns-clause-chosen
returns-clause-chosen g c = λ modelled. searched_none _ (rw c.in_default.is at (c.loop-next.invariant.searched modelled))
