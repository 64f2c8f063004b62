use Rattle.std.proofs.Common.{refl, rules}
use Rattle.file_rotation.proofs.SearchLaws.{searched_more, searched_none}
use Rattle.file_rotation.proofs.RecoveryLaws.{replayed_chosen}
use Rattle.file_rotation.proofs.recovery.newest_lawful.Goals as goal

pub returns-in-Some-2-clause-found : goal.returns-in-Some-2-clause-found
returns-in-Some-2-clause-found g c = λ modelled.
    let l = c.loop-next.invariant in
    replayed_chosen g.M.Machine.kind _ _ _ _ _ _ (rw c.in-Some.is at (l.searched modelled)) (rw c.in-Some-2.is at c.in_ok-file.ensures.stamp) (rw (l.unchanged, c.in-Some-2.is) at (c.in_ok-file.ensures.found modelled))

pub loop-next-preserved : goal.loop-next-preserved
loop-next-preserved g c =
    let l = c.loop-next.invariant in
    record {
      unchanged = search rules;
      later = search rules;
      in_range = search rules;
      searched = λ modelled. searched_more _ _ _ c.in_ok-next.next (rw c.in-Some.is at (l.searched modelled)) refl
          (rw (l.unchanged, c.in_default-2.is) at (c.in_ok-file.ensures.found modelled))
          (rw (c.in_ok-file.ensures.unchanged, l.unchanged) at (c.in_ok-next.ensures.newest modelled));
    }

pub returns-clause-found : goal.returns-clause-found
returns-clause-found g c = λ modelled. searched_none _ (rw c.in_default.is at (c.loop-next.invariant.searched modelled))
