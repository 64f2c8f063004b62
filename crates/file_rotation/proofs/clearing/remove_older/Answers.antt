use Rattle.std.proofs.Common.{rules}
use Rattle.file_rotation.proofs.ClearingLaws.{cleared_none, cleared_more, takes_leaves, takes_partly}
use Rattle.file_rotation.proofs.clearing.remove_older.Goals as goal

pub loop-older-init : goal.loop-older-init
loop-older-init g c = record { later = search rules; within = search rules; cleared = λ modelled. cleared_none _ _ }

pub returns-in_err-remove_own-clause-partly : goal.returns-in_err-remove_own-clause-partly
returns-in_err-remove_own-clause-partly g c = λ modelled.
    takes_partly _ _ _ _ _ (c.loop-older.invariant.cleared modelled) c.loop-older.invariant.within (rw c.in-Some.is at (c.in_ok-older.ensures.newest modelled))
    (rw c.in_ok-older.ensures.unchanged at (c.in_err-remove_own.ensures.removes modelled))

pub returns-in_err-remove_own-clause-crash : goal.returns-in_err-remove_own-clause-crash
returns-in_err-remove_own-clause-crash g c = λ modelled.
    takes_leaves _ _ _ _ _ (c.loop-older.invariant.cleared modelled) c.loop-older.invariant.within (rw c.in-Some.is at (c.in_ok-older.ensures.newest modelled))
    (rw c.in_ok-older.ensures.unchanged at (c.in_err-remove_own.ensures.removes modelled))

pub loop-older-preserved : goal.loop-older-preserved
loop-older-preserved g c = record {
  later = search rules;
  within = search rules;
  cleared = λ modelled. cleared_more _ _ _ _ _ (c.loop-older.invariant.cleared modelled) c.loop-older.invariant.within (rw c.in-Some.is at (c.in_ok-older.ensures.newest modelled))
      (rw c.in_ok-older.ensures.unchanged at (c.in_ok-remove_own.ensures.removes modelled));
}
