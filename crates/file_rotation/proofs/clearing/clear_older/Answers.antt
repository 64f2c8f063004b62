use Rattle.file_rotation.proofs.ClearingLaws.{settle_leaves}
use Rattle.file_rotation.proofs.clearing.clear_older.Goals as goal

pub returns-in_err-settle-clause-crash : goal.returns-in_err-settle-clause-crash
returns-in_err-settle-clause-crash g c = λ modelled.
    settle_leaves _ _ _ (c.in_ok-remove_older.ensures.partly modelled) (c.in_ok-remove_older.ensures.crash modelled) (c.in_err-settle.ensures.changes modelled)

pub returns-clause-crash : goal.returns-clause-crash
returns-clause-crash g c = λ modelled.
    settle_leaves _ _ _ (c.in_ok-remove_older.ensures.partly modelled) (c.in_ok-remove_older.ensures.crash modelled) (c.in_ok-settle.ensures.changes modelled)
