use Rattle.std.proofs.Common.{refl, inr}
use Rattle.file_rotation.proofs.SearchLaws.{chosen_from}
use Rattle.file_rotation.proofs.RecoveryLaws.{recovers_chosen, counts_chosen}
use Rattle.file_rotation.proofs.recovery.recover.Goals as goal

pub returns-in_default-clause-state : goal.returns-in_default-clause-state
returns-in_default-clause-state g c = λ modelled.
    inr (rw (c.in_default.is, c.in_ok-greatest.ensures.unchanged) at (c.in_ok-file.ensures.found modelled), c.in_ok-start.ensures)

pub returns-in_default-clause-chosen : goal.returns-in_default-clause-chosen
returns-in_default-clause-chosen g c = λ modelled. rw (c.in_default.is, c.in_ok-greatest.ensures.unchanged) at (c.in_ok-file.ensures.found modelled)

pub returns-in_default-clause-frames : goal.returns-in_default-clause-frames
returns-in_default-clause-frames g c = λ modelled. (rw (c.in_default.is, c.in_ok-greatest.ensures.unchanged) at (c.in_ok-file.ensures.found modelled), refl)

pub returns-clause-state : goal.returns-clause-state
returns-clause-state g c = λ modelled.
    recovers_chosen g.M.Machine.kind _ _ _ _ _ (rw (c.in-Some.is, c.in_ok-greatest.ensures.unchanged) at (c.in_ok-file.ensures.found modelled))

pub returns-clause-chosen : goal.returns-clause-chosen
returns-clause-chosen g c = λ modelled.
    let chosen = rw (c.in-Some.is, c.in_ok-greatest.ensures.unchanged) at (c.in_ok-file.ensures.found modelled) in
    chosen_from (g.D.SessionDisk.history c.args.disk.now).now _ _ chosen.newest chosen.file.lawful

pub returns-clause-frames : goal.returns-clause-frames
returns-clause-frames g c = λ modelled.
    counts_chosen g.M.Machine.kind _ _ _ _ _ (rw (c.in-Some.is, c.in_ok-greatest.ensures.unchanged) at (c.in_ok-file.ensures.found modelled))
