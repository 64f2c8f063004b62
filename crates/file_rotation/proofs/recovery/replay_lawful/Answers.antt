use Rattle.std.proofs.Common.{rules, sym, ◌∙◌}
use Rattle.file_rotation.proofs.FoldLaws.{replayed_lawful}
use Rattle.file_rotation.proofs.recovery.replay_lawful.Goals as goal

pub returns-clause-found : goal.returns-clause-found
returns-clause-found g c = λ modelled.
    let head = c.in_ok-version.ensures in
    let known = sym (head.head modelled) ∙ c.in-Known.is in
    replayed_lawful g.M.Machine.kind _ _ _ _ _ _ known (rw head.unchanged at (c.in_ok-replayed.ensures.replays modelled)) (rw head.unchanged at (c.in_ok-replayed.ensures.marked modelled)) (search rules)
