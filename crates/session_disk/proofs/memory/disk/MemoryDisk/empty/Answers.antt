use Rattle.std.proofs.Common.{sym, subst}
use Rattle.session_disk.specs.Histories.{History}
use Rattle.session_disk.specs.Moments.{IsAtRest}
use Rattle.session_disk.proofs.Resting.{empty_moment_rests}
use Rattle.session_disk.proofs.memory.disk.MemoryDisk.empty.Goals as goal

pub returns-clause-at_rest : goal.returns-clause-at_rest
returns-clause-at_rest c =
    let Rests : History → Type 0 = λ h. IsAtRest h.now in
    subst Rests (sym c.new.ensures) empty_moment_rests
