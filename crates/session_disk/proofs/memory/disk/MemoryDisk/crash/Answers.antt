use Rattle.std.proofs.Common.{sym, subst}
use Rattle.session_disk.specs.Crashes.{image_of}
use Rattle.session_disk.specs.Histories.{History}
use Rattle.session_disk.specs.MemoryDisks.{history_of}
use Rattle.session_disk.specs.Moments.{IsAtRest}
use Rattle.session_disk.proofs.Crashes.{keepable_listed, no_image, resting_rests}
use Rattle.session_disk.proofs.memory.disk.MemoryDisk.crash.Goals as goal

pub returns-in-Some-clause-image : goal.returns-in-Some-clause-image
returns-in-Some-clause-image c =
    keepable_listed (history_of c.args.self.now).now c.args.keeps.now (rw c.in-Some.is at c.in_ok-crash.ensures.keepable)

pub returns-in-Some-clause-at_rest : goal.returns-in-Some-clause-at_rest
returns-in-Some-clause-at_rest c =
    let Rests : History → Type 0 = λ h. IsAtRest h.now in
    subst Rests (sym (rw c.in-Some.is at c.in_ok-crash.ensures.history)) (resting_rests (image_of (history_of c.args.self.now).now c.args.keeps.now))

pub returns-in-None-clause-none : goal.returns-in-None-clause-none
returns-in-None-clause-none c =
    no_image (history_of c.args.self.now).now c.args.keeps.now (rw c.in-None.is at c.in_ok-crash.ensures.none)
