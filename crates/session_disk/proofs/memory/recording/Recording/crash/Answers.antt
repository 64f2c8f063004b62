use Rattle.session_disk.specs.ChangeLog.{past_of}
use Rattle.session_disk.proofs.memory.recording.Recording.crash.Goals as goal

pub returns-in-Some-clause-history : goal.returns-in-Some-clause-history
unfolding past_of
returns-in-Some-clause-history c =
    let image = rw (c.in-Some.is, c.as_slice.ensures.value, c.as_slice-2.ensures.value) at c.in_ok-left.ensures.image in
    rw (c.new.ensures.items, c.new-in-Some.ensures.items, image)
