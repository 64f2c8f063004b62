use Rattle.session_disk.specs.ChangeLog.{past_of}
use Rattle.session_disk.proofs.memory.recording.Recording.new.Goals as goal

pub returns : goal.returns
unfolding past_of
returns c = rw (c.new.ensures.items, c.new-2.ensures.items, c.new-3.ensures.items)
