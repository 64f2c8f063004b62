use Rattle.session_disk.specs.ChangeLog.{past_of}
use Rattle.session_disk.proofs.memory.recording.Recording.add_file.Goals as goal

pub returns-clause-ok : goal.returns-clause-ok
unfolding past_of
returns-clause-ok c = rw (c.clear.ensures.items, c.in_ok-insert_safe.ensures.ok)
