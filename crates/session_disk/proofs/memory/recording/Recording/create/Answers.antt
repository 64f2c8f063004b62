use Rattle.session_disk.proofs.ChangeLog.{history-create}
use Rattle.session_disk.proofs.memory.recording.Recording.create.Goals as goal

pub returns-clause-ok : goal.returns-clause-ok
returns-clause-ok c =
    history-create c.args.self.now.files.items c.insert.new.files.items c.args.self.now.removed.items c.args.self.now.told c.args.self.now.creates c.args.self.now.log.items c.write_down.new.log.items c.args.stamp c.in-Some.creates c.requires.absent (rw c.new-bytes.ensures at c.in_ok-insert.ensures.ok) c.in-Some.ensures.1 (rw c.reserve.ensures.items at c.write_down.ensures)
