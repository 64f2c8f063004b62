use Rattle.session_disk.proofs.ChangeLog.{history-remove}
use Rattle.session_disk.proofs.memory.recording.Recording.remove.Goals as goal

pub returns-clause-ok : goal.returns-clause-ok
returns-clause-ok c =
    history-remove c.args.self.now.files.items c.take-file.new.files.items c.args.self.now.removed.items c.args.self.now.told c.args.self.now.creates c.args.self.now.log.items c.write_down.new.log.items c.args.stamp c.take-file.result c.push.new.files.items c.take-file.ensures.stamp c.take-file.ensures.taken c.take-file.ensures.files (rw c.reserve-2.ensures.items at c.push.ensures) (rw c.reserve.ensures.items at c.write_down.ensures)
