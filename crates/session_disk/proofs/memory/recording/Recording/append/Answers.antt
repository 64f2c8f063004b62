use Rattle.session_disk.proofs.ChangeLog.{history-append}
use Rattle.session_disk.proofs.memory.recording.Recording.append.Goals as goal

pub returns-clause-ok : goal.returns-clause-ok
returns-clause-ok c =
    history-append c.args.self.now.files.items c.append.new.files.items c.args.self.now.removed.items c.args.self.now.told c.args.self.now.creates c.args.self.now.log.items c.write_down.new.log.items c.args.stamp c.args.bytes.now c.in_ok-append.ensures.ok (rw c.reserve.ensures.items at c.write_down.ensures)
