use Rattle.session_disk.proofs.ChangeLog.{history-tell}
use Rattle.session_disk.proofs.memory.recording.Recording.tell.Goals as goal

pub returns-clause-ok : goal.returns-clause-ok
returns-clause-ok c =
    history-tell c.args.self.now.files.items c.args.self.now.files.items c.args.self.now.removed.items c.args.self.now.told c.args.self.now.creates c.args.self.now.log.items c.write_down.new.log.items c.args.n (rw c.reserve.ensures.items at c.write_down.ensures)
