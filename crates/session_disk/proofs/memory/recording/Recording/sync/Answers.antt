use Rattle.session_disk.proofs.ChangeLog.{history-sync}
use Rattle.session_disk.proofs.memory.recording.Recording.sync.Goals as goal

pub returns-clause-ok : goal.returns-clause-ok
returns-clause-ok c =
    history-sync c.args.self.now.files.items c.sync-before.new.files.items c.args.self.now.removed.items c.args.self.now.told c.args.self.now.creates c.args.self.now.log.items c.write_down.new.log.items c.args.stamp c.args.reached c.sync-before.result c.sync-before.ensures.before c.sync-before.ensures.files (rw c.reserve.ensures.items at c.write_down.ensures)
