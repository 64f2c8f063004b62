use Rattle.std.proofs.Common.{ap}
use Rattle.session_disk.proofs.ChangeLog.{history-settle}
use Rattle.session_disk.proofs.memory.recording.Recording.settle.Goals as goal

pub returns-clause-ok : goal.returns-clause-ok
returns-clause-ok c =
    let step = history-settle c.args.self.now.files.items c.settle_all.new.files.items c.args.self.now.removed.items c.args.self.now.told c.args.self.now.creates c.args.self.now.log.items c.write_down.new.log.items c.in_ok-unsettled.unsettled c.replace-removed.result c.args.self.now.listed c.settle_all.ensures.files (ap (λ v. v.items) c.replace-removed.ensures.value) (rw c.as_slice.ensures.value at c.in_ok-unsettled.ensures) (rw c.reserve.ensures.items at c.write_down.ensures) in
    rw (c.replace-removed.ensures.after, c.new.ensures.items) step
