use Rattle.std.proofs.Common.{length, ap, arith, add-one}
use Rattle.session_disk.proofs.DiskFiles.{settled_prefix-next, settled_prefix-whole, is_listed-settled, standing_in-settled}
use Rattle.session_disk.proofs.memory.file_list.settle_all.Goals as goal

pub loop-file-preserved : goal.loop-file-preserved
loop-file-preserved c =
    let within = c.loop-file-test.true in
    rw (add-one, c.loop-file.invariant) (settled_prefix-next c.deref_mut-file-items.result.now c.loop-file.file-index c.file-item.result within)

pub returns-clause-listed : goal.returns-clause-listed
returns-clause-listed c =
    let same = ap length c.deref_mut-file-items.ensures.value in
    let len = c.args.files.now.ok.0 in
    let whole = settled_prefix-whole c.args.files.now.items c.loop-file.file-items c.args.files.now.len c.loop-file.file-index (omega (arith, len)) (omega (arith, len, same)) (omega (arith, len, same)) (rw c.deref_mut-file-items.ensures.value at c.loop-file.invariant) in
    rw (whole, is_listed-settled c.args.files.now.items) c.requires.listed

pub returns-clause-files : goal.returns-clause-files
returns-clause-files c =
    let same = ap length c.deref_mut-file-items.ensures.value in
    let len = c.args.files.now.ok.0 in
    let whole = settled_prefix-whole c.args.files.now.items c.loop-file.file-items c.args.files.now.len c.loop-file.file-index (omega (arith, len)) (omega (arith, len, same)) (omega (arith, len, same)) (rw c.deref_mut-file-items.ensures.value at c.loop-file.invariant) in
    rw whole (standing_in-settled c.args.files.now.items)
