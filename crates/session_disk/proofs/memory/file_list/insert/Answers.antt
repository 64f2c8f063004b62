use Rattle.std.proofs.Common.{arith}
use Rattle.session_disk.proofs.DiskFiles.{place_of-le, is_listed-insert, standing_in-insert}
use Rattle.session_disk.proofs.memory.file_list.insert.Goals as goal

pub insert-requires : goal.insert-requires
insert-requires c = grind (arith, place_of-le c.args.files.now.items c.args.file.stamp)

pub returns-clause-listed : goal.returns-clause-listed
returns-clause-listed c =
    let listed = is_listed-insert c.args.files.now.items c.args.file c.requires.listed c.requires.stamp c.requires.bytes c.requires.absent in
    grind arith

pub returns-clause-ok : goal.returns-clause-ok
returns-clause-ok c =
    let same = standing_in-insert c.args.files.now.items c.args.file in
    grind arith
