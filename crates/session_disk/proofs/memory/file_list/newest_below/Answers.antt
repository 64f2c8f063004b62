use Rattle.std.proofs.Common.{◌-◌, ◌<◌, length, arith}
use Rattle.session_disk.proofs.DiskFiles.{none_below, last_below, listed_at, below_from}
use Rattle.session_disk.proofs.memory.file_list.newest_below.Goals as goal

pub returns-then-end-eq0-clause-newest : goal.returns-then-end-eq0-clause-newest
returns-then-end-eq0-clause-newest c =
    none_below c.args.files.now c.args.below c.requires.listed (omega (arith, c.end_of-end.ensures.value, c.if-end-eq0.true))

pub returns-clause-newest : goal.returns-clause-newest
returns-clause-newest c =
    last_below c.args.files.now c.args.below (c.end_of-end.result - 1) c.index-files-end.result c.requires.listed (omega (arith, c.end_of-end.ensures.value, c.if-end-eq0.false))

pub returns-clause-in_range : goal.returns-clause-in_range
returns-clause-in_range c =
    let within : c.end_of-end.result - 1 < length c.args.files.now = omega arith in
    (listed_at c.args.files.now (c.end_of-end.result - 1) c.index-files-end.result c.requires.listed within).0

pub returns-clause-within : goal.returns-clause-within
returns-clause-within c =
    let newest = last_below c.args.files.now c.args.below (c.end_of-end.result - 1) c.index-files-end.result c.requires.listed (omega (arith, c.end_of-end.ensures.value, c.if-end-eq0.false)) in
    below_from c.args.below _ newest.within
