use Rattle.session_disk.proofs.DiskFiles.{found_stands, found_bounded, is_listed-without, without_stands}
use Rattle.session_disk.proofs.memory.file_list.take.Goals as goal

pub returns-clause-listed : goal.returns-clause-listed
returns-clause-listed c = rw c.remove.ensures.items (is_listed-without c.args.files.now.items c.find_place-place.result c.requires.listed)

pub returns-clause-files : goal.returns-clause-files
returns-clause-files c =
    let bound = rw c.deref.ensures.value at c.find_place-place.ensures.bound in
    let found = rw c.deref.ensures.value at c.find_place-place.ensures.found in
    rw c.remove.ensures.items (without_stands c.args.files.now.items c.find_place-place.result c.args.stamp c.remove.result c.requires.listed bound found c.remove.ensures.value)

pub returns-clause-taken : goal.returns-clause-taken
returns-clause-taken c =
    let bound = rw c.deref.ensures.value at c.find_place-place.ensures.bound in
    let found = rw c.deref.ensures.value at c.find_place-place.ensures.found in
    found_stands c.args.files.now.items c.find_place-place.result c.args.stamp c.remove.result c.requires.listed bound found c.remove.ensures.value

pub returns-clause-bounded : goal.returns-clause-bounded
returns-clause-bounded c =
    let bound = rw c.deref.ensures.value at c.find_place-place.ensures.bound in
    let found = rw c.deref.ensures.value at c.find_place-place.ensures.found in
    found_bounded c.args.files.now.items c.find_place-place.result c.args.stamp c.remove.result c.requires.listed bound found c.remove.ensures.value
