use Rattle.std.proofs.Common.{max, ap, refl}
use Rattle.session_disk.specs.DiskFiles.{standing_of}
use Rattle.session_disk.specs.Moments.{Standing}
use Rattle.session_disk.proofs.DiskFiles.{found_bytes, found_stands, change_is_listed, change_stands}
use Rattle.session_disk.proofs.memory.file_list.sync.Goals as goal

pub returns-clause-listed : goal.returns-clause-listed
returns-clause-listed c =
    let bound = rw c.deref.ensures.value at c.find_place-place.ensures.bound in
    let found = rw c.deref.ensures.value at c.find_place-place.ensures.found in
    let x = c.index_mut-file.result.now in
    let fits = found_bytes c.args.files.now.items c.find_place-place.result c.args.stamp x c.requires.listed bound found c.index_mut-file.ensures.value in
    change_is_listed c.args.files.now.items c.find_place-place.result c.args.stamp x c.requires.listed bound found c.index_mut-file.ensures.value (record x { synced = c.max-file.result }) refl fits

pub returns-clause-files : goal.returns-clause-files
returns-clause-files c =
    let bound = rw c.deref.ensures.value at c.find_place-place.ensures.bound in
    let found = rw c.deref.ensures.value at c.find_place-place.ensures.found in
    let x = c.index_mut-file.result.now in
    let change : Standing → Standing = λ file. record file { synced = max file.synced c.args.reached } in
    change_stands c.args.files.now.items c.find_place-place.result c.args.stamp x c.requires.listed bound found c.index_mut-file.ensures.value change (record x { synced = c.max-file.result }) refl (ap (λ n. record (standing_of x) { synced = n }) c.max-file.ensures)

pub returns-clause-before : goal.returns-clause-before
returns-clause-before c =
    let bound = rw c.deref.ensures.value at c.find_place-place.ensures.bound in
    let found = rw c.deref.ensures.value at c.find_place-place.ensures.found in
    rw (found_stands c.args.files.now.items c.find_place-place.result c.args.stamp c.index_mut-file.result.now c.requires.listed bound found c.index_mut-file.ensures.value)
