use Rattle.std.proofs.Common.{◌++◌, ap}
use Rattle.std.proofs.lemmas.Result.{on_ok_weaker}
use Rattle.session_disk.specs.DiskFiles.{standing_of}
use Rattle.session_disk.specs.Moments.{Standing}
use Rattle.session_disk.proofs.DiskFiles.{found_bytes, change_is_listed, change_stands}
use Rattle.session_disk.proofs.memory.file_list.append.Goals as goal

pub returns-clause-listed : goal.returns-clause-listed
returns-clause-listed c =
    let bound = rw c.deref.ensures.value at c.find_place-place.ensures.bound in
    let found = rw c.deref.ensures.value at c.find_place-place.ensures.found in
    let fits = found_bytes c.args.files.now.items c.find_place-place.result c.args.stamp c.index_mut-file.result.now c.requires.listed bound found c.index_mut-file.ensures.value in
    change_is_listed c.args.files.now.items c.find_place-place.result c.args.stamp c.index_mut-file.result.now c.requires.listed bound found c.index_mut-file.ensures.value c.append_at.new.file c.append_at.ensures.stamp (c.append_at.ensures.fits fits)

pub returns-clause-ok : goal.returns-clause-ok
returns-clause-ok c =
    let bound = rw c.deref.ensures.value at c.find_place-place.ensures.bound in
    let found = rw c.deref.ensures.value at c.find_place-place.ensures.found in
    let change : Standing → Standing = λ file. record file { bytes = file.bytes ++ c.args.more.now } in
    on_ok_weaker c.append_at.result (λ e. change_stands c.args.files.now.items c.find_place-place.result c.args.stamp c.index_mut-file.result.now c.requires.listed bound found c.index_mut-file.ensures.value change c.append_at.new.file c.append_at.ensures.stamp (ap standing_of e)) c.append_at.ensures.ok
