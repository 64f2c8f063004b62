use Rattle.session_disk.proofs.DiskFiles.{found_stands, found_bytes}
use Rattle.session_disk.proofs.memory.file_list.find.Goals as goal

pub returns-clause-found : goal.returns-clause-found
returns-clause-found c =
    found_stands c.args.files.now c.find_place-place.result c.args.stamp c.index-files-place.result c.requires.listed c.find_place-place.ensures.bound c.find_place-place.ensures.found c.index-files-place.is

pub returns-clause-bound : goal.returns-clause-bound
returns-clause-bound c =
    found_bytes c.args.files.now c.find_place-place.result c.args.stamp c.index-files-place.result c.requires.listed c.find_place-place.ensures.bound c.find_place-place.ensures.found c.index-files-place.is
