use Rattle.session_disk.proofs.DiskFiles.{place_of-stands}
use Rattle.session_disk.proofs.memory.file_list.find_place.Goals as goal

pub returns-clause-bound : goal.returns-clause-bound
returns-clause-bound c =
    let place = place_of-stands c.args.files.now c.args.stamp c.requires.listed c.requires.stands in
    rw c.place_of.ensures.value place.0

pub returns-clause-found : goal.returns-clause-found
returns-clause-found c =
    let place = place_of-stands c.args.files.now c.args.stamp c.requires.listed c.requires.stands in
    λ d. rw c.place_of.ensures.value (place.1 d)
