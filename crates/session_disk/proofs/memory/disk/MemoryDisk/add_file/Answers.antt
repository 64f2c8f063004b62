use Rattle.std.proofs.Common.{◌≡◌, ℕ, List, [], Result, Ok, Err, OnOk, OnErr, sym, subst}
use Rattle.session_disk.specs.Histories.{History}
use Rattle.session_disk.specs.Moments.{IsAtRest}
use Rattle.session_disk.specs.Recordings.{with_safe_file}
use Rattle.session_disk.proofs.Resting.{with_safe_file_rests}
use Rattle.session_disk.proofs.memory.disk.MemoryDisk.add_file.Goals as goal

rests_after : {T E : Type 0} (result : Result T E) (old new : History) (stamp : ℕ) (bytes : List ℕ) → OnOk result (new ≡ record { now = with_safe_file stamp bytes old.now; past = [] }) → OnErr result (new ≡ old) → IsAtRest old.now → IsAtRest new.now
rests_after (Ok x) old new stamp bytes ok err rest =
    let Rests : History → Type 0 = λ h. IsAtRest h.now in
    subst Rests (sym ok) (with_safe_file_rests stamp bytes old.now rest)
rests_after (Err e) old new stamp bytes ok err rest =
    let Rests : History → Type 0 = λ h. IsAtRest h.now in
    subst Rests (sym err) rest

pub returns-clause-at_rest : goal.returns-clause-at_rest
returns-clause-at_rest c =
    rests_after c.add_file.result _ _ c.args.stamp c.args.bytes.now c.add_file.ensures.ok c.add_file.ensures.err c.requires.at_rest
