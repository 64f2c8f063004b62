use Rattle.std.proofs.Common.{refl, subst, sym}
use Rattle.std.specs.Option.{IsNone}
use Rattle.session_disk.specs.Histories.{History}
use Rattle.thread_tests.proofs.runs.session_disk.Goals as goal

-- no file stands on an empty disk
pub add_file-requires-clause-absent : goal.add_file-requires-clause-absent
add_file-requires-clause-absent c =
    subst (λ (h : History). IsNone (h.now.standing c.min.result)) (sym c.in_ok-disk.ensures.history) refl
