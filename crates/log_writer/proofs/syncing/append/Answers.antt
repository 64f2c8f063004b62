use Rattle.std.proofs.Common.{◌≡◌, ℕ, take, sym, ap, ◌∙◌, arith}
use Rattle.session_disk.specs.Moments.{after_append}
use Rattle.log_writer.specs.Waiting.{waiting_in}
use Rattle.log_writer.proofs.GrowthLaws.{append_none}
use Rattle.log_writer.proofs.SyncStepLaws.{given_appended, stay_leaves, append_leaves}
use Rattle.log_writer.proofs.syncing.append.Goals as goal

pub returns-then-place-eq0-clause-ok : goal.returns-then-place-eq0-clause-ok
returns-then-place-eq0-clause-ok g c = λ modelled.
    let now = (g.D.SessionDisk.history c.args.disk.now).now in
    let none : c.args.place ≡ 0 = omega (arith, c.if-place-eq0.true) in
    sym (ap (λ (n : ℕ). after_append c.args.stamp (take n (waiting_in c.args.pending.now).bytes) now) none ∙ append_none c.args.stamp now)

pub returns-then-place-eq0-clause-crash : goal.returns-then-place-eq0-clause-crash
returns-then-place-eq0-clause-crash g c = λ modelled. stay_leaves _ c.args.stamp (take c.args.place (waiting_in c.args.pending.now).bytes) (c.requires.stands modelled)

pub returns-in_err-append-clause-crash : goal.returns-in_err-append-clause-crash
returns-in_err-append-clause-crash g c = λ modelled.
    append_leaves c.args.stamp (take c.args.place (waiting_in c.args.pending.now).bytes) c.front.result.now c.front.ensures (c.requires.stands modelled) (c.append.ensures.changes modelled)

pub returns-clause-ok : goal.returns-clause-ok
returns-clause-ok g c = λ modelled.
    given_appended _ _ c.args.stamp (take c.args.place (waiting_in c.args.pending.now).bytes) c.front.result.now c.front.ensures ((c.in_ok-append.ensures.changes modelled).ok)

pub returns-clause-crash : goal.returns-clause-crash
returns-clause-crash g c = λ modelled.
    append_leaves c.args.stamp (take c.args.place (waiting_in c.args.pending.now).bytes) c.front.result.now c.front.ensures (c.requires.stands modelled) (c.append.ensures.changes modelled)
