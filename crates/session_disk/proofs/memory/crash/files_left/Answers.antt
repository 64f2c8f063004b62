use Rattle.std.proofs.Common.{sym, ◌∙◌, arith}
use Rattle.session_disk.specs.ChangeLog.{moment_of}
use Rattle.session_disk.proofs.CrashLoop.{left_out, come_again, Laid-push, all_laid}
use Rattle.session_disk.proofs.memory.crash.files_left.Goals as goal

pub returns-then-not-keeps_settled-clause-none : goal.returns-then-not-keeps_settled-clause-none
returns-then-not-keeps_settled-clause-none c =
    left_out c.args.files.now c.args.removed.now c.args.keeps.now c.requires.listed (sym c.keeps_settled.ensures ∙ c.if-not-keeps_settled.true)

pub returns-then-has-clause-none : goal.returns-then-has-clause-none
returns-then-has-clause-none c =
    let stands = rw c.as_slice.ensures.value at (sym c.has.ensures ∙ c.if-has.true) in
    come_again (moment_of c.args.files.now c.args.removed.now 0 0) c.args.keeps.now c.loop-keep.keep-index c.loop-keep.left.items c.loop-keep.invariant _ c.loop-keep-test.true stands

pub insert_safe-requires-clause-absent : goal.insert_safe-requires-clause-absent
insert_safe-requires-clause-absent c = rw c.as_slice.ensures.value at (sym c.has.ensures ∙ c.if-has.false)

pub loop-keep-preserved : goal.loop-keep-preserved
loop-keep-preserved c =
    let absent = rw c.as_slice.ensures.value at (sym c.has.ensures ∙ c.if-has.false) in
    Laid-push (moment_of c.args.files.now c.args.removed.now 0 0) c.args.keeps.now c.loop-keep.keep-index c.loop-keep.left.items c.loop-keep.invariant _ c.loop-keep-test.true c.insert_safe.new.files.items c.in-Some.bytes.now absent c.in-Some.ensures.value c.in_ok-insert_safe.ensures.listed c.in_ok-insert_safe.ensures.ok

pub returns-clause-keepable : goal.returns-clause-keepable
returns-clause-keepable c =
    all_laid c.args.files.now c.args.removed.now c.args.keeps.now c.loop-keep.keep-index c.loop-keep.left.items (sym c.keeps_settled.ensures ∙ c.if-not-keeps_settled.false) (omega arith) c.loop-keep.invariant
