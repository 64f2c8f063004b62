use Rattle.std.proofs.Common.{Result, Ok, ◌≡◌, [], ◌∷◌, length, sym, ap, ◌∙◌, subst}
use Rattle.fresh_files.specs.Fresh.{fresh}
use Rattle.fresh_files.specs.Rotation.{IsMomentOf}
use Rattle.log_writer.specs.Answers.{compacts, syncs, writes}
use Rattle.log_writer.specs.Faults.{plain}
use Rattle.log_writer.specs.declared.fault.JournalFault.{JournalFault}
use Rattle.writer_core.specs.Telling.{Counts, KeepsTold, TellsTaken}
use Rattle.writer_core.specs.Working.{Syncs, Works}
use Rattle.writer_core.specs.declared.item.Job.{Job}
use Rattle.writer_core.specs.declared.item.Job.TheVariants as job
use Rattle.writer_core.proofs.TellingLaws.{compact_counts, compact_keeps, nothing_counts, nothing_keeps, sync_counts}
use Rattle.writer_core.proofs.TellingLaws.{sync_keeps, sync_tells, write_counts, write_keeps}
use Rattle.writer_core.proofs.WorkLaws.{write_works, sync_works, sync_holds, compact_works, nothing_works}
use Rattle.writer_core.proofs.working.work.Goals.{in-Ok, in-Err}
use Rattle.writer_core.proofs.working.work.Goals as goal

pub returns-after-write-clause-works : goal.returns-after-write-clause-works
returns-after-write-clause-works g c =
    let e = c.write.ensures in
    let same : c.match-write.result ≡ plain c.write.result = elim c.match-write.branch [ in-Ok w ↦ w.result-is ∙ sym (ap plain w.in-Ok.is) | in-Err w ↦ w.result-is ∙ sym (ap plain w.in-Err.is) ] in
    subst (λ (todo : Job g.row.M-Command.Denot). Works (todo ∷ []) c.args.journal.now c.write.new.self c.match-write.result) (sym c.in-Write.is)
    (subst (λ (r : Result (Unit {0}) JournalFault). Works (job.Write c.in-Write.command ∷ []) c.args.journal.now c.write.new.self r) (sym same)
    (write_works c.args.journal.now c.write.new.self c.requires.works (plain c.write.result) (IsMomentOf g.C.Clock.modelled (g.C.Clock.moment c.args.clock.now)) c.in-Write.command e.answers e.makes e.follows e.crash))

pub returns-in-Sync-clause-works : goal.returns-in-Sync-clause-works
returns-in-Sync-clause-works g c =
    let e = c.sync.ensures in
    subst (λ (todo : Job g.row.M-Command.Denot). Works (todo ∷ []) c.args.journal.now c.sync.new.self c.sync.result) (sym c.in-Sync.is)
    (sync_works c.args.journal.now c.sync.new.self c.requires.works c.sync.result e.answers e.told e.follows e.crash)

pub returns-in-Sync-clause-syncs : goal.returns-in-Sync-clause-syncs
returns-in-Sync-clause-syncs g c =
    let e = c.sync.ensures in
    subst (λ (todo : Job g.row.M-Command.Denot). Syncs todo c.args.journal.now c.sync.new.self c.sync.result) (sym c.in-Sync.is)
    (sync_holds c.args.journal.now c.sync.new.self c.requires.works c.sync.result e.told e.follows e.at_rest e.crash)

pub returns-in-Compact-clause-works : goal.returns-in-Compact-clause-works
returns-in-Compact-clause-works g c =
    let e = c.compact.ensures in
    subst (λ (todo : Job g.row.M-Command.Denot). Works (todo ∷ []) c.args.journal.now c.compact.new.self c.compact.result) (sym c.in-Compact.is)
    (compact_works c.args.journal.now c.compact.new.self c.requires.works c.compact.result (IsMomentOf g.C.Clock.modelled (g.C.Clock.moment c.args.clock.now)) e.answers e.makes e.follows e.crash)

pub returns-in-Nothing-clause-works : goal.returns-in-Nothing-clause-works
returns-in-Nothing-clause-works g c =
    let unit : Unit {0} = tt in
    subst (λ (todo : Job g.row.M-Command.Denot). Works (todo ∷ []) c.args.journal.now c.args.journal.now (Ok unit)) (sym c.in-Nothing.is) (nothing_works unit c.args.journal.now)

pub returns-after-write-clause-keeps_told : goal.returns-after-write-clause-keeps_told
returns-after-write-clause-keeps_told g c =
    let e = c.write.ensures in
    let old = c.args.journal.now in
    let same : c.match-write.result ≡ plain c.write.result = elim c.match-write.branch [ in-Ok w ↦ w.result-is ∙ sym (ap plain w.in-Ok.is) | in-Err w ↦ w.result-is ∙ sym (ap plain w.in-Err.is) ] in
    subst (λ (r : Result (Unit {0}) JournalFault). KeepsTold old c.write.new.self r) (sym same)
    (write_keeps old c.write.new.self (plain c.write.result) (writes old c.in-Write.command) c.in-Write.command c.requires.works e.stepped e.follows)

pub returns-in-Sync-clause-keeps_told : goal.returns-in-Sync-clause-keeps_told
returns-in-Sync-clause-keeps_told g c =
    let e = c.sync.ensures in
    sync_keeps c.args.journal.now c.sync.new.self c.sync.result (syncs c.args.journal.now) c.requires.works e.told e.follows

pub returns-in-Sync-clause-tells : goal.returns-in-Sync-clause-tells
returns-in-Sync-clause-tells g c =
    subst (λ (todo : Job g.row.M-Command.Denot). TellsTaken todo c.sync.new.self c.sync.result) (sym c.in-Sync.is)
    (sync_tells c.args.journal.now c.sync.new.self c.sync.result c.sync.ensures.told)

pub returns-in-Compact-clause-keeps_told : goal.returns-in-Compact-clause-keeps_told
returns-in-Compact-clause-keeps_told g c =
    let e = c.compact.ensures in
    let old = c.args.journal.now in
    compact_keeps old c.compact.new.self c.compact.result (compacts old) (length (fresh g.M.Machine.kind old.present.state)) c.requires.works e.restated e.follows

pub returns-in-Nothing-clause-keeps_told : goal.returns-in-Nothing-clause-keeps_told
returns-in-Nothing-clause-keeps_told g c = let unit : Unit {0} = tt in nothing_keeps unit c.args.journal.now

pub returns-after-write-clause-counts : goal.returns-after-write-clause-counts
returns-after-write-clause-counts g c =
    let old = c.args.journal.now in
    let same : c.match-write.result ≡ plain c.write.result = elim c.match-write.branch [ in-Ok w ↦ w.result-is ∙ sym (ap plain w.in-Ok.is) | in-Err w ↦ w.result-is ∙ sym (ap plain w.in-Err.is) ] in
    subst (λ (todo : Job g.row.M-Command.Denot). Counts todo old c.write.new.self c.match-write.result) (sym c.in-Write.is)
    (subst (λ (r : Result (Unit {0}) JournalFault). Counts (job.Write c.in-Write.command) old c.write.new.self r) (sym same)
    (write_counts old c.write.new.self (plain c.write.result) c.in-Write.command c.write.ensures.stepped))

pub returns-in-Sync-clause-counts : goal.returns-in-Sync-clause-counts
returns-in-Sync-clause-counts g c =
    subst (λ (todo : Job g.row.M-Command.Denot). Counts todo c.args.journal.now c.sync.new.self c.sync.result) (sym c.in-Sync.is)
    (sync_counts c.args.journal.now c.sync.new.self c.sync.result c.sync.ensures.told)

pub returns-in-Compact-clause-counts : goal.returns-in-Compact-clause-counts
returns-in-Compact-clause-counts g c =
    let old = c.args.journal.now in
    subst (λ (todo : Job g.row.M-Command.Denot). Counts todo old c.compact.new.self c.compact.result) (sym c.in-Compact.is)
    (compact_counts old c.compact.new.self c.compact.result (length (fresh g.M.Machine.kind old.present.state)) c.compact.ensures.restated)

pub returns-in-Nothing-clause-counts : goal.returns-in-Nothing-clause-counts
returns-in-Nothing-clause-counts g c =
    let unit : Unit {0} = tt in
    subst (λ (todo : Job g.row.M-Command.Denot). Counts todo c.args.journal.now c.args.journal.now (Ok unit)) (sym c.in-Nothing.is) (nothing_counts unit c.args.journal.now)
