-- What is told by a journal's calls, one after another: it never falls, and a sync tells all.
use Rattle.std.proofs.Common.{◌≡◌, ℕ, ◌≤◌, ◌<◌, ◌^◌, List, [], ◌∷◌, ◌++◌, Option, Some, None, Result, Ok, Err, OnOk, refl, sym, ap, subst, ◌∙◌, arith}
use Rattle.machine_law.specs.Kind.{Kind}
use Rattle.machine_law.specs.declared.machine.Machine as machine
use Rattle.session_disk.specs.Moments.{Moment}
use Rattle.session_disk.specs.declared.disk.SessionDisk as disk
use Rattle.log_writer.specs.Account.{Account, Outcome}
use Rattle.log_writer.specs.Answers.{RestatesIn, StepsBy, TellsAll}
use Rattle.log_writer.specs.Journals.{JournalFollows, JournalRemains}
use Rattle.log_writer.specs.Log.{Log, log, WhereRuns}
use Rattle.log_writer.specs.Log as journal
use Rattle.log_writer.specs.declared.journal.Journal.{Journal}
use Rattle.log_writer.specs.declared.journal.Present.{Present}
use Rattle.log_writer.specs.declared.fault.First.{First}
use Rattle.log_writer.specs.declared.fault.JournalFault.{JournalFault}
use Rattle.writer_core.specs.Handling.{Turn, Done, Refused, Skipped}
use Rattle.writer_core.specs.InOrder.{TurnsLast}
use Rattle.writer_core.specs.Telling.{Counts, IsCounted, KeepsTold, Runs, TellsTaken, told_by}
use Rattle.writer_core.specs.declared.item.Job.{Job}
use Rattle.writer_core.specs.declared.item.Job.TheVariants as job

-- A disk is told what its journal knows, whether the journal writes on or has failed.
module _ {S C : Type 0} (kind : Kind S C) (before : Moment) (new : Log S C) (a : Account S C) (outcome : Outcome S C)
    (first : S) (q more : List C) where
  told_remains : (failed : Option First) → JournalRemains kind failed new.history.now new.present new.waiting first q
      → told_by new ≡ new.present.told
  told_remains None h = h.1.keeps.told
  told_remains (Some failure) h = h.told

  told_follows : {T : Type 0} (result : Result T JournalFault)
      → JournalFollows kind before new.failed new.history.now new.present new.waiting a outcome first q more result
      → told_by new ≡ new.present.told
  told_follows (Ok x) h = h.runs.keeps.told
  told_follows (Err why) h = told_remains new.failed h

  runs_follow : {T : Type 0} (result : Result T JournalFault)
      → JournalFollows kind before new.failed new.history.now new.present new.waiting a outcome first q more result
      → OnOk result (Runs kind new)
  runs_follow (Ok x) h = record { first = first; taken = q ++ more; account = h.next; runs = h.runs }
  runs_follow (Err why) h = tt

-- what a journal's call makes of what is told
module _ {M D S C : Type 0} {m : machine.Ghosts M S C} {d : disk.Ghosts D} (old new : Journal M D S C m d) where
  module _ {T : Type 0} (result : Result T JournalFault) where
    follows_keeps : (outcome : Account S C → Outcome S C) (more : List C) → old.failed ≡ None
        → WhereRuns old (journal.GoesOn old new outcome more result)
        → (old.present.told ≤ old.present.count → old.present.told ≤ new.present.told) → KeepsTold old new result
    follows_keeps outcome more works follows grows = λ modelled on.
        let h = follows modelled works on.first on.taken on.account on.runs in
        let before = (d.history old.disk).now in
        let exit : told_by (log new) ≡ new.present.told =
        told_follows m.kind before (log new) on.account (outcome on.account) on.first on.taken more result h in
        record {
          stays = omega (arith, exit, on.runs.keeps.told, grows on.runs.keeps.told_within);
          runs = runs_follow m.kind before (log new) on.account (outcome on.account) on.first on.taken more result h;
        }

  step_grows : {T : Type 0} (result : Result T JournalFault) (command : C) → StepsBy command old new result
      → old.present.told ≤ new.present.told
  step_grows (Ok x) command h = omega (arith, h.told)
  step_grows (Err why) command h = omega (arith, h.told)

  restating_grows : {T : Type 0} (result : Result T JournalFault) (bytes : ℕ) → RestatesIn bytes old new result
      → old.present.told ≤ new.present.told
  restating_grows (Ok x) bytes h = omega (arith, h.told)
  restating_grows (Err why) bytes h = omega (arith, ap (λ (p : Present S). p.told) h)

  sync_grows : {T : Type 0} (result : Result T JournalFault) → TellsAll old new result
      → old.present.told ≤ old.present.count → old.present.told ≤ new.present.told
  sync_grows (Ok x) h within = omega (arith, within, ap (λ (p : Present S). p.told) h)
  sync_grows (Err why) h within = omega (arith, ap (λ (p : Present S). p.told) h)

  pub write_keeps : {T : Type 0} (result : Result T JournalFault) (outcome : Account S C → Outcome S C) (command : C)
      → old.failed ≡ None → StepsBy command old new result
      → WhereRuns old (journal.GoesOn old new outcome (command ∷ []) result) → KeepsTold old new result
  write_keeps result outcome command works stepped follows =
      follows_keeps result outcome (command ∷ []) works follows (λ within. step_grows result command stepped)

  pub compact_keeps : {T : Type 0} (result : Result T JournalFault) (outcome : Account S C → Outcome S C) (bytes : ℕ)
      → old.failed ≡ None → RestatesIn bytes old new result → WhereRuns old (journal.GoesOn old new outcome [] result)
      → KeepsTold old new result
  compact_keeps result outcome bytes works restated follows =
      follows_keeps result outcome [] works follows (λ within. restating_grows result bytes restated)

  pub sync_keeps : {T : Type 0} (result : Result T JournalFault) (outcome : Account S C → Outcome S C)
      → old.failed ≡ None → TellsAll old new result → WhereRuns old (journal.GoesOn old new outcome [] result)
      → KeepsTold old new result
  sync_keeps result outcome works told follows = follows_keeps result outcome [] works follows (sync_grows result told)

  pub sync_tells : {T : Type 0} (result : Result T JournalFault) → TellsAll old new result
      → TellsTaken job.Sync new result
  sync_tells (Ok x) h = ap (λ (p : Present S). p.told) h ∙ sym (ap (λ (p : Present S). p.count) h)
  sync_tells (Err why) h = tt

  -- the numbers of commands that were taken and told
  pub write_counts : {T : Type 0} (result : Result T JournalFault) (command : C) → StepsBy command old new result
      → Counts (job.Write command) old new result
  write_counts (Ok x) command h = record {
    told = h.told;
    counted = λ before. (omega (arith, h.told, h.count, before.0, before.1), omega (arith, h.count));
  }
  write_counts (Err why) command h = record {
    told = h.told;
    counted = λ before. (omega (arith, h.told, h.count, before.0), omega (arith, h.count, before.1));
  }

  pub compact_counts : {T : Type 0} (result : Result T JournalFault) (bytes : ℕ) → RestatesIn bytes old new result
      → Counts job.Compact old new result
  compact_counts (Ok x) bytes h = record {
    told = h.told;
    counted = λ before. (omega (arith, h.told, h.count, before.0), omega (arith, h.count, before.1));
  }
  compact_counts (Err why) bytes h = record {
    told = ap (λ (p : Present S). p.told) h;
    counted = λ before. subst IsCounted (sym h) before;
  }

  pub sync_counts : {T : Type 0} (result : Result T JournalFault) → TellsAll old new result
      → Counts job.Sync old new result
  sync_counts (Ok x) h = record {
    told = ap (λ (p : Present S). p.told) h;
    counted = λ before. (
      omega (arith, ap (λ (p : Present S). p.told) h, ap (λ (p : Present S). p.count) h),
      omega (arith, ap (λ (p : Present S). p.count) h, before.1),
    );
  }
  sync_counts (Err why) h = record {
    told = ap (λ (p : Present S). p.told) h;
    counted = λ before. subst IsCounted (sym h) before;
  }

  -- whatever a journal's turn at the last of some jobs was
  pub turn_keeps : (before : List (Job C)) (last : Job C) (turn : Turn) → TurnsLast before last old new turn
      → d.modelled → Runs m.kind (log old) → told_by (log old) ≤ told_by (log new)
  turn_keeps before last Done h modelled on = (h.keeps_told modelled on).stays
  turn_keeps before last (Refused why) h modelled on = (h.keeps_told modelled on).stays
  turn_keeps before last Skipped h modelled on = (h.keeps_told modelled on).stays

module _ {M D S C : Type 0} {m : machine.Ghosts M S C} {d : disk.Ghosts D} where
  pub nothing_keeps : {T : Type 0} (x : T) (old : Journal M D S C m d) → KeepsTold old old (Ok x)
  nothing_keeps x old = λ modelled on. record { stays = omega arith; runs = on }

  pub nothing_counts : {T : Type 0} (x : T) (old : Journal M D S C m d) → Counts job.Nothing old old (Ok x)
  nothing_counts x old = record { told = refl; counted = λ before. before }

  -- calls one after another
  pub keeps_then : {T U : Type 0} (x : T) (old mid new : Journal M D S C m d) (result : Result U JournalFault)
      → KeepsTold old mid (Ok x) → KeepsTold mid new result → KeepsTold old new result
  keeps_then x old mid new result one two = λ modelled on.
      let here = one modelled on in
      let there = two modelled here.runs in
      record { stays = omega (arith, here.stays, there.stays); runs = there.runs }
