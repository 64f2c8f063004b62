-- A journal of a run while jobs are done, and what stands when it is synced.
use Rattle.std.specs.Prelude.{◌≡◌, ◌≢◌, ℕ, ◌+◌, ◌-◌, ◌/◌, ◌<◌, ◌≤◌, ◌^◌, true, List, [], ◌∷◌, ◌++◌, length}
use Rattle.std.specs.Prelude.{Option, None, Some, IsSome, Result, Ok, Err, OnOk}
use Rattle.machine_law.specs.Kind.{Kind, fold}
use Rattle.machine_law.specs.declared.machine.Machine as machine
use Rattle.session_disk.specs.declared.disk.SessionDisk as disk
use Rattle.session_disk.specs.Causes.{Rose}
use Rattle.session_disk.specs.Moments.{Standing, IsAtRest, IsNewestBelow, safe_file}
use Rattle.session_disk.specs.Images.{as_it_reads}
use Rattle.session_disk.specs.Histories.{History, Leaves}
use Rattle.file_rotation.specs.Foreign.{is_foreign}
use Rattle.file_rotation.specs.Recovery.{Recovers}
use Rattle.fresh_files.specs.Fresh.{fresh, frames}
use Rattle.log_writer.specs.Waiting.{Waiting}
use Rattle.log_writer.specs.Account.{Account}
use Rattle.log_writer.specs.Journals.{JournalRuns, IsReady}
use Rattle.log_writer.specs.Log.{Log, log, KeepsForeign, IsLeft}
use Rattle.log_writer.specs.declared.journal.Journal.{Journal}
use Rattle.log_writer.specs.declared.journal.Present.{Present}
use Rattle.log_writer.specs.declared.fault.JournalFault.{JournalFault}
use Rattle.log_writer.specs.declared.fault.JournalFault.TheVariants as fault
use Rattle.writer_core.specs.Course.{Options, Course, Goes, TooLong, LastStamp, IsTied, course_of, options}
use Rattle.writer_core.specs.Creations.{AllFit, compactions}
use Rattle.writer_core.specs.Jobs.{commands}
use Rattle.writer_core.specs.declared.item.Job.{Job}
use Rattle.writer_core.specs.declared.item.Job.TheVariants as job

-- where the journal of a run begins: how much may go into one file, the state to which the files read, the disk at
-- entry and the greatest stamp on it
pub record Beginning (S : Type 0) : Type 0 where
  pub options : Options
  pub first : S
  pub entry : History
  pub greatest : Option ℕ

-- why a list of jobs stops, as its course says; the disk and memory may stop it anywhere
abbrev pub Stops : {S C : Type 0} → Course S C → JournalFault → Type 0
Stops course (fault.TooLong n) = course ≡ TooLong n
Stops course (fault.LastStamp stamp) = course ≡ LastStamp
Stops course (fault.AlreadyFailed first) = Unit {0}
Stops course fault.Disk = Unit {0}
Stops course fault.Memory = Unit {0}

module _ {S C : Type 0} (kind : Kind S C) where
  -- a run begins so over this disk
  pub record Begins (entry : History) (b : Beginning S) : Type 0 where
    pub ready : IsReady kind entry.now b.first
    pub entry_is : b.entry ≡ entry
    pub newest : IsNewestBelow entry.now.standing None b.greatest

  abbrev pub course : Beginning S → List (Job C) → Course S C
  course b jobs = course_of kind b.options b.greatest b.first jobs

  -- the journal is opened, by its account
  abbrev pub IsOpened : Beginning S → Type 0
  IsOpened b = (account : Account S C) × (course b [] ≡ Goes account)

  -- a crash since the entry left what is good for the commands of these jobs, and every foreign file
  abbrev pub LeftSince : Beginning S → History → List (Job C) → Type 0
  LeftSince b now jobs = Leaves b.entry now (IsLeft kind b.entry.now b.first (commands jobs))

  -- the journal writes on, as the account of these jobs says
  pub record Continues (b : Beginning S) (now : History) (present : Present S) (w : Waiting C) (jobs : List (Job C))
      : Type 0 where
    pub some : 1 ≤ b.options.every
    pub newest : IsNewestBelow b.entry.now.standing None b.greatest
    pub account : Account S C
    pub is : course b jobs ≡ Goes account
    pub made : now.now.creates ≡ b.entry.now.creates + account.made
    pub few : account.made ≤ length jobs + 1
    pub tied : IsTied b.greatest account.made present.stamp
    pub runs : JournalRuns kind now.now present w account b.first (commands jobs)
    pub left : LeftSince b now jobs

  abbrev pub WritesOn : Beginning S → Log S C → List (Job C) → Type 0
  WritesOn b l jobs = Continues b l.history l.present l.waiting jobs

  -- jobs were stopped, these being all that were to be done
  pub record Ends (b : Beginning S) (now : History) (jobs : List (Job C)) (why : JournalFault) : Type 0 where
    pub left : LeftSince b now jobs
    pub stops : Stops (course b jobs) why

  -- The disk is at rest and the commands of these jobs are told. One file stands on it, under a stamp above all that
  -- stood at entry, with the bytes that the account says, beside the foreign files of the entry and no others; and so
  -- many files were made. The files read to the state after these commands.
  pub record HoldsCommands (b : Beginning S) (now : History) (jobs : List (Job C)) : Type 0 where
    pub rest : IsAtRest now.now
    pub told : now.now.told ≡ length (commands jobs)
    pub account : Account S C
    pub is : course b jobs ≡ Goes account
    pub made : now.now.creates ≡ b.entry.now.creates + account.made
    -- Where all commands fit into one file, one is made at the opening, one at each compaction, and at most one more for
    -- each `every` of commands that is full.
    pub few : AllFit kind b.first (commands jobs) b.options.max_file →
        account.made ≤ 1 + compactions jobs + length (commands jobs) / b.options.every
    pub stamp : ℕ
    pub above : (s : ℕ) → IsSome (b.entry.now.standing s) → s < stamp
    pub file : now.now.standing stamp ≡ Some (safe_file (fresh kind account.base ++ frames kind account.kept))
    pub others : (s : ℕ) (other : Standing) → s ≢ stamp → now.now.standing s ≡ Some other →
        is_foreign other.bytes ≡ true
    pub foreign : KeepsForeign b.entry.now (as_it_reads now.now)
    pub reads : Recovers kind (as_it_reads now.now) (fold kind b.first (commands jobs))

-- On every disk: why a journal that hasn't failed refuses, by the limit of its files and by its disk's count of
-- failures before and after.
abbrev pub FaultCause : ℕ → ℕ → ℕ → JournalFault → Type 0
FaultCause max_file before after (fault.AlreadyFailed first) = ⊥
FaultCause max_file before after (fault.TooLong needed) = max_file < needed
FaultCause max_file before after (fault.LastStamp stamp) = stamp ≡ 2 ^ 63 - 1
FaultCause max_file before after fault.Disk = Rose before after
FaultCause max_file before after fault.Memory = Unit {0}

-- On every disk: what jobs that write n commands make of a journal that hasn't failed.
module _ {S C T : Type 0} where
  abbrev pub LogIssues : ℕ → Log S C → Log S C → Result T JournalFault → Type 0
  LogIssues n old new (Ok x) =
      (new.failed ≡ None) × (old.present.count + n < 2 ^ 64 → new.present.count ≡ old.present.count + n)
  LogIssues n old new (Err why) = FaultCause old.limits.max_file old.failures new.failures why

module _ {M D S C : Type 0} {m : machine.Ghosts M S C} {d : disk.Ghosts D} where
  abbrev pub IssueAnswers : {T : Type 0} → ℕ → Journal M D S C m d → Journal M D S C m d → Result T JournalFault
      → Type 0
  IssueAnswers n old new result = LogIssues n (log old) (log new) result

  -- the journal writes on after these jobs
  abbrev pub GoesOn : Beginning S → Journal M D S C m d → List (Job C) → Type 0
  GoesOn b j jobs = WritesOn m.kind b (log j) jobs

  -- After Ok the journal writes on after these jobs; after a refusal they were stopped.
  abbrev pub WorkEnds : {T : Type 0} → Beginning S → Journal M D S C m d → List (Job C) → Result T JournalFault → Type 0
  WorkEnds b new jobs (Ok x) = GoesOn b new jobs
  WorkEnds b new jobs (Err why) = Ends m.kind b (d.history new.disk) jobs why

  -- What it is to do more jobs, on a modelled disk: wherever the run began, whatever was done before, and in all no
  -- more than any run has.
  abbrev pub Works : {T : Type 0} → List (Job C) → Journal M D S C m d → Journal M D S C m d → Result T JournalFault
      → Type 0
  Works more old new result = d.modelled → (b : Beginning S) (done : List (Job C)) → b.options ≡ options old.limits →
      length (done ++ more) < 2 ^ 61 → GoesOn b old done → WorkEnds b new (done ++ more) result

  -- What a sync does beyond other jobs, on a modelled disk, wherever the run began and whatever was done before: after
  -- Ok the disk holds the commands.
  abbrev pub Syncs : {T : Type 0} → Job C → Journal M D S C m d → Journal M D S C m d → Result T JournalFault → Type 0
  Syncs (job.Write command) old new result = Unit {0}
  Syncs job.Sync old new result = d.modelled → (b : Beginning S) (done : List (Job C)) → length done < 2 ^ 61 →
      GoesOn b old done → OnOk result (HoldsCommands m.kind b (d.history new.disk) (done ++ job.Sync ∷ []))
  Syncs job.Compact old new result = Unit {0}
  Syncs job.Nothing old new result = Unit {0}
