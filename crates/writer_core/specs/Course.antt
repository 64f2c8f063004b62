-- What comes of a list of jobs, by the account of their journal: they are done, or the first file that would be too
-- long or would need a stamp above the last one stops them.
use Rattle.std.specs.Prelude.{ℕ, zero, ◌+◌, ◌-◌, ◌<◌, ◌≤◌, ◌^◌, max, ◌==◌, nat_lt, Bool, false, ◌&&◌, if◌then◌else◌}
use Rattle.std.specs.Prelude.{List, [], ◌∷◌, Option, None, Some}
use Rattle.machine_law.specs.Kind.{Kind}
use Rattle.log_writer.specs.Account.{Account, Outcome, Becomes, Needs, compacted, opened, synced, written}
use Rattle.log_writer.specs.declared.limits.Limits.{Limits}
use Rattle.writer_core.specs.declared.item.Job.{Job}
use Rattle.writer_core.specs.declared.item.Job.TheVariants as job

-- how many commands may stand behind a marker, and how many bytes a file may have
pub record Options : Type 0 where
  pub every : ℕ
  pub max_file : ℕ

abbrev pub options : Limits → Options
options limits = record { every = limits.every; max_file = limits.max_file }

-- the account, or how long a file would be, or that a file would come behind the last stamp
pub data Course (S C : Type 0) : Type 0 where
  Goes : Account S C → Course S C
  TooLong : ℕ → Course S C
  LastStamp : Course S C

-- Each file's stamp is one more than the one before it, or the clock's. So the file that is made behind so many others
-- finds the last stamp, 2^63 - 1, exactly where the greatest stamp of the entry and that number come to it.
abbrev pub meets_last : Option ℕ → ℕ → Bool
meets_last None made = false
meets_last (Some greatest) made = greatest + made == 2 ^ 63 - 1

-- A stamp after so many creations: above the greatest of the entry, by at least as many as files were made, and by no
-- more where the clock doesn't pass it.
abbrev pub IsTied : Option ℕ → ℕ → ℕ → Type 0
IsTied None made stamp = stamp ≤ 2 ^ 62 + made
IsTied (Some greatest) made stamp =
    (greatest < stamp) × (greatest + made ≤ stamp) × (stamp ≤ max (2 ^ 62) greatest + made)

module _ {S C : Type 0} (kind : Kind S C) (options : Options) (greatest : Option ℕ) where
  -- by what the next account would be, after so many creations
  abbrev pub after_outcome : ℕ → Outcome S C → Course S C
  after_outcome made (Needs n) = TooLong n
  after_outcome made (Becomes a) = if nat_lt made a.made && meets_last greatest made then LastStamp else Goes a

  -- one job of a journal with this account: a command may make a file, and a compaction makes one
  abbrev pub from_account : Job C → Account S C → Course S C
  from_account (job.Write command) a = after_outcome a.made (written kind options.every options.max_file a command)
  from_account job.Sync a = Goes (synced kind a)
  from_account job.Compact a = after_outcome a.made (compacted kind options.max_file a)
  from_account job.Nothing a = Goes a

  abbrev pub after_job : Job C → Course S C → Course S C
  after_job todo (Goes a) = from_account todo a
  after_job todo (TooLong n) = TooLong n
  after_job todo LastStamp = LastStamp

  abbrev pub after_jobs : List (Job C) → Course S C → Course S C
  after_jobs [] course = course
  after_jobs (todo ∷ later) course = after_jobs later (after_job todo course)

  -- the course of these jobs, from the opening of a journal on
  abbrev pub course_of : S → List (Job C) → Course S C
  course_of first jobs = after_jobs jobs (after_outcome zero (opened kind options.max_file first))
