-- How the journal of one family is opened at the start of a run: where its account begins, or why it is refused.
use Rattle.std.specs.Prelude.{◌≡◌, ℕ, ◌≤◌, List, [], Option, None}
use Rattle.machine_law.specs.Kind.{Kind}
use Rattle.session_disk.specs.declared.family.Family.{Family}
use Rattle.session_disk.specs.declared.family.Family.TheVariants.{Session, Tabs}
use Rattle.session_disk.specs.Moments.{IsNewestBelow}
use Rattle.session_disk.specs.Histories.{History, Leaves}
use Rattle.log_writer.specs.Journals.{IsReady}
use Rattle.log_writer.specs.Log.{Log, IsLeft}
use Rattle.log_writer.specs.Opening.{Seen}
use Rattle.log_writer.specs.declared.limits.Limits.{Limits}
use Rattle.log_writer.specs.declared.fault.JournalFault.{JournalFault}
use Rattle.writer_core.specs.Course.{options}
use Rattle.writer_core.specs.Working.{Beginning, Begins, FaultCause, Stops, WritesOn, course}
use Rattle.writer_core.specs.declared.item.Job.{Job}

-- a disk, by what its type says of it
abbrev pub seen : {D : Type 0} → (D → History) → (D → ℕ) → D → Seen
seen history failed disk = record { history = history disk; failures = failed disk }

-- the disk of each family
abbrev pub disks : {D : Type 0} → (D → History) → (D → ℕ) → D → D → Family → Seen
disks history failed session tabs Session = seen history failed session
disks history failed session tabs Tabs = seen history failed tabs

module _ {S C : Type 0} (kind : Kind S C) (modelled : Type 0) (limits : Limits) (entry : Seen) where
  -- on a modelled disk, wherever the run begins
  abbrev pub WhereBegun : (Beginning S → Type 0) → Type 0
  WhereBegun P = modelled → (b : Beginning S) → b.options ≡ options limits → Begins kind entry.history b → P b

  -- The journal has no command yet. On a modelled disk it writes on.
  pub record Opens (l : Log S C) : Type 0 where
    pub works : l.failed ≡ None
    pub limited : l.limits ≡ limits
    pub none_written : l.present.count ≡ 0
    pub none_told : l.present.told ≡ 0
    pub later : entry.failures ≤ l.failures
    pub newest : modelled → (greatest : Option ℕ) × IsNewestBelow entry.history.now.standing None greatest
    pub begins : WhereBegun (λ b. WritesOn kind b l [])

  -- The account of any jobs is stopped by an opening that is refused. A crash leaves what was found.
  pub record RefusesOpening (exit : Seen) (why : JournalFault) : Type 0 where
    pub cause : FaultCause limits.max_file entry.failures exit.failures why
    pub stops : WhereBegun (λ b. (jobs : List (Job C)) → Stops (course kind b jobs) why)
    pub left : modelled → (first : S) → IsReady kind entry.history.now first →
        Leaves entry.history exit.history (IsLeft kind entry.history.now first [])
