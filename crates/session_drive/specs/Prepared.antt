-- What stands in front of a script that is run, and what is made of it behind it.
use Rattle.std.specs.Prelude.{◌≡◌, ℕ, List, Option}
use Rattle.session_disk.specs.declared.family.Family.{Family}
use Rattle.session_disk.specs.declared.family.Family.TheVariants.{Session, Tabs}
use Rattle.log_writer.specs.Opening.{Seen}
use Rattle.log_writer.specs.declared.limits.Limits.{Limits}
use Rattle.writer_core.specs.Opening.{Opens}
use Rattle.run_words.specs.declared.status.Status.{Status}
use Rattle.run_words.specs.Words.{Asked}
use Rattle.script_run.specs.Families.{kind_of}
use Rattle.script_run.specs.Runs.{Logs}
use Rattle.script_run.specs.Whole.{Ran}
use Rattle.session_drive.specs.Answers.{answer_by}
use Rattle.session_drive.specs.Reading.{IsAsked}

-- the script that the words ask for, where this is left of the source, and the journals of both families, opened
pub record IsPrepared (order : Option Asked) (left : Option (List ℕ)) (text : List ℕ) (modelled : Type 0)
    (entry : Family → Seen) (logs : Logs) : Type 0 where
  pub limits : Limits
  pub script : IsAsked order left text limits
  pub opens : (family : Family) → Opens (kind_of family) modelled limits (entry family) (logs family)

-- the answer to what came of a script, and the disks of both journals, which are closed
pub record Closes (logs : Logs) (ran : Ran) (exit : Family → Seen) (status : Status) : Type 0 where
  pub is : status ≡ answer_by ran (logs Session).present.count (logs Tabs).present.count
  pub closed : (family : Family) →
      exit family ≡ record { history = (logs family).history; failures = (logs family).failures }
