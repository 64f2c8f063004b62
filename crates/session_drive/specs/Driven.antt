-- All that is said of a whole run, whoever writes its segments.
use Rattle.std.specs.Prelude.{◌⊎◌, ℕ, List, Option}
use Rattle.session_disk.specs.declared.family.Family.TheVariants.{Session}
use Rattle.run_words.specs.declared.status.Status.{Status}
use Rattle.run_words.specs.Words.{order_of}
use Rattle.script_run.specs.Runs.{Writes}
use Rattle.session_drive.specs.Causes.{HasCause}
use Rattle.session_drive.specs.Run.{CallsNoDisk, Found, HoldsScript, LeavesScript, Opened, ReadsNone, SaysRun}
use Rattle.session_drive.specs.Run.{ShowsScript, causes}
use Rattle.session_drive.specs.Telling.{TellsScript}
use Rattle.session_drive.specs.Verdict.{IsAsVerdict}

-- What a run is that answers so, over what it found, where source and sink fail so. It has written what stands behind
-- what was written before. The last three say that the source, the session's disk and that of the tabs are as they
-- were.
pub record IsDriven (found : Found) (read write : Type 0) (old new : Option (List ℕ))
    (same_source same_session same_tabs : Type 0) (status : Status) : Type 0 where
  -- Each answer has its cause; those by a file's length and by the last stamp come exactly where the accounts say.
  pub cause : HasCause (causes found read write) status
  -- The line `start` comes only behind both openings, and each line behind it when all before it is done.
  pub output : Writes old new (SaysRun found write status)
  -- What stands on each disk at the end of a run that told all commands.
  pub done : HoldsScript found status
  -- The states to which they then read show the same picture as the browser.
  pub picture : ShowsScript found status
  -- Where nothing failed, answer, output and files are those of the verdict.
  pub verdict : IsAsVerdict found read write old new status
  -- A crash at any moment of the call leaves on each disk files that read to the state after some prefix of the
  -- family's commands, with every told one in it, and each foreign file.
  pub crash : LeavesScript found
  -- No line of a sync that was written says more than the disks have been told by the end, whatever the answer is.
  pub tells : TellsScript found old new
  -- The disk of the tabs is called only after the session's journal was opened.
  pub order : same_tabs ⊎ Opened found Session
  -- A disk is called only behind the words and the script.
  pub not_called : CallsNoDisk status → same_session × same_tabs
  -- The source is called only where the words ask for it.
  pub not_read : ReadsNone (order_of found.words) → same_source
