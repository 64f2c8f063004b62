-- The answers to what a run over open journals comes to, and to a journal's fault.
use Rattle.std.specs.Prelude.{ℕ, Ok, Err}
use Rattle.session_disk.specs.declared.family.Family.{Family}
use Rattle.log_writer.specs.declared.fault.JournalFault.{JournalFault}
use Rattle.log_writer.specs.declared.fault.JournalFault.TheVariants as fault
use Rattle.run_words.specs.declared.status.Status.{Status}
use Rattle.run_words.specs.declared.status.Status.TheVariants.{LastStamp, Disk, Write, TooLong, Memory}
use Rattle.run_words.specs.declared.status.Long.TheVariants.{File}
use Rattle.script_run.specs.declared.halt.Halt.TheVariants as halt
use Rattle.script_run.specs.Whole.{Ran}
use Rattle.session_drive.specs.Run.{answer_of}

-- a journal's fault as an answer
abbrev pub status_of : Family → JournalFault → Status
status_of family (fault.AlreadyFailed first) = Disk family
status_of family (fault.TooLong needed) = TooLong (File family) needed
status_of family (fault.LastStamp stamp) = LastStamp family stamp
status_of family fault.Disk = Disk family
status_of family fault.Memory = Memory

-- not the answer of a journal that failed before
abbrev pub IsFirst : JournalFault → Type 0
IsFirst (fault.AlreadyFailed first) = ⊥
IsFirst (fault.TooLong needed) = Unit {0}
IsFirst (fault.LastStamp stamp) = Unit {0}
IsFirst fault.Disk = Unit {0}
IsFirst fault.Memory = Unit {0}

-- no journal that had failed before halted the run
abbrev pub IsFirstOf : Ran → Type 0
IsFirstOf (Ok refused) = Unit {0}
IsFirstOf (Err (halt.Journal stopped)) = IsFirst stopped.fault
IsFirstOf (Err halt.Write) = Unit {0}
IsFirstOf (Err halt.Memory) = Unit {0}

-- the answer to a script that was run, with the numbers of commands, or whose run halted
abbrev pub answer_by : Ran → ℕ → ℕ → Status
answer_by (Ok refused) session tabs = answer_of refused session tabs
answer_by (Err (halt.Journal stopped)) session tabs = status_of stopped.family stopped.fault
answer_by (Err halt.Write) session tabs = Write
answer_by (Err halt.Memory) session tabs = Memory
