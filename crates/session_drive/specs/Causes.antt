-- What each answer of a run comes of.
use Rattle.std.specs.Prelude.{ℕ}
use Rattle.session_disk.specs.declared.family.Family.{Family}
use Rattle.run_words.specs.declared.status.Status.{Status}
use Rattle.run_words.specs.declared.status.Status.TheVariants.{Done, Usage, Refused, LastStamp, Disk, Read, Write}
use Rattle.run_words.specs.declared.status.Status.TheVariants.{TooLong, Memory}
use Rattle.run_words.specs.declared.status.Long.TheVariants.{Script, File}

-- A cause for each answer. The answers to a whole script, that all commands are told or a line is refused, share one.
pub record Causes : Type 1 where
  pub usage : Type 0
  pub read : Type 0
  pub write : Type 0
  pub long_script : ℕ → Type 0
  pub answered : Status → Type 0
  pub disk : Family → Type 0
  pub long_file : Family → ℕ → Type 0
  pub last_stamp : Family → ℕ → Type 0

-- an answer has its cause; want of memory may come at any time
abbrev pub HasCause : Causes → Status → Type 0
HasCause causes (Done session tabs) = causes.answered (Done session tabs)
HasCause causes Usage = causes.usage
HasCause causes (Refused line why) = causes.answered (Refused line why)
HasCause causes (Disk family) = causes.disk family
HasCause causes Read = causes.read
HasCause causes Write = causes.write
HasCause causes (TooLong Script needed) = causes.long_script needed
HasCause causes (TooLong (File family) needed) = causes.long_file family needed
HasCause causes Memory = Unit {0}
HasCause causes (LastStamp family stamp) = causes.last_stamp family stamp

-- no answer but want of memory
abbrev pub no_causes : Causes
no_causes = record {
  usage = ⊥;
  read = ⊥;
  write = ⊥;
  long_script = λ needed. ⊥;
  answered = λ answer. ⊥;
  disk = λ family. ⊥;
  long_file = λ family needed. ⊥;
  last_stamp = λ family stamp. ⊥;
}
