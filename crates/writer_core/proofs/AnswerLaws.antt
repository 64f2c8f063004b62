-- What calls of a journal answer on every disk, one after another.
use Rattle.std.proofs.Common.{ℕ, ◌+◌, ◌<◌, Result, Ok, Err, refl, ◌∙◌, subst, arith}
use Rattle.log_writer.specs.Answers.{IsLater}
use Rattle.log_writer.specs.Log.{Log}
use Rattle.log_writer.specs.declared.limits.Limits.{Limits}
use Rattle.log_writer.specs.declared.fault.JournalFault.{JournalFault}
use Rattle.log_writer.specs.declared.fault.JournalFault.TheVariants as fault
use Rattle.writer_core.specs.Working.{FaultCause, LogIssues}

module _ {S C : Type 0} where
  pub later_still : (old : Log S C) → IsLater old old
  later_still old = record { limits = refl; failures = omega arith }

  pub later_then : (old mid new : Log S C) → IsLater old mid → IsLater mid new → IsLater old new
  later_then old mid new one two = record { limits = two.limits ∙ one.limits; failures = omega (arith, one.failures, two.failures) }

  cause_since : (old mid new : Log S C) (why : JournalFault) → IsLater old mid → FaultCause mid.limits.max_file mid.failures new.failures why → FaultCause old.limits.max_file old.failures new.failures why
  cause_since old mid new (fault.AlreadyFailed first) later a = a
  cause_since old mid new (fault.TooLong needed) later a = subst (λ (l : Limits). l.max_file < needed) later.limits a
  cause_since old mid new (fault.LastStamp stamp) later a = a
  cause_since old mid new fault.Disk later a = omega (arith, later.failures, a)
  cause_since old mid new fault.Memory later a = tt

  -- jobs that were done, and more of them
  pub answers_then : {T U : Type 0} (n more : ℕ) (old mid new : Log S C) (x : T) (result : Result U JournalFault) → IsLater old mid → LogIssues n old mid (Ok x) → LogIssues more mid new result → LogIssues (n + more) old new result
  answers_then n more old mid new x (Ok y) later one two = (two.0, λ small. omega (arith, small, one.1, two.1))
  answers_then n more old mid new x (Err why) later one two = cause_since old mid new why later two
