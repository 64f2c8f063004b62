-- Causes of answers: wider ones, and those of one step of a run among those of the whole.
use Rattle.std.proofs.Common.{◌≡◌, ◌⊎◌, ℕ, ◌<◌, Option, None, Some, Ok, Err, sym, subst, inl, inr}
use Rattle.session_disk.specs.Causes.{Rose}
use Rattle.session_disk.specs.declared.family.Family.{Family}
use Rattle.log_writer.specs.declared.fault.JournalFault.{JournalFault}
use Rattle.log_writer.specs.declared.fault.JournalFault.TheVariants as fault
use Rattle.writer_core.specs.Working.{FaultCause}
use Rattle.run_words.specs.declared.status.Status.{Status}
use Rattle.run_words.specs.declared.status.Status.TheVariants.{Done, Usage, Refused, LastStamp, Disk, Read, Write, TooLong, Memory}
use Rattle.run_words.specs.declared.status.Long.TheVariants.{Script, File}
use Rattle.run_words.specs.declared.why.Why.{Why}
use Rattle.run_words.specs.Outcome.{unsaid}
use Rattle.script_run.specs.declared.halt.Halt.TheVariants as halt
use Rattle.script_run.specs.Whole.{Ran}
use Rattle.session_drive.specs.Answers.{IsFirst, answer_by, status_of}
use Rattle.session_drive.specs.Causes.{Causes, HasCause}
use Rattle.session_drive.specs.Run.{Found, CallsNoDisk, EndsFirst, IsDone, IsOver, answer_of, causes}
use Rattle.run_words.specs.Words.{order_of}

-- each cause is a cause of others
pub record Implies (one other : Causes) : Type 0 where
  pub usage : one.usage → other.usage
  pub read : one.read → other.read
  pub write : one.write → other.write
  pub long_script : (needed : ℕ) → one.long_script needed → other.long_script needed
  pub answered : (answer : Status) → one.answered answer → other.answered answer
  pub disk : (family : Family) → one.disk family → other.disk family
  pub long_file : (family : Family) (needed : ℕ) → one.long_file family needed → other.long_file family needed
  pub last_stamp : (family : Family) (stamp : ℕ) → one.last_stamp family stamp → other.last_stamp family stamp

pub cause_implied : (one other : Causes) → Implies one other → (status : Status) → HasCause one status → HasCause other status
cause_implied one other f (Done s t) h = f.answered (Done s t) h
cause_implied one other f Usage h = f.usage h
cause_implied one other f (Refused l w) h = f.answered (Refused l w) h
cause_implied one other f (Disk d) h = f.disk d h
cause_implied one other f Read h = f.read h
cause_implied one other f Write h = f.write h
cause_implied one other f (TooLong Script n) h = f.long_script n h
cause_implied one other f (TooLong (File d) n) h = f.long_file d n h
cause_implied one other f Memory h = tt
cause_implied one other f (LastStamp d n) h = f.last_stamp d n h

-- a step that answers no whole script isn't done
pub not_answered : (causes : Causes) → ((answer : Status) → causes.answered answer → ⊥) → (status : Status) → HasCause causes status → IsDone status → ⊥
not_answered causes none (Done s t) h done = none (Done s t) h
not_answered causes none (Refused l w) h done = none (Refused l w) h
not_answered causes none Usage h done = done
not_answered causes none (Disk d) h done = done
not_answered causes none Read h done = done
not_answered causes none Write h done = done
not_answered causes none (TooLong w n) h done = done
not_answered causes none Memory h done = done
not_answered causes none (LastStamp d n) h done = done

-- the answer to a whole script
pub cause_answered : (causes : Causes) (answer : Status) → IsDone answer → causes.answered answer → HasCause causes answer
cause_answered causes (Done s t) done h = h
cause_answered causes (Refused l w) done h = h
cause_answered causes Usage done h = absurd done
cause_answered causes (Disk d) done h = absurd done
cause_answered causes Read done h = absurd done
cause_answered causes Write done h = absurd done
cause_answered causes (TooLong w n) done h = absurd done
cause_answered causes Memory done h = absurd done
cause_answered causes (LastStamp d n) done h = absurd done

pub answer_done : (refused : Option (ℕ × Why)) (session tabs : ℕ) → IsDone (answer_of refused session tabs)
answer_done None session tabs = tt
answer_done (Some refused) session tabs = tt

-- a journal's fault as an answer

-- a fault of which the accounts say exactly when it comes
abbrev pub IsExact : JournalFault → Type 0
IsExact (fault.AlreadyFailed first) = ⊥
IsExact (fault.TooLong needed) = Unit {0}
IsExact (fault.LastStamp stamp) = Unit {0}
IsExact fault.Disk = ⊥
IsExact fault.Memory = ⊥

pub first_fault : (max_file before after : ℕ) (why : JournalFault) → FaultCause max_file before after why → IsFirst why
first_fault max_file before after (fault.AlreadyFailed first) h = h
first_fault max_file before after (fault.TooLong needed) h = tt
first_fault max_file before after (fault.LastStamp stamp) h = tt
first_fault max_file before after fault.Disk h = tt
first_fault max_file before after fault.Memory h = tt

pub fault_caused : (found : Found) (read write : Type 0) (family : Family) (max_file before after : ℕ) (why : JournalFault) → FaultCause max_file before after why →
    (Rose before after → Rose (found.entry family).failures (found.exit family).failures) → ((needed : ℕ) → max_file < needed → IsOver (order_of found.words) needed) → (IsExact why → EndsFirst found (status_of family why)) →
    HasCause (causes found read write) (status_of family why)
fault_caused found read write family max_file before after (fault.AlreadyFailed first) h rose over ends = absurd h
fault_caused found read write family max_file before after (fault.TooLong needed) h rose over ends = (over needed h, ends tt)
fault_caused found read write family max_file before after (fault.LastStamp stamp) h rose over ends = (h, ends tt)
fault_caused found read write family max_file before after fault.Disk h rose over ends = rose h
fault_caused found read write family max_file before after fault.Memory h rose over ends = tt

pub fault_not_done : (family : Family) (why : JournalFault) → IsDone (status_of family why) → ⊥
fault_not_done family (fault.AlreadyFailed first) done = done
fault_not_done family (fault.TooLong needed) done = done
fault_not_done family (fault.LastStamp stamp) done = done
fault_not_done family fault.Disk done = done
fault_not_done family fault.Memory done = done

pub fault_calls : (family : Family) (why : JournalFault) → CallsNoDisk (status_of family why) → ⊥
fault_calls family (fault.AlreadyFailed first) calls = calls
fault_calls family (fault.TooLong needed) calls = calls
fault_calls family (fault.LastStamp stamp) calls = calls
fault_calls family fault.Disk calls = calls
fault_calls family fault.Memory calls = calls

-- the answer to a script that was run isn't given before a disk is called
pub run_calls : (ran : Ran) (session tabs : ℕ) → CallsNoDisk (answer_by ran session tabs) → ⊥
run_calls (Ok None) session tabs calls = calls
run_calls (Ok (Some refused)) session tabs calls = calls
run_calls (Err (halt.Journal stopped)) session tabs calls = fault_calls stopped.family stopped.fault calls
run_calls (Err halt.Write) session tabs calls = calls
run_calls (Err halt.Memory) session tabs calls = calls

-- an answer that takes another one's place

unsaid_not_done : (status : Status) → IsDone (unsaid status) → ⊥
unsaid_not_done (Done s t) h = h
unsaid_not_done Usage h = h
unsaid_not_done (Refused l w) h = h
unsaid_not_done (Disk d) h = h
unsaid_not_done Read h = h
unsaid_not_done Write h = h
unsaid_not_done (TooLong w n) h = h
unsaid_not_done Memory h = h
unsaid_not_done (LastStamp d n) h = h

pub said_before : (R : Type 0) (status answer : Status) → (answer ≡ status) ⊎ ((answer ≡ unsaid status) × R) → IsDone answer → IsDone status
said_before R status answer (inl same) done = subst IsDone same done
said_before R status answer (inr other) done = absurd (unsaid_not_done status (subst IsDone other.0 done))

pub closed_before : (R : Type 0) (status answer : Status) → (answer ≡ status) ⊎ ((answer ≡ Memory) × R) → IsDone answer → IsDone status
closed_before R status answer (inl same) done = subst IsDone same done
closed_before R status answer (inr other) done = absurd (subst IsDone other.0 done)

cause_unsaid : (causes : Causes) (status : Status) → causes.write → HasCause causes status → HasCause causes (unsaid status)
cause_unsaid causes (Done s t) failed h = failed
cause_unsaid causes Usage failed h = failed
cause_unsaid causes (Refused l w) failed h = failed
cause_unsaid causes (Disk d) failed h = h
cause_unsaid causes Read failed h = h
cause_unsaid causes Write failed h = h
cause_unsaid causes (TooLong w n) failed h = h
cause_unsaid causes Memory failed h = h
cause_unsaid causes (LastStamp d n) failed h = h

pub closed_cause : (R : Type 0) (causes : Causes) (status answer : Status) → (answer ≡ status) ⊎ ((answer ≡ Memory) × R) → HasCause causes status → HasCause causes answer
closed_cause R causes status answer (inl same) h = subst (HasCause causes) (sym same) h
closed_cause R causes status answer (inr other) h = subst (HasCause causes) (sym other.0) tt

said_cause : (R : Type 0) (causes : Causes) (status answer : Status) → (R → causes.write) → (answer ≡ status) ⊎ ((answer ≡ unsaid status) × R) → HasCause causes status → HasCause causes answer
said_cause R causes status answer failed (inl same) h = subst (HasCause causes) (sym same) h
said_cause R causes status answer failed (inr other) h = subst (HasCause causes) (sym other.0) (cause_unsaid causes status (failed other.1) h)

-- The last line's answer: want of memory may have taken the place of a run's, and a sink that failed that of any.
pub ended_cause : (Q R : Type 0) (found : Found) (read earlier write : Type 0) (status closed answer : Status) → (earlier → write) → (R → write) → (closed ≡ status) ⊎ ((closed ≡ Memory) × Q) → (answer ≡ closed) ⊎ ((answer ≡ unsaid closed) × R) →
    HasCause (causes found read earlier) status → HasCause (causes found read write) answer
ended_cause Q R found read earlier write status closed answer later failed first second cause =
    said_cause R (causes found read write) closed answer failed second (closed_cause Q (causes found read write) status closed first (cause_implied (causes found read earlier) (causes found read write) (record {
      usage = λ h. h;
      read = λ h. h;
      write = later;
      long_script = λ needed h. h;
      answered = λ answer h. h;
      disk = λ family h. h;
      long_file = λ family needed h. h;
      last_stamp = λ family stamp h. h;
    }) status cause))

-- an answer that comes before a disk is called

unsaid_calls : (status : Status) → CallsNoDisk (unsaid status) → CallsNoDisk status
unsaid_calls (Done s t) h = absurd h
unsaid_calls Usage h = absurd h
unsaid_calls (Refused l w) h = absurd h
unsaid_calls (Disk d) h = h
unsaid_calls Read h = h
unsaid_calls Write h = h
unsaid_calls (TooLong Script n) h = h
unsaid_calls (TooLong (File d) n) h = h
unsaid_calls Memory h = h
unsaid_calls (LastStamp d n) h = h

closed_calls : (Q : Type 0) (status closed : Status) → (closed ≡ status) ⊎ ((closed ≡ Memory) × Q) → CallsNoDisk closed → CallsNoDisk status
closed_calls Q status closed (inl same) h = subst CallsNoDisk same h
closed_calls Q status closed (inr other) h = absurd (subst CallsNoDisk other.0 h)

pub calls_before : (R Q : Type 0) (status closed answer : Status) → (closed ≡ status) ⊎ ((closed ≡ Memory) × Q) → (answer ≡ closed) ⊎ ((answer ≡ unsaid closed) × R) → CallsNoDisk answer → CallsNoDisk status
calls_before R Q status closed answer first (inl same) h = closed_calls Q status closed first (subst CallsNoDisk same h)
calls_before R Q status closed answer first (inr other) h = closed_calls Q status closed first (unsaid_calls closed (subst CallsNoDisk other.0 h))
