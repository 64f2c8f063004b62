-- What a journal answers and keeps where the disk or memory refuses.
use Rattle.std.proofs.Common.{◌≡◌, ℕ, ◌≤◌, List, length, None, Result, Ok, Err, IsErrAnd, IsErrOf, inl, refl, sym, ap, ◌∙◌, subst, arith}
use Rattle.snss_frames.specs.Frame.{frame_bytes}
use Rattle.snss_frames.proofs.FrameLaws.{length-frame}
use Rattle.machine_law.specs.Kind.{Kind}
use Rattle.session_disk.specs.declared.failure.DiskError.{DiskError}
use Rattle.session_disk.specs.declared.failure.DiskError.TheVariants as error
use Rattle.fresh_files.specs.Fresh.{frame_of, frame_length}
use Rattle.session_disk.specs.Causes.{Rose}
use Rattle.log_writer.specs.Faults.{fault_of, first_of}
use Rattle.log_writer.specs.Log.{Log}
use Rattle.log_writer.specs.Answers.{Call, IsWithin, LogAnswers, LogMakes, extension, rotation}
use Rattle.log_writer.specs.declared.fault.JournalFault.TheVariants as fault
use Rattle.log_writer.specs.declared.fault.JournalFault.{JournalFault}

-- how long a command's frame is
pub frame_size : {S C : Type 0} (kind : Kind S C) (c : C) (bytes : List ℕ) (n : ℕ) → n ≡ length bytes → bytes ≡ frame_bytes (frame_of kind c) → n ≡ frame_length kind c
frame_size kind c bytes n e is = e ∙ ap length is ∙ length-frame (kind.id c) (kind.payload c)

-- a disk's error comes behind the test of the length
pub disk_answers : {S C : Type 0} (T : Type 0) (call : Call) (old new : Log S C) (why : DiskError) (answer : JournalFault) → answer ≡ fault_of why → old.failed ≡ None → new.failed ≡ first_of new.failures why →
    (IsErrOf {T = Unit {0}} (Err why) error.Failed → Rose old.failures new.failures) → IsWithin call.needs old.limits.max_file → LogAnswers {T = T} call old new (Err answer)
disk_answers T call old new error.Failed answer e works kept rose small = subst (λ (f : JournalFault). LogAnswers {T = T} call old new (Err f)) (sym e) (works, kept, rose refl, small)
disk_answers T call old new error.Memory answer e works kept rose small = subst (λ (f : JournalFault). LogAnswers {T = T} call old new (Err f)) (sym e) (works, inl kept)

-- A rotation that was refused is that of a longer file, where that one also is within the limit.
pub longer_answers : {S C T : Type 0} (short long : ℕ) (old new : Log S C) (result : Result T JournalFault) (why : JournalFault) → IsErrAnd result (λ e. e ≡ why) → short ≤ long → long ≤ old.limits.max_file →
    LogAnswers {T = Unit {0}} (rotation short) old new (Err why) → LogAnswers (rotation long) old new result
longer_answers short long old new (Ok x) why is less small answers = absurd is
longer_answers {T = T} short long old new (Err e) why is less small answers = subst (λ (f : JournalFault). LogAnswers {T = T} (rotation long) old new (Err f)) (sym is) (same why answers)
  where
    same : (f : JournalFault) → LogAnswers {T = Unit {0}} (rotation short) old new (Err f) → LogAnswers {T = T} (rotation long) old new (Err f)
    same (fault.AlreadyFailed first) a = a
    same (fault.TooLong n) a = absurd (let is : short ≡ n = (let some = a.1 in cc) in let long = a.2 in omega arith)
    same (fault.LastStamp stamp) a = (a.0, a.1, a.2, small, a.4)
    same fault.Disk a = (a.0, a.1, a.2, small)
    same fault.Memory a = a

-- a call that makes no fresh file asks no clock
pub extends_makes : {S C T : Type 0} (P Q : ℕ → Type 0) (needs : ℕ) (old new : Log S C) (result : Result T JournalFault) → LogMakes (extension needs) P old new result → LogMakes (extension needs) Q old new result
extends_makes P Q needs old new (Ok x) h = h
extends_makes P Q needs old new (Err (fault.AlreadyFailed first)) h = h
extends_makes P Q needs old new (Err (fault.TooLong n)) h = h
extends_makes P Q needs old new (Err (fault.LastStamp stamp)) h = h
extends_makes P Q needs old new (Err fault.Disk) h = h
extends_makes P Q needs old new (Err fault.Memory) h = h
