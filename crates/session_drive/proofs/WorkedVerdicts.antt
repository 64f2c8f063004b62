-- Verdicts worked out: words that are no run's, an empty script over empty disks, a script and a file that are too long,
-- and a disk with the last stamp.
use Rattle.std.proofs.Common.{◌≡◌, ℕ, ◌-◌, ◌^◌, List, [], ◌∷◌, ◌++◌, codes, Option, None, Some, refl}
use Rattle.std.specs.Fmt.{digits}
use Rattle.session_disk.specs.Histories.{History}
use Rattle.session_disk.specs.declared.family.Family.{Family}
use Rattle.session_disk.specs.declared.family.Family.TheVariants.{Session}
use Rattle.snss_frames.specs.Frame.{frame}
use Rattle.snss_frames.specs.Header.{header}
use Rattle.fresh_files.specs.Fresh.{fresh}
use Rattle.run_words.specs.Words.{Asked, order_of}
use Rattle.run_words.specs.declared.order.Origin.TheVariants.{Script as ReadScript}
use Rattle.run_words.specs.declared.status.Status.TheVariants.{Done, LastStamp, TooLong, Usage}
use Rattle.run_words.specs.declared.status.Long.TheVariants.{File, Script}
use Rattle.script_run.specs.Families.{kind_of}
use Rattle.script_run.specs.Verdict.{Beginnings}
use Rattle.session_drive.specs.Verdict.{Files, Verdict, alone, verdict}

no_words : (b : Beginnings) (text : List ℕ) → verdict (order_of []) b text ≡ alone Usage
no_words b text = refl

-- a script of so many bytes at most, and files of so many
abbrev within : ℕ → ℕ → Option Asked
within most max_file =
    Some (record { origin = ReadScript most; options = record { every = 250; max_file = max_file } })

long_script : (b : Beginnings) → verdict (within 1 4294967296) b (codes "#\n") ≡ alone (TooLong Script 2)
long_script b = refl

-- both disks read to empty states, and have these greatest stamps
abbrev empty_states : (Family → History) → (Family → Option ℕ) → Beginnings
empty_states entry greatest family = record {
  options = record { every = 0; max_file = 0 };
  first = (kind_of family).start;
  entry = entry family;
  greatest = greatest family;
}

-- the file of an empty state: the header and the marker
abbrev empty_files : Files
empty_files = record { bytes = codes "SNSS" ++ 3 ∷ 0 ∷ 0 ∷ 0 ∷ 1 ∷ 0 ∷ 255 ∷ []; creations = 1 }

module _ (entry : Family → History) where
  abbrev on_empty : Option Asked → Verdict
  on_empty asked = verdict asked (empty_states entry (λ family. None)) []

  empty_answer : (on_empty (order_of (codes "run" ∷ codes "folder" ∷ []))).status ≡ Done 0 0
  unfolding frame fresh header
  empty_answer = refl

  empty_output : (on_empty (order_of (codes "run" ∷ codes "folder" ∷ []))).output ≡ codes "start 0 0 0\ndone 0 0\n"
  unfolding digits frame fresh header
  empty_output = refl

  session_file : (on_empty (order_of (codes "run" ∷ codes "folder" ∷ []))).files Session ≡ Some empty_files
  unfolding frame fresh header
  session_file = refl

  long_file : on_empty (within 1 10) ≡ alone (TooLong (File Session) 11)
  unfolding frame fresh header
  long_file = refl

  last_stamp : verdict (within 1 11) (empty_states entry (λ family. Some (2 ^ 63 - 1))) []
      ≡ alone (LastStamp Session (2 ^ 63 - 1))
  unfolding frame fresh header
  last_stamp = refl
