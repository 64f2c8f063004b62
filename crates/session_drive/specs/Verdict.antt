-- What a run comes to where nothing fails, by the words, the text of the source and where the journals of both families
-- begin: its answer, all that it writes, and the files that stand when it has done the whole script.
use Rattle.std.specs.Prelude.{◌≡◌, ◌≢◌, ℕ, ◌+◌, nat_lt, true, if◌then◌else◌, List, [], ◌∷◌, ◌++◌, length}
use Rattle.std.specs.Prelude.{Option, None, Some, IfSome}
use Rattle.machine_law.specs.Kind.{Kind}
use Rattle.session_disk.specs.Causes.{Rose}
use Rattle.session_disk.specs.Moments.{Moment, Standing, safe_file}
use Rattle.session_disk.specs.declared.family.Family.{Family}
use Rattle.file_rotation.specs.Foreign.{is_foreign}
use Rattle.fresh_files.specs.Fresh.{fresh, frames}
use Rattle.script_lines.specs.Generated.{generated}
use Rattle.writer_core.specs.Course.{Course, Goes, Options, TooLong as TooLongFile, LastStamp as NoStamp}
use Rattle.writer_core.specs.Working.{Begins, course}
use Rattle.run_words.specs.declared.order.Origin.{Origin}
use Rattle.run_words.specs.declared.order.Origin.TheVariants.{Script as ReadScript, Generated}
use Rattle.run_words.specs.declared.status.Status.{Status}
use Rattle.run_words.specs.declared.status.Status.TheVariants.{Usage, TooLong, Memory}
use Rattle.run_words.specs.declared.status.Long.TheVariants.{Script}
use Rattle.run_words.specs.Outcome.{last_line, start_line}
use Rattle.run_words.specs.Words.{Asked, order_of}
use Rattle.script_run.specs.Counts.{counts_of}
use Rattle.script_run.specs.Families.{Firsts, kind_of}
use Rattle.script_run.specs.Runs.{Writes}
use Rattle.script_run.specs.Script.{steps_of}
use Rattle.script_run.specs.Steps.{Step, items_of, jobs_of, said_by}
use Rattle.script_run.specs.Verdict.{Beginnings, end_of, firsts_of}
use Rattle.session_drive.specs.Run.{Found, IsDone, answer_to}

-- the bytes of a family's file, and how many files were made for it
pub record Files : Type 0 where
  pub bytes : List ℕ
  pub creations : ℕ

-- the answer, all that is written, and each family's files of a run that did the whole script
pub record Verdict : Type 0 where
  pub status : Status
  pub output : List ℕ
  pub files : Family → Option Files

-- nothing but the last line of an answer
abbrev pub alone : Status → Verdict
alone answer = record { status = answer; output = last_line answer; files = λ family. None }

-- the steps in front of the first that the accounts of both families refuse, and its answer, behind steps that are done
abbrev pub refused_by : Option Status → List Step → Option (List Step × Status) → Option (List Step × Status)
refused_by (Some answer) done later = Some (done, answer)
refused_by None done later = later

abbrev pub first_refused : Beginnings → List Step → List Step → Option (List Step × Status)
first_refused b done [] = None
first_refused b done (step ∷ later) =
    refused_by (end_of b (items_of (done ++ step ∷ []))) done (first_refused b (done ++ step ∷ []) later)

-- the line of a start, the lines of these steps, and the last line of an answer
abbrev pub said_with : Firsts → List Step → Status → List ℕ
said_with firsts steps answer = start_line (counts_of firsts) ++ (said_by steps ++ last_line answer)

-- the file of an account, beside how many were made
abbrev pub files_of : {S C : Type 0} → Kind S C → Course S C → Option Files
files_of kind (Goes a) =
    Some (record { bytes = fresh kind a.base ++ frames kind a.kept; creations = a.made })
files_of kind (TooLongFile needed) = None
files_of kind NoStamp = None

-- of a script over journals that were opened, by the first step that is refused
abbrev pub steps_verdict : Beginnings → List Step → Status → Option (List Step × Status) → Verdict
steps_verdict b steps answer (Some cut) =
    record { status = cut.1; output = said_with (firsts_of b) cut.0 cut.1; files = λ family. None }
steps_verdict b steps answer None = record {
  status = answer;
  output = said_with (firsts_of b) steps answer;
  files = λ family. files_of (kind_of family) (course (kind_of family) (b family) (jobs_of family steps));
}

-- of a script, by what refuses the opening of a journal
abbrev pub opening_verdict : Beginnings → List ℕ → Option Status → Verdict
opening_verdict b text (Some answer) = alone answer
opening_verdict b text None =
    let steps = steps_of (firsts_of b) text in
    steps_verdict b steps (answer_to (firsts_of b) text) (first_refused b [] steps)

abbrev pub script_verdict : Beginnings → List ℕ → Verdict
script_verdict b text = opening_verdict b text (end_of b [])

-- a script that is read has no more bytes than the words allow
abbrev pub origin_verdict : Origin → Beginnings → List ℕ → Verdict
origin_verdict (ReadScript most) b text =
    if nat_lt most (length text) then alone (TooLong Script (most + 1)) else script_verdict b text
origin_verdict (Generated x count) b text = script_verdict b (generated x count)

-- the beginnings of both families under the options of the words
abbrev pub under : Options → Beginnings → Beginnings
under options b family = record (b family) { options = options }

-- by what the words ask for, where this is the text of the source
abbrev pub verdict : Option Asked → Beginnings → List ℕ → Verdict
verdict None b text = alone Usage
verdict (Some asked) b text = origin_verdict asked.origin (under asked.options b) text

-- One file stands, safe, with these bytes, beside foreign ones, and so many files were made.
pub record HasFile (files : Files) (entry exit : Moment) : Type 0 where
  pub stamp : ℕ
  pub file : exit.standing stamp ≡ Some (safe_file files.bytes)
  pub others : (s : ℕ) (other : Standing) → s ≢ stamp → exit.standing s ≡ Some other →
      is_foreign other.bytes ≡ true
  pub made : exit.creates ≡ entry.creates + files.creations

-- Status and output are those of a verdict, and at an answer to the whole script so are the files.
pub record IsAs (v : Verdict) (found : Found) (written printed : Option (List ℕ)) (status : Status) : Type 0 where
  pub status_is : status ≡ v.status
  pub output_is : Writes written printed (λ said. said ≡ v.output)
  pub files_are : IsDone status → (family : Family) → (files : Files) × (v.files family ≡ Some files)
      × HasFile files (found.entry family).history.now (found.exit family).history.now

-- nothing failed: neither source nor sink, which fail so, nor a disk, nor memory
pub record NothingFails (found : Found) (read write : Type 0) (status : Status) : Type 0 where
  pub reads : read → ⊥
  pub writes : write → ⊥
  pub disks : (family : Family) → Rose (found.entry family).failures (found.exit family).failures → ⊥
  pub memory : status ≢ Memory

-- On modelled disks that are ready, with a modelled source: where nothing failed, the run comes to the verdict.
abbrev pub IsAsVerdict : Found → Type 0 → Type 0 → Option (List ℕ) → Option (List ℕ) → Status → Type 0
IsAsVerdict found read write written printed status =
    found.modelled → (b : Beginnings) →
    ((family : Family) → Begins (kind_of family) (found.entry family).history (b family)) →
    NothingFails found read write status →
    IfSome found.text (λ text. IsAs (verdict (order_of found.words) b text) found written printed status)
