-- What a run finds, why it answers as it does, what it prints and what it leaves.
use Rattle.std.specs.Prelude.{◌≡◌, ◌⊎◌, ℕ, ◌+◌, ◌-◌, ◌<◌, ◌^◌, List, [], ◌∷◌, ◌++◌, length, Option, None, Some, IfSome}
use Rattle.session_disk.specs.Causes.{Rose}
use Rattle.session_disk.specs.Histories.{Leaves}
use Rattle.session_disk.specs.declared.family.Family.{Family}
use Rattle.session_disk.specs.declared.family.Family.TheVariants.{Session, Tabs}
use Rattle.log_writer.specs.Journals.{IsReady}
use Rattle.log_writer.specs.Log.{IsLeft}
use Rattle.log_writer.specs.Opening.{Seen}
use Rattle.script_lines.specs.Generated.{generated}
use Rattle.writer_core.specs.Working.{Beginning, Begins, HoldsCommands, IsOpened}
use Rattle.run_words.specs.declared.order.Origin.{Origin}
use Rattle.run_words.specs.declared.order.Origin.TheVariants.{Script as ReadScript, Generated}
use Rattle.run_words.specs.declared.why.Why.{Why}
use Rattle.run_words.specs.declared.status.Status.{Status}
use Rattle.run_words.specs.declared.status.Status.TheVariants.{Done, Usage, Refused, LastStamp, Read, Write, TooLong}
use Rattle.run_words.specs.declared.status.Long.TheVariants.{Script, File}
use Rattle.run_words.specs.Outcome.{IsPrefix, last_line, start_line}
use Rattle.run_words.specs.Words.{Asked, order_of}
use Rattle.script_run.specs.Families.{StateOf, Firsts, RunItem, kind_of}
use Rattle.script_run.specs.Runs.{ShowsPicture}
use Rattle.script_run.specs.Steps.{Step, Handle, issued_to, items_of, jobs_of, said_by}
use Rattle.script_run.specs.Script.{course_of, steps_of}
use Rattle.script_run.specs.Verdict.{Beginnings, end_of, firsts_of}
use Rattle.session_drive.specs.Causes.{Causes}
use Rattle.script_run.specs.Counts.{counts_of}

-- the words; the text of the source, where it is modelled; whether the disks are modelled, and what is seen of each at
-- entry and at the end
pub record Found : Type 1 where
  pub words : List (List ℕ)
  pub text : Option (List ℕ)
  pub modelled : Type 0
  pub entry : Family → Seen
  pub exit : Family → Seen

abbrev pub found : List (List ℕ) → Option (List ℕ) → Type 0 → (Family → Seen) → (Family → Seen) → Found
found words text modelled entry exit =
    record { words = words; text = text; modelled = modelled; entry = entry; exit = exit }

-- the script, where it is known: what the source has, or what is generated
abbrev pub script_by : Option (List ℕ) → Origin → Option (List ℕ)
script_by text (ReadScript most) = text
script_by text (Generated x count) = Some (generated x count)

abbrev pub script_from : Option (List ℕ) → Option Asked → Option (List ℕ)
script_from text None = None
script_from text (Some asked) = script_by text asked.origin

abbrev pub script_of : Found → Option (List ℕ)
script_of found = script_from found.text (order_of found.words)

-- the words ask for a script that is read, of at most so many bytes
abbrev pub IsToRead : ℕ → Option Asked → Type 0
IsToRead most None = ⊥
IsToRead most (Some asked) = asked.origin ≡ ReadScript most

-- a script isn't longer than the words allow
abbrev pub IsShort : List ℕ → Option Asked → Type 0
IsShort text asked = (most : ℕ) → IsToRead most asked → length text < most + 1

-- where a family's run begins: with the options of the words, over a disk that is ready
pub record BeginsAt (found : Found) (family : Family) (b : Beginning (StateOf family)) : Type 0 where
  pub asked : Asked
  pub is : order_of found.words ≡ Some asked
  pub options : b.options ≡ asked.options
  pub begins : Begins (kind_of family) (found.entry family).history b

-- on modelled disks, wherever the runs of both families begin
abbrev pub WhereBegun : Found → (Beginnings → Type 0) → Type 0
WhereBegun found P = found.modelled → (b : Beginnings) → ((family : Family) → BeginsAt found family (b family)) → P b

-- and with the script, where it is known
abbrev pub WhereKnown : Found → (Beginnings → List ℕ → Type 0) → Type 0
WhereKnown found P = WhereBegun found (λ b. IfSome (script_of found) (P b))

-- A run that got as far as its first line: the states that were recovered, which are those to which the disks' files
-- read, and the script.
pub record Started (found : Found) : Type 0 where
  pub firsts : Firsts
  pub recovered : (family : Family) → found.modelled → (first : StateOf family) →
      IsReady (kind_of family) (found.entry family).history.now first → first ≡ firsts family
  pub opened : (family : Family) → found.modelled → (b : Beginning (StateOf family)) → BeginsAt found family b →
      IsOpened (kind_of family) b
  pub text : List ℕ
  pub asked : Asked
  pub is : order_of found.words ≡ Some asked
  pub short : IsShort text (Some asked)
  pub known : IfSome (script_of found) (λ script. text ≡ script)

-- the answer where nothing fails: a line is refused, or how many commands were issued
abbrev pub answer_of : Option (ℕ × Why) → ℕ → ℕ → Status
answer_of None session tabs = Done session tabs
answer_of (Some refused) session tabs = Refused refused.0 refused.1

abbrev pub answer_to : Firsts → List ℕ → Status
answer_to firsts text =
    let steps = steps_of firsts text in
    answer_of (course_of firsts text).refused (length (issued_to Session steps)) (length (issued_to Tabs steps))

-- no item of the run ends it
abbrev pub NoneEnds : Found → Type 0
NoneEnds found = WhereKnown found (λ b text. end_of b (items_of (steps_of (firsts_of b) text)) ≡ None)

-- the words ask for a run, its script isn't longer than they allow, and the first item that the accounts of both
-- families refuse ends it with this answer
pub record EndsFirst (found : Found) (answer : Status) : Type 0 where
  pub asked : Asked
  pub is : order_of found.words ≡ Some asked
  pub short : IfSome found.text (λ text. IsShort text (Some asked))
  pub ends : WhereKnown found (λ b text. end_of b (items_of (steps_of (firsts_of b) text)) ≡ Some answer)

-- a file would have more bytes than the words allow
abbrev pub IsOver : Option Asked → ℕ → Type 0
IsOver None needed = ⊥
IsOver (Some asked) needed = asked.options.max_file < needed

-- when each answer comes, where the source and the sink fail so
abbrev pub causes : Found → Type 0 → Type 0 → Causes
causes found read write = record {
  usage = order_of found.words ≡ None;
  read = read;
  write = write;
  long_script = λ needed. (most : ℕ) × IsToRead most (order_of found.words) × (needed ≡ most + 1)
      × IfSome found.text (λ text. most < length text);
  answered = λ answer. (run : Started found) × (answer ≡ answer_to run.firsts run.text) × NoneEnds found;
  disk = λ family. Rose (found.entry family).failures (found.exit family).failures;
  long_file = λ family needed. IsOver (order_of found.words) needed × EndsFirst found (TooLong (File family) needed);
  last_stamp = λ family stamp. (stamp ≡ 2 ^ 63 - 1) × EndsFirst found (LastStamp family stamp);
}

-- all of it, or where the sink failed some prefix of it
abbrev pub IsSaid : Type 0 → List ℕ → List ℕ → Type 0
IsSaid failed all said = (said ≡ all) ⊎ (failed × IsPrefix said all)

-- all that is said of a script in which nothing fails, with the last line of an answer
abbrev pub whole : {found : Found} → Started found → Status → List ℕ
whole run answer = start_line (counts_of run.firsts) ++ (said_by (steps_of run.firsts run.text) ++ last_line answer)

-- these steps were done, and the next one ends the run with this answer, by the accounts
abbrev pub EndsBehind : Found → List Step → List Step → Status → Type 0
EndsBehind found done left answer = WhereBegun found (λ b.
    (item : RunItem) × (rest : List Step) × (left ≡ Handle item ∷ rest) × (end_of b (items_of done) ≡ None)
    × (end_of b (items_of (done ++ Handle item ∷ [])) ≡ Some answer))

-- where the steps were cut that a fault left undone
abbrev pub IsCutBy : Found → List Step → List Step → Status → Type 0
IsCutBy found done left (TooLong what needed) = EndsBehind found done left (TooLong what needed)
IsCutBy found done left (LastStamp family stamp) = EndsBehind found done left (LastStamp family stamp)
IsCutBy found done left answer = Unit {0}

-- what a fault at the opening of a journal comes of, by the accounts
abbrev pub IsAtOpening : Found → Status → Type 0
IsAtOpening found (TooLong what needed) = WhereBegun found (λ b. end_of b [] ≡ Some (TooLong what needed))
IsAtOpening found (LastStamp family stamp) = WhereBegun found (λ b. end_of b [] ≡ Some (LastStamp family stamp))
IsAtOpening found answer = Unit {0}

-- what was said of a run that a fault ended behind its first line: the lines of what was done, and this
pub record SaysCut (found : Found) (says : List ℕ → Type 0) (answer : Status) (said : List ℕ) : Type 0 where
  pub run : Started found
  pub done : List Step
  pub left : List Step
  pub parts : done ++ left ≡ steps_of run.firsts run.text
  pub cut : IsCutBy found done left answer
  pub more : List ℕ
  pub says_more : says more
  pub is : said ≡ start_line (counts_of run.firsts) ++ (said_by done ++ more)

-- what a run that answers so has said by its end, where the sink has failed so
abbrev pub SaysRun : Found → Type 0 → Status → List ℕ → Type 0
SaysRun found failed (Done session tabs) said = (run : Started found) × (said ≡ whole run (Done session tabs))
SaysRun found failed (Refused line why) said = (run : Started found) × (said ≡ whole run (Refused line why))
SaysRun found failed Usage said = said ≡ last_line Usage
SaysRun found failed Write said =
    ((order_of found.words ≡ None) × IsPrefix said (last_line Usage))
    ⊎ ((run : Started found) × IsPrefix said (whole run (answer_to run.firsts run.text)))
SaysRun found failed Read said = IsSaid failed (last_line Read) said
SaysRun found failed (TooLong Script needed) said = IsSaid failed (last_line (TooLong Script needed)) said
SaysRun found failed fault said =
    (IsAtOpening found fault × IsSaid failed (last_line fault) said)
    ⊎ SaysCut found (IsSaid failed (last_line fault)) fault said

-- the answers at which all commands are told
abbrev pub IsDone : Status → Type 0
IsDone (Done session tabs) = Unit {0}
IsDone (Refused line why) = Unit {0}
IsDone status = ⊥

-- answers that come before a disk is called at all
abbrev pub CallsNoDisk : Status → Type 0
CallsNoDisk Usage = Unit {0}
CallsNoDisk Read = Unit {0}
CallsNoDisk (TooLong Script needed) = Unit {0}
CallsNoDisk status = ⊥

-- a family's journal was opened, as its account says
abbrev pub Opened : Found → Family → Type 0
Opened found family = found.modelled → (b : Beginning (StateOf family)) → BeginsAt found family b →
    IsOpened (kind_of family) b

-- at an answer to the whole script each disk holds its family's commands
abbrev pub HoldsScript : Found → Status → Type 0
HoldsScript found status = IsDone status → WhereKnown found (λ b text. (family : Family) →
    HoldsCommands (kind_of family) (b family) (found.exit family).history
    (jobs_of family (steps_of (firsts_of b) text)))

-- and both states show the picture of the browser
abbrev pub ShowsScript : Found → Status → Type 0
ShowsScript found status = IsDone status → WhereKnown found (λ b text. ShowsPicture (firsts_of b) text)

-- a crash at any moment leaves what is good for each family's commands, and every foreign file
abbrev pub LeavesScript : Found → Type 0
LeavesScript found = found.modelled → (firsts : Firsts) →
    ((family : Family) → IsReady (kind_of family) (found.entry family).history.now (firsts family)) →
    IfSome (script_of found) (λ text. (family : Family) →
    Leaves (found.entry family).history (found.exit family).history
    (IsLeft (kind_of family) (found.entry family).history.now (firsts family)
    (issued_to family (steps_of firsts text))))

-- a script isn't read where it is generated
abbrev pub IsGenerated : Origin → Type 0
IsGenerated (ReadScript most) = ⊥
IsGenerated (Generated x count) = Unit {0}

-- the script isn't read: the words aren't in the grammar, or ask for one that is generated
abbrev pub ReadsNone : Option Asked → Type 0
ReadsNone None = Unit {0}
ReadsNone (Some asked) = IsGenerated asked.origin
