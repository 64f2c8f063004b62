-- A run in which nothing failed comes to its verdict: by its cause, by what it said, and by what stands on its disks.
use Rattle.std.proofs.Common.{◌≡◌, ◌⊎◌, ℕ, ◌+◌, ◌<◌, Bool, true, false, if◌then◌else◌, nat_lt, List, [], ◌∷◌, ◌++◌, length, Option, None, Some, IfSome, refl, sym, ap, ◌∙◌, subst, inl, inr, arith}
use Rattle.std.proofs.Math.Path.{fun_ext}
use Rattle.std.proofs.lemmas.Bool.Decides.{nat_tests}
use Rattle.session_disk.specs.Histories.{History}
use Rattle.session_disk.specs.declared.family.Family.{Family}
use Rattle.fresh_files.specs.Fresh.{fresh, frames}
use Rattle.script_lines.specs.Generated.{generated}
use Rattle.writer_core.specs.Working.{Begins, HoldsCommands, course}
use Rattle.run_words.specs.declared.order.Origin.{Origin}
use Rattle.run_words.specs.declared.order.Origin.TheVariants.{Script as ReadScript, Generated}
use Rattle.run_words.specs.declared.status.Status.{Status}
use Rattle.run_words.specs.declared.status.Status.TheVariants.{Done, Usage, Refused, LastStamp, Disk, Read, Write, TooLong, Memory}
use Rattle.run_words.specs.declared.status.Long.TheVariants.{Script, File}
use Rattle.run_words.specs.Outcome.{last_line, start_line}
use Rattle.run_words.specs.Words.{Asked, order_of}
use Rattle.script_run.specs.Counts.{counts_of}
use Rattle.script_run.specs.Families.{Firsts, kind_of}
use Rattle.script_run.specs.Runs.{Writes}
use Rattle.script_run.specs.Script.{steps_of}
use Rattle.script_run.specs.Steps.{Step, Handle, items_of, jobs_of, said_by}
use Rattle.script_run.specs.Verdict.{Beginnings, end_of, firsts_of}
use Rattle.session_drive.specs.Causes.{HasCause}
use Rattle.session_drive.specs.Run.{Found, BeginsAt, EndsBehind, HoldsScript, IsAtOpening, IsCutBy, IsDone, IsSaid, IsShort, IsToRead, NoneEnds, SaysCut, SaysRun, Started, WhereBegun, WhereKnown, answer_to, causes, script_by, script_from, script_of, whole}
use Rattle.session_drive.specs.Verdict.{Files, HasFile, IsAs, IsAsVerdict, NothingFails, Verdict, alone, files_of, first_refused, opening_verdict, origin_verdict, said_with, script_verdict, steps_verdict, under, verdict}
use Rattle.session_drive.proofs.FirstRefusedLaws.{end_stays, goes_before, none_refused, refused_at, some_refused}
use Rattle.session_drive.proofs.OutputLaws.{writes_weaken}

-- what holds of a text that is known
known_at : (P : List ℕ → Type 0) (known : Option (List ℕ)) (text : List ℕ) → known ≡ Some text → IfSome known P → P text
known_at P known text is h = let here : IfSome (Some text) P = subst (λ (o : Option (List ℕ)). IfSome o P) is h in here

where_text : (P : List ℕ → Type 0) (known : Option (List ℕ)) → ((text : List ℕ) → known ≡ Some text → P text) → IfSome known P
where_text P None h = tt
where_text P (Some text) h = h text refl

-- the script beside the text of the source
abbrev script_in : Origin → List ℕ → List ℕ
script_in (ReadScript most) text = text
script_in (Generated x count) text = generated x count

script_known : (origin : Origin) (text : List ℕ) → script_by (Some text) origin ≡ Some (script_in origin text)
script_known (ReadScript most) text = refl
script_known (Generated x count) text = refl

-- a script that isn't too long
short_verdict : (origin : Origin) (b : Beginnings) (text : List ℕ) → ((most : ℕ) → origin ≡ ReadScript most → length text < most + 1) → origin_verdict origin b text ≡ script_verdict b (script_in origin text)
short_verdict (ReadScript most) b text short =
    let within : nat_lt most (length text) ≡ false = let here = short most refl in grind (arith, nat_tests) in
    ap (λ (t : Bool). if t then alone (TooLong Script (most + 1)) else script_verdict b text) within
short_verdict (Generated x count) b text short = refl

long_origin : (origin : Origin) (b : Beginnings) (text : List ℕ) (most : ℕ) → origin ≡ ReadScript most → most < length text → origin_verdict origin b text ≡ alone (TooLong Script (most + 1))
long_origin origin b text most is long =
    let over : nat_lt most (length text) ≡ true = grind (arith, nat_tests) in
    ap (λ (o : Origin). origin_verdict o b text) is ∙ ap (λ (t : Bool). if t then alone (TooLong Script (most + 1)) else script_verdict b text) over

long_verdict : (asked : Option Asked) (b : Beginnings) (text : List ℕ) (most : ℕ) → IsToRead most asked → most < length text → verdict asked b text ≡ alone (TooLong Script (most + 1))
long_verdict None b text most is long = absurd is
long_verdict (Some asked) b text most is long = long_origin asked.origin (under asked.options b) text most is long

-- a sink that didn't fail took all
said_whole : (failed : Type 0) (all said : List ℕ) → (failed → ⊥) → IsSaid failed all said → said ≡ all
said_whole failed all said not (inl is) = is
said_whole failed all said not (inr cut) = absurd (not cut.0)

module _ (found : Found) (written printed : Option (List ℕ)) where
  -- an answer without files
  as_answer : (v : Verdict) (answer : Status) (said : List ℕ) → (IsDone answer → ⊥) → v ≡ record { status = answer; output = said; files = λ family. None } → Writes written printed (λ all. all ≡ said) → IsAs v found written printed answer
  as_answer v answer said not e says = subst (λ (x : Verdict). IsAs x found written printed answer) (sym e) (record {
    status_is = refl;
    output_is = says;
    files_are = λ done. absurd (not done);
  })

  module _ (text : List ℕ) (text_is : found.text ≡ Some text) (modelled : found.modelled) (b : Beginnings)
      (begins : (family : Family) → Begins (kind_of family) (found.entry family).history (b family))
      (asked : Asked) (is : order_of found.words ≡ Some asked) where
    abbrev begun : Beginnings
    begun = under asked.options b

    abbrev script : List ℕ
    script = script_in asked.origin text

    abbrev steps : List Step
    steps = steps_of (firsts_of begun) script

    begins_at : (family : Family) → BeginsAt found family (begun family)
    begins_at family = record {
      asked = asked;
      is = is;
      options = refl;
      begins = record { ready = (begins family).ready; entry_is = (begins family).entry_is; newest = (begins family).newest };
    }

    script_is : script_of found ≡ Some script
    script_is = ap (λ (t : Option (List ℕ)). script_from t (order_of found.words)) text_is ∙ ap (script_from (Some text)) is ∙ script_known asked.origin text

    where_known : (P : Beginnings → List ℕ → Type 0) → WhereKnown found P → P begun script
    where_known P h = known_at (P begun) (script_of found) script script_is (h modelled begun begins_at)

    -- what a run began with
    firsts_are : (run : Started found) → run.firsts ≡ firsts_of begun
    firsts_are run = fun_ext (λ family. sym (run.recovered family modelled (begun family).first (begins family).ready))

    text_are : (run : Started found) → run.text ≡ script
    text_are run = known_at (λ all. run.text ≡ all) (script_of found) script script_is run.known

    verdict_is : IsShort text (Some asked) → verdict (order_of found.words) b text ≡ script_verdict begun script
    verdict_is short = ap (λ (o : Option Asked). verdict o b text) is ∙ short_verdict asked.origin begun text short

    -- the whole script was done

    whole_verdict : NoneEnds found → script_verdict begun script ≡ steps_verdict begun steps (answer_to (firsts_of begun) script) None
    whole_verdict none =
        let goes = where_known (λ c all. end_of c (items_of (steps_of (firsts_of c) all)) ≡ None) none in
        ap (opening_verdict begun script) (goes_before begun [] steps goes)
        ∙ ap (steps_verdict begun steps (answer_to (firsts_of begun) script)) (none_refused begun [] steps goes)

    run_text : (run : Started found) (P : Firsts → List ℕ → Type 0) → P run.firsts run.text → P (firsts_of begun) script
    run_text run P h = subst (λ (firsts : Firsts). P firsts script) (firsts_are run) (subst (P run.firsts) (text_are run) h)

    as_whole : (answer : Status) → IsShort text (Some asked) → (run : Started found) → answer ≡ answer_to run.firsts run.text → NoneEnds found → Writes written printed (λ said. (run : Started found) × (said ≡ whole run answer)) →
        WhereKnown found (λ c all. (family : Family) → HoldsCommands (kind_of family) (c family) (found.exit family).history (jobs_of family (steps_of (firsts_of c) all))) →
        IsAs (verdict (order_of found.words) b text) found written printed answer
    as_whole answer short run answers none says holds =
        let same = run_text run (λ firsts all. answer ≡ answer_to firsts all) answers in
        let stand = where_known (λ c all. (family : Family) → HoldsCommands (kind_of family) (c family) (found.exit family).history (jobs_of family (steps_of (firsts_of c) all))) holds in
        subst (λ (v : Verdict). IsAs v found written printed answer) (sym (verdict_is short ∙ whole_verdict none)) (record {
          status_is = same;
          output_is = writes_weaken written printed (λ said. (run : Started found) × (said ≡ whole run answer)) (λ said. said ≡ said_with (firsts_of begun) steps (answer_to (firsts_of begun) script))
              (λ said (here, e). subst (λ (s : Status). said ≡ said_with (firsts_of begun) steps s) same (run_text here (λ firsts all. said ≡ said_with firsts (steps_of firsts all) answer) e)) says;
          files_are = λ done family. file_of family (stand family);
        })
      where
        file_of : (family : Family) → HoldsCommands (kind_of family) (begun family) (found.exit family).history (jobs_of family steps) →
            (files : Files) × (files_of (kind_of family) (course (kind_of family) (begun family) (jobs_of family steps)) ≡ Some files) × HasFile files (found.entry family).history.now (found.exit family).history.now
        file_of family h = (
          record { bytes = fresh (kind_of family) h.account.base ++ frames (kind_of family) h.account.kept; creations = h.account.made },
          ap (files_of (kind_of family)) h.is,
          record {
            stamp = h.stamp;
            file = h.file;
            others = h.others;
            made = h.made ∙ ap (λ (entry : History). entry.now.creates + h.account.made) (begins family).entry_is;
          },
        )

    -- the accounts ended the run

    opening_answer : (answer : Status) → end_of begun [] ≡ Some answer → script_verdict begun script ≡ alone answer
    opening_answer answer e = ap (opening_verdict begun script) e

    cut_answer : (done : List Step) (answer : Status) → end_of begun [] ≡ None → first_refused begun [] steps ≡ Some (done, answer) →
        script_verdict begun script ≡ record { status = answer; output = said_with (firsts_of begun) done answer; files = λ family. None }
    cut_answer done answer opened e = ap (opening_verdict begun script) opened ∙ ap (steps_verdict begun steps (answer_to (firsts_of begun) script)) e

    -- whatever was said
    ended_verdict : (answer : Status) (opening : Option Status) → end_of begun [] ≡ opening → end_of begun (items_of steps) ≡ Some answer →
        (said : List ℕ) × (script_verdict begun script ≡ record { status = answer; output = said; files = λ family. None })
    ended_verdict answer None opened ends =
        let cut = some_refused begun [] steps answer opened ends in (said_with (firsts_of begun) cut.0 answer, cut_answer cut.0 answer opened cut.1)
    ended_verdict answer (Some other) opened ends =
        let stays = end_stays begun [] steps other opened in
        let same : other ≡ answer = cc in
        (last_line answer, opening_answer answer (opened ∙ ap Some same))

    cut_verdict : (answer : Status) (run : Started found) (done left : List Step) → done ++ left ≡ steps_of run.firsts run.text → EndsBehind found done left answer →
        script_verdict begun script ≡ record { status = answer; output = said_with (firsts_of begun) done answer; files = λ family. None }
    cut_verdict answer run done left parts ends =
        let cut = ends modelled begun begins_at in
        let all : steps ≡ done ++ Handle cut.0 ∷ cut.1 = sym (run_text run (λ firsts all. done ++ left ≡ steps_of firsts all) parts) ∙ ap (λ (l : List Step). done ++ l) cut.2 in
        cut_answer done answer (goes_before begun [] done cut.3) (ap (first_refused begun []) all ∙ refused_at begun [] done (Handle cut.0) cut.1 answer cut.3 cut.4)

    module _ (write : Type 0) (answer : Status) (not : write → ⊥) (undone : IsDone answer → ⊥) (opening : IsAtOpening found answer → WhereBegun found (λ c. end_of c [] ≡ Some answer))
        (cutting : (done left : List Step) → IsCutBy found done left answer → EndsBehind found done left answer)
        (ends : WhereKnown found (λ c all. end_of c (items_of (steps_of (firsts_of c) all)) ≡ Some answer)) where
      abbrev SaysEnded : List ℕ → Type 0
      SaysEnded said = (IsAtOpening found answer × IsSaid write (last_line answer) said) ⊎ SaysCut found (IsSaid write (last_line answer)) answer said

      cut_said : (all : List ℕ) (c : SaysCut found (IsSaid write (last_line answer)) answer all) → all ≡ said_with (firsts_of begun) c.done answer
      cut_said all c =
          let here : all ≡ start_line (counts_of c.run.firsts) ++ (said_by c.done ++ last_line answer) =
          c.is ∙ ap (λ (more : List ℕ). start_line (counts_of c.run.firsts) ++ (said_by c.done ++ more)) (said_whole write (last_line answer) c.more not c.says_more) in
          run_text c.run (λ firsts script. all ≡ said_with firsts c.done answer) here

      ended_said : (old new : Option (List ℕ)) → Writes old new SaysEnded →
          (said : List ℕ) × (script_verdict begun script ≡ record { status = answer; output = said; files = λ family. None }) × Writes old new (λ all. all ≡ said)
      ended_said None new h = let v = ended_verdict answer (end_of begun []) refl (where_known (λ c all. end_of c (items_of (steps_of (firsts_of c) all)) ≡ Some answer) ends) in (v.0, v.1, h)
      ended_said (Some before) new (all, is, inl (refused, says)) =
          (last_line answer, opening_answer answer (opening refused modelled begun begins_at), (all, is, said_whole write (last_line answer) all not says))
      ended_said (Some before) new (all, is, inr c) =
          (said_with (firsts_of begun) c.done answer, cut_verdict answer c.run c.done c.left c.parts (cutting c.done c.left c.cut), (all, is, cut_said all c))

      as_ended : IsShort text (Some asked) → Writes written printed SaysEnded → IsAs (verdict (order_of found.words) b text) found written printed answer
      as_ended short says =
          let v = ended_said written printed says in as_answer (verdict (order_of found.words) b text) answer v.0 undone (verdict_is short ∙ v.1) v.2

  module _ (text : List ℕ) (text_is : found.text ≡ Some text) (modelled : found.modelled) (b : Beginnings)
      (begins : (family : Family) → Begins (kind_of family) (found.entry family).history (b family)) where
    -- the script of a run that got as far as its first line isn't too long
    run_short : (run : Started found) → IsShort text (Some run.asked)
    run_short run most to_read = subst (λ (t : List ℕ). length t < most + 1)
        (text_are text text_is modelled b begins run.asked run.is run ∙ ap (λ (o : Origin). script_in o text) to_read) (run.short most to_read)

    as_answered : (answer : Status) → IsDone answer → (run : Started found) × (answer ≡ answer_to run.firsts run.text) × NoneEnds found → Writes written printed (λ said. (run : Started found) × (said ≡ whole run answer)) → HoldsScript found answer →
        IsAs (verdict (order_of found.words) b text) found written printed answer
    as_answered answer done (run, answers, none) says holds = as_whole text text_is modelled b begins run.asked run.is answer (run_short run) run answers none says (holds done)

    short_text : (asked : Asked) → IfSome found.text (λ all. IsShort all (Some asked)) → IsShort text (Some asked)
    short_text asked short = known_at (λ all. IsShort all (Some asked)) found.text text text_is short

    as_cause : (read write : Type 0) (status : Status) → HasCause (causes found read write) status → Writes written printed (SaysRun found write status) → HoldsScript found status → NothingFails found read write status →
        IsAs (verdict (order_of found.words) b text) found written printed status
    as_cause read write (Done s t) cause says holds none = as_answered (Done s t) tt cause says holds
    as_cause read write (Refused l w) cause says holds none = as_answered (Refused l w) tt cause says holds
    as_cause read write Usage cause says holds none =
        as_answer (verdict (order_of found.words) b text) Usage (last_line Usage) (λ done. done) (ap (λ (o : Option Asked). verdict o b text) cause) says
    as_cause read write (TooLong Script needed) (most, to_read, is, over) says holds none =
        as_answer (verdict (order_of found.words) b text) (TooLong Script needed) (last_line (TooLong Script needed)) (λ done. done)
        (long_verdict (order_of found.words) b text most to_read (known_at (λ all. most < length all) found.text text text_is over) ∙ ap (λ (n : ℕ). alone (TooLong Script n)) (sym is))
        (writes_weaken written printed (IsSaid write (last_line (TooLong Script needed))) (λ said. said ≡ last_line (TooLong Script needed)) (λ said h. said_whole write (last_line (TooLong Script needed)) said none.writes h) says)
    as_cause read write (TooLong (File f) needed) (over, e) says holds none =
        as_ended text text_is modelled b begins e.asked e.is write (TooLong (File f) needed) none.writes (λ done. done) (λ h. h) (λ done left h. h) e.ends (short_text e.asked e.short) says
    as_cause read write (LastStamp f stamp) (last, e) says holds none =
        as_ended text text_is modelled b begins e.asked e.is write (LastStamp f stamp) none.writes (λ done. done) (λ h. h) (λ done left h. h) e.ends (short_text e.asked e.short) says
    as_cause read write (Disk f) cause says holds none = absurd (none.disks f cause)
    as_cause read write Read cause says holds none = absurd (none.reads cause)
    as_cause read write Write cause says holds none = absurd (none.writes cause)
    as_cause read write Memory cause says holds none = absurd (none.memory refl)

  pub as_verdict : (read write : Type 0) (status : Status) → HasCause (causes found read write) status → Writes written printed (SaysRun found write status) → HoldsScript found status → IsAsVerdict found read write written printed status
  as_verdict read write status cause says holds modelled b begins none =
      where_text (λ text. IsAs (verdict (order_of found.words) b text) found written printed status) found.text
      (λ text text_is. as_cause text text_is modelled b begins read write status cause says holds none)
