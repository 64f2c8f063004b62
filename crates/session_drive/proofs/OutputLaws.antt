-- What is said before the last line and the last line together, whole or cut short by a failing sink.
use Rattle.std.proofs.Common.{◌≡◌, ◌⊎◌, ℕ, ◌+◌, ◌≤◌, List, [], ◌++◌, length, Option, Some, None, refl, sym, ap, ◌∙◌, subst, inl, inr, append_assoc, arith}
use Rattle.std.proofs.Math.Seq.{take-append-add}
use Rattle.std.proofs.lemmas.List.{append-nil, length-append, take-append-le, take_all}
use Rattle.session_disk.specs.Causes.{Rose}
use Rattle.session_disk.specs.declared.family.Family.{Family}
use Rattle.log_writer.specs.declared.fault.JournalFault.{JournalFault}
use Rattle.log_writer.specs.declared.fault.JournalFault.TheVariants as fault
use Rattle.run_words.specs.declared.status.Status.{Status}
use Rattle.run_words.specs.declared.status.Status.TheVariants.{Done, Usage, Refused, LastStamp, Disk, Read, Write, TooLong, Memory}
use Rattle.run_words.specs.declared.status.Long.TheVariants.{Script, File}
use Rattle.run_words.specs.Outcome.{IsPrefix, last_line, start_line, unsaid}
use Rattle.script_run.specs.Counts.{counts_of}
use Rattle.script_run.specs.Runs.{Writes}
use Rattle.script_run.specs.Script.{steps_of}
use Rattle.script_run.specs.Steps.{said_by}
use Rattle.session_drive.specs.Answers.{status_of}
use Rattle.session_drive.specs.Attempt.{SaysFirst, SaysScript, said_of}
use Rattle.session_drive.specs.Causes.{HasCause}
use Rattle.session_drive.specs.Closing.{WritesLine}
use Rattle.session_drive.specs.Reading.{read_causes}
use Rattle.session_drive.specs.Run.{Found, IsAtOpening, IsDone, IsSaid, SaysCut, SaysRun, Started, answer_to, causes, whole}
use Rattle.run_words.specs.Words.{Asked}

prefix_of_first : (said all more : List ℕ) → IsPrefix said all → IsPrefix said (all ++ more)
prefix_of_first said all more (n, within, e) =
    (n, omega (arith, length-append all more), e ∙ sym (take-append-le n all more within))

prefix_behind : (first said all : List ℕ) → IsPrefix said all → IsPrefix (first ++ said) (first ++ all)
prefix_behind first said all (n, within, e) =
    (length first + n, omega (arith, length-append first all), ap (λ (x : List ℕ). first ++ x) e ∙ sym (take-append-add first all n))

pub writes_weaken : (old new : Option (List ℕ)) (P Q : List ℕ → Type 0) → ((said : List ℕ) → P said → Q said) → Writes old new P → Writes old new Q
writes_weaken None new P Q f h = h
writes_weaken (Some before) new P Q f (said, is, says) = (said, is, f said says)

module _ (found : Found) (failed : Type 0) where
  -- behind the lines of all steps stands the last one
  joined : (run : Started found) (answer : Status) → said_of run ++ last_line answer ≡ whole run answer
  joined run answer = append_assoc (start_line (counts_of run.firsts)) (said_by (steps_of run.firsts run.text)) (last_line answer)

  cut_joined : (fault : Status) (first said : List ℕ) → SaysCut found (λ more. more ≡ []) fault first → IsSaid failed (last_line fault) said → SaysCut found (IsSaid failed (last_line fault)) fault (first ++ said)
  cut_joined fault first said c says = record {
    run = c.run;
    done = c.done;
    left = c.left;
    parts = c.parts;
    cut = c.cut;
    more = said;
    says_more = says;
    is = let start = start_line (counts_of c.run.firsts) in
        ap (λ (x : List ℕ). x ++ said) (c.is ∙ ap (λ (x : List ℕ). start ++ (said_by c.done ++ x)) c.says_more ∙ ap (λ (x : List ℕ). start ++ x) (append-nil (said_by c.done)))
        ∙ append_assoc start (said_by c.done) said;
  }

  fault_joined : (fault : Status) (first said : List ℕ) → IsSaid failed (last_line fault) said → (IsAtOpening found fault × (first ≡ [])) ⊎ SaysCut found (λ more. more ≡ []) fault first →
      (IsAtOpening found fault × IsSaid failed (last_line fault) (first ++ said)) ⊎ SaysCut found (IsSaid failed (last_line fault)) fault (first ++ said)
  fault_joined fault first said says (inl opening) =
      inl (opening.0, subst (IsSaid failed (last_line fault)) (ap (λ (x : List ℕ). x ++ said) (sym opening.1)) says)
  fault_joined fault first said says (inr cut) = inr (cut_joined fault first said cut says)

  script_whole : (answer : Status) (first : List ℕ) → SaysScript found answer first → (run : Started found) × (first ++ last_line answer ≡ whole run answer)
  script_whole answer first (run, is, e) = (run, ap (λ (x : List ℕ). x ++ last_line answer) e ∙ joined run answer)

  script_cut : (answer : Status) (first said : List ℕ) → SaysScript found answer first → IsPrefix said (last_line answer) → (run : Started found) × IsPrefix (first ++ said) (whole run (answer_to run.firsts run.text))
  script_cut answer first said (run, is, e) cut = (
    run,
    subst (λ (a : Status). IsPrefix (first ++ said) (whole run a)) is
        (subst (IsPrefix (first ++ said)) (ap (λ (x : List ℕ). x ++ last_line answer) e ∙ joined run answer) (prefix_behind first said (last_line answer) cut)),
  )

  write_cut : (first : List ℕ) → (run : Started found) × IsPrefix first (said_of run) → (run : Started found) × IsPrefix first (whole run (answer_to run.firsts run.text))
  write_cut first (run, cut) = (run, subst (IsPrefix first) (joined run (answer_to run.firsts run.text)) (prefix_of_first first (said_of run) (last_line (answer_to run.firsts run.text)) cut))

  -- the last line was written whole
  says_whole : (status : Status) (first : List ℕ) → SaysFirst found status first → SaysRun found failed status (first ++ last_line status)
  says_whole (Done s t) first h = script_whole (Done s t) first h
  says_whole Usage first h = ap (λ (x : List ℕ). x ++ last_line Usage) h
  says_whole (Refused l w) first h = script_whole (Refused l w) first h
  says_whole (Disk f) first h = fault_joined (Disk f) first (last_line (Disk f)) (inl refl) h
  says_whole Read first h = inl (ap (λ (x : List ℕ). x ++ last_line Read) h)
  says_whole Write first h = rw (append-nil first) (inr (write_cut first h))
  says_whole (TooLong Script n) first h = inl (ap (λ (x : List ℕ). x ++ last_line (TooLong Script n)) h)
  says_whole (TooLong (File f) n) first h = fault_joined (TooLong (File f) n) first (last_line (TooLong (File f) n)) (inl refl) h
  says_whole Memory first h = fault_joined Memory first (last_line Memory) (inl refl) h
  says_whole (LastStamp f n) first h = fault_joined (LastStamp f n) first (last_line (LastStamp f n)) (inl refl) h

  -- the last line was cut short
  says_cut : (read write : Type 0) (status : Status) (first said : List ℕ) → HasCause (causes found read write) status → SaysFirst found status first → failed → IsPrefix said (last_line status) → SaysRun found failed (unsaid status) (first ++ said)
  says_cut read write (Done s k) first said cause h f cut = inr (script_cut (Done s k) first said h cut)
  says_cut read write Usage first said cause h f cut = inl (cause, rw h cut)
  says_cut read write (Refused l y) first said cause h f cut = inr (script_cut (Refused l y) first said h cut)
  says_cut read write (Disk d) first said cause h f cut = fault_joined (Disk d) first said (inr (f, cut)) h
  says_cut read write Read first said cause h f cut = inr (f, rw h cut)
  says_cut read write Write first said cause h f (n, within, e) =
      let none : said ≡ [] = e ∙ take_all {A = ℕ} n [] (omega arith) in
      rw (none, append-nil first) (inr (write_cut first h))
  says_cut read write (TooLong Script n) first said cause h f cut = inr (f, rw h cut)
  says_cut read write (TooLong (File d) n) first said cause h f cut = fault_joined (TooLong (File d) n) first said (inr (f, cut)) h
  says_cut read write Memory first said cause h f cut = fault_joined Memory first said (inr (f, cut)) h
  says_cut read write (LastStamp d n) first said cause h f cut = fault_joined (LastStamp d n) first said (inr (f, cut)) h

  -- both parts of the output
  pub says_all : (read write : Type 0) (old middle new : Option (List ℕ)) (status answer : Status) → HasCause (causes found read write) status → Writes old middle (SaysFirst found status) → WritesLine middle new failed status answer → Writes old new (SaysRun found failed answer)
  says_all read write None None new status answer cause h line = line
  says_all read write None (Some middle) new status answer cause h line = absurd cc
  says_all read write (Some old) None new status answer cause h line = absurd (let e = h.1 in cc)
  says_all read write (Some old) (Some middle) new status answer cause (first, is, says) (inl (same, whole)) = (
    first ++ last_line status,
    whole ∙ ap (λ (x : List ℕ). Some (x ++ last_line status)) (let e : middle ≡ old ++ first = cc in e) ∙ ap Some (append_assoc old first (last_line status)),
    rw same (says_whole status first says),
  )
  says_all read write (Some old) (Some middle) new status answer cause (first, is, says) (inr (other, f, said, cut, part)) = (
    first ++ said,
    part ∙ ap (λ (x : List ℕ). Some (x ++ said)) (let e : middle ≡ old ++ first = cc in e) ∙ ap Some (append_assoc old first said),
    rw other (says_cut read write status first said cause says f cut),
  )

-- a count that rose later rose since an earlier moment
pub rose_since : (before middle now : ℕ) → before ≤ middle → Rose middle now → Rose before now
rose_since before middle now later rose = omega (arith, rose)

pub line_weaken : (failed failed' : Type 0) → (failed → failed') → (middle new : Option (List ℕ)) (status answer : Status) → WritesLine middle new failed status answer → WritesLine middle new failed' status answer
line_weaken failed failed' f None new status answer w = w
line_weaken failed failed' f (Some before) new status answer (inl w) = inl w
line_weaken failed failed' f (Some before) new status answer (inr (other, h, said, cut, part)) = inr (other, f h, said, cut, part)

-- what was said before an answer in whose place want of memory stands

module _ (found : Found) where
  memory_cut : (fault : Status) (said : List ℕ) → SaysCut found (λ more. more ≡ []) fault said → SaysCut found (λ more. more ≡ []) Memory said
  memory_cut fault said c = record {
    run = c.run;
    done = c.done;
    left = c.left;
    parts = c.parts;
    cut = tt;
    more = c.more;
    says_more = c.says_more;
    is = c.is;
  }

  memory_fault : (fault : Status) (said : List ℕ) → (IsAtOpening found fault × (said ≡ [])) ⊎ SaysCut found (λ more. more ≡ []) fault said → SaysFirst found Memory said
  memory_fault fault said (inl opening) = inl (tt, opening.1)
  memory_fault fault said (inr cut) = inr (memory_cut fault said cut)

  memory_script : (answer : Status) (said : List ℕ) → SaysScript found answer said → SaysFirst found Memory said
  memory_script answer said (run, is, e) = inr (record {
    run = run;
    done = steps_of run.firsts run.text;
    left = [];
    parts = append-nil (steps_of run.firsts run.text);
    cut = tt;
    more = [];
    says_more = refl;
    is = e ∙ ap (λ (x : List ℕ). start_line (counts_of run.firsts) ++ x) (sym (append-nil (said_by (steps_of run.firsts run.text))));
  })

  memory_said : (status : Status) (said : List ℕ) → (status ≡ Write → ⊥) → SaysFirst found status said → SaysFirst found Memory said
  memory_said (Done s t) said other h = memory_script (Done s t) said h
  memory_said Usage said other h = inl (tt, h)
  memory_said (Refused l w) said other h = memory_script (Refused l w) said h
  memory_said (Disk d) said other h = memory_fault (Disk d) said h
  memory_said Read said other h = inl (tt, h)
  memory_said Write said other h = absurd (other refl)
  memory_said (TooLong Script n) said other h = inl (tt, h)
  memory_said (TooLong (File d) n) said other h = memory_fault (TooLong (File d) n) said h
  memory_said Memory said other h = h
  memory_said (LastStamp d n) said other h = memory_fault (LastStamp d n) said h

  pub closed_said : (old new : Option (List ℕ)) (status closed : Status) → (closed ≡ status) ⊎ ((closed ≡ Memory) × (status ≡ Write → ⊥)) → Writes old new (SaysFirst found status) → Writes old new (SaysFirst found closed)
  closed_said old new status closed (inl same) h = subst (λ (s : Status). Writes old new (SaysFirst found s)) (sym same) h
  closed_said old new status closed (inr memory) h =
      subst (λ (s : Status). Writes old new (SaysFirst found s)) (sym memory.0) (writes_weaken old new (SaysFirst found status) (SaysFirst found Memory) (λ said is. memory_said status said memory.1 is) h)

  -- what is said before the last line of each step's answer

  pub read_said : (order : Option Asked) (left : Option (List ℕ)) (read : Type 0) (status : Status) → HasCause (read_causes order left read) status → SaysFirst found status []
  read_said order left read Usage h = refl
  read_said order left read Read h = refl
  read_said order left read (TooLong Script n) h = refl
  read_said order left read Memory h = inl (tt, refl)
  read_said order left read (TooLong (File family) n) h = absurd h
  read_said order left read (Done s t) h = absurd h
  read_said order left read (Refused l w) h = absurd h
  read_said order left read (Disk d) h = absurd h
  read_said order left read Write h = absurd h
  read_said order left read (LastStamp d n) h = absurd h

  pub script_said : (answer : Status) (said : List ℕ) → IsDone answer → SaysScript found answer said → SaysFirst found answer said
  script_said (Done s t) said done h = h
  script_said (Refused l w) said done h = h
  script_said Usage said done h = absurd done
  script_said (Disk d) said done h = absurd done
  script_said Read said done h = absurd done
  script_said Write said done h = absurd done
  script_said (TooLong w n) said done h = absurd done
  script_said Memory said done h = absurd done
  script_said (LastStamp d n) said done h = absurd done

  pub fault_said : (family : Family) (why : JournalFault) (said : List ℕ) → (IsAtOpening found (status_of family why) × (said ≡ [])) ⊎ SaysCut found (λ more. more ≡ []) (status_of family why) said → SaysFirst found (status_of family why) said
  fault_said family (fault.AlreadyFailed first) said h = h
  fault_said family (fault.TooLong needed) said h = h
  fault_said family (fault.LastStamp stamp) said h = h
  fault_said family fault.Disk said h = h
  fault_said family fault.Memory said h = h
