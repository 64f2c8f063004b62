-- What a run has written by its end: the lines of syncs in it say no more than the disks were told.
use Rattle.std.proofs.Common.{◌≡◌, ◌⊎◌, ℕ, List, [], ◌++◌, length, take, Option, Some, None, Result, Ok, Err}
use Rattle.std.proofs.Common.{refl, sym, ap, ◌∙◌, subst, inl, inr, arith}
use Rattle.std.proofs.Math.Path.{fun_ext}
use Rattle.std.proofs.lemmas.List.{append-nil, take_all}
use Rattle.session_disk.specs.declared.family.Family.{Family}
use Rattle.session_disk.specs.declared.family.Family.TheVariants.{Session, Tabs}
use Rattle.log_writer.specs.Journals.{IsReady}
use Rattle.log_writer.specs.Opening.{Seen}
use Rattle.log_writer.specs.declared.limits.Limits.{Limits}
use Rattle.writer_core.specs.Opening.{Opens}
use Rattle.writer_core.proofs.OpeningLaws.{opened_runs}
use Rattle.run_words.specs.declared.lines.Counts.{Counts}
use Rattle.run_words.specs.declared.status.Status.{Status}
use Rattle.run_words.specs.declared.status.Status.TheVariants.{Write, Memory}
use Rattle.run_words.specs.declared.why.Why.{Why}
use Rattle.run_words.specs.Outcome.{IsPrefix, last_line, start_line}
use Rattle.script_run.specs.declared.halt.Halt.{Halt}
use Rattle.script_run.specs.declared.halt.Halt.TheVariants as halt
use Rattle.script_run.specs.Counts.{counts_of}
use Rattle.script_run.specs.Families.{Firsts, kind_of}
use Rattle.script_run.specs.Runs.{Logs, Writes, states_of}
use Rattle.script_run.specs.SyncLines.{BothRun, SaysTold, SaysToldBehind, TellsRun, told_of}
use Rattle.script_run.specs.Whole.{Ran}
use Rattle.script_run.proofs.SayingLaws.{prefix-behind, writes-both, writes-nothing, writes-weaken}
use Rattle.session_drive.specs.Answers.{answer_by, status_of}
use Rattle.session_drive.specs.Closing.{WritesLine}
use Rattle.session_drive.specs.Run.{Found}
use Rattle.session_drive.specs.Telling.{SaysFirstTold, SaysPart, SaysWhole, SyncsTold, TellsFirst, told_by_end}
use Rattle.session_drive.proofs.PrintedLaws.{FitsAll, fits-last, fits-none, fits-start, fits-then, fits-told, prefix-told}

module _ (told : Family → ℕ) where
  -- a run but for its last line, and that line or some prefix of it
  whole-fits : (said : List ℕ) → SaysWhole told said → FitsAll told said
  whole-fits said (inl none) = subst (FitsAll told) (sym none) (fits-none told)
  whole-fits said (inr (counts, more, says, is)) =
      subst (FitsAll told) (sym is) (fits-then told (start_line counts) more (fits-start told counts)
      (fits-told told more says))

  part-told : (said : List ℕ) → SaysPart told said → SyncsTold told said
  part-told said (counts, more, says, cut) =
      prefix-told told (start_line counts ++ more) said
      (fits-then told (start_line counts) more (fits-start told counts) (fits-told told more says)) cut

  ended-told : (status closed : Status) (first last : List ℕ) → (closed ≡ status) ⊎ ((closed ≡ Memory) × (status ≡ Write → ⊥))
      → SaysFirstTold status told first → IsPrefix last (last_line closed) → SyncsTold told (first ++ last)
  ended-told status closed first last (inl same) (inl (write, part)) (n, within, cut) =
      let none : last ≡ [] =
      cut ∙ ap (λ (s : Status). take n (last_line s)) (same ∙ write) ∙ take_all {A = ℕ} n [] (omega arith) in
      subst (SyncsTold told) (sym (append-nil first) ∙ ap (λ x. first ++ x) (sym none)) (part-told first part)
  ended-told status closed first last (inr other) (inl (write, part)) cut = absurd (other.1 write)
  ended-told status closed first last closing (inr whole) cut =
      prefix-told told (first ++ last_line closed) (first ++ last)
      (fits-then told first (last_line closed) (whole-fits first whole) (fits-last told closed))
      (prefix-behind first last (last_line closed) cut)

  line-prefix : (middle new : Option (List ℕ)) (failed : Type 0) (closed answer : Status)
      → WritesLine middle new failed closed answer → Writes middle new (λ said. IsPrefix said (last_line closed))
  line-prefix None new failed closed answer h = h
  line-prefix (Some before) new failed closed answer (inl (same, is)) =
      (last_line closed, is, (length (last_line closed), omega arith, sym (take_all (length (last_line closed)) (last_line closed) (omega arith))))
  line-prefix (Some before) new failed closed answer (inr (other, cause, said, cut, is)) = (said, is, cut)

  pub all-told : (old middle new : Option (List ℕ)) (failed : Type 0) (status closed answer : Status)
      → (closed ≡ status) ⊎ ((closed ≡ Memory) × (status ≡ Write → ⊥)) → Writes old middle (SaysFirstTold status told)
      → WritesLine middle new failed closed answer → Writes old new (SyncsTold told)
  all-told old middle new failed status closed answer closing first line =
      writes-both old middle new (SaysFirstTold status told) (λ said. IsPrefix said (last_line closed)) (SyncsTold told)
      (λ said more says cut. ended-told status closed said more closing says cut) first
      (line-prefix middle new failed closed answer line)

  -- what a run says before its last line
  pub nothing-told : (written : Option (List ℕ)) (status : Status) → Writes written written (SaysFirstTold status told)
  nothing-told written status = writes-nothing written (SaysFirstTold status told) (inr (inl refl))

  ran-whole : (counts : Counts) (status : Status) (said : List ℕ)
      → (said ≡ []) ⊎ ((more : List ℕ) × SaysTold told more × (said ≡ start_line counts ++ more))
      → SaysFirstTold status told said
  ran-whole counts status said (inl none) = inr (inl none)
  ran-whole counts status said (inr (more, says, is)) = inr (inr (counts, more, says, is))

  pub ran-told : (counts : Counts) (ran : Result (Option (ℕ × Why)) Halt) (session tabs : ℕ)
      (old new : Option (List ℕ)) → Writes old new (SaysToldBehind ran (start_line counts) told)
      → Writes old new (SaysFirstTold (answer_by ran session tabs) told)
  ran-told counts (Ok refused) session tabs old new h =
      let status = answer_by (Ok refused) session tabs in
      writes-weaken old new (SaysToldBehind {T = Option (ℕ × Why)} (Ok refused) (start_line counts) told)
      (SaysFirstTold status told) (ran-whole counts status) h
  ran-told counts (Err (halt.Journal stopped)) session tabs old new h =
      let status = status_of stopped.family stopped.fault in
      writes-weaken old new (SaysToldBehind {T = Option (ℕ × Why)} (Err (halt.Journal stopped)) (start_line counts) told)
      (SaysFirstTold status told) (ran-whole counts status) h
  ran-told counts (Err halt.Write) session tabs old new h =
      writes-weaken old new (SaysToldBehind {T = Option (ℕ × Why)} (Err halt.Write) (start_line counts) told)
      (SaysFirstTold Write told) (λ said cut. inl (refl, (counts, cut.0, cut.1, cut.2))) h
  ran-told counts (Err halt.Memory) session tabs old new h =
      writes-weaken old new (SaysToldBehind {T = Option (ℕ × Why)} (Err halt.Memory) (start_line counts) told)
      (SaysFirstTold Memory told) (ran-whole counts Memory) h

-- the script was run over journals that were opened
module _ (found : Found) (limits : Limits) (old new : Logs)
    (opens : (family : Family) → Opens (kind_of family) found.modelled limits (found.entry family) (old family))
    (closed : (family : Family) → found.exit family ≡ record { history = (new family).history; failures = (new family).failures }) where
  pub both-run : found.modelled → (firsts : Firsts)
      → ((family : Family) → IsReady (kind_of family) (found.entry family).history.now (firsts family))
      → BothRun (kind_of Session) (kind_of Tabs) old
  both-run modelled firsts ready = record {
    session_runs = opened_runs (kind_of Session) found.modelled limits (found.entry Session) (old Session)
        (opens Session) modelled (firsts Session) (ready Session);
    tabs_run = opened_runs (kind_of Tabs) found.modelled limits (found.entry Tabs) (old Tabs) (opens Tabs) modelled
        (firsts Tabs) (ready Tabs);
  }

  pub script-tells : (written printed : Option (List ℕ)) (ran : Ran)
      → TellsRun found.modelled old new written printed ran
      → TellsFirst found written printed (answer_by ran (new Session).present.count (new Tabs).present.count)
  script-tells written printed ran tells = λ modelled firsts ready.
      let told : told_of new ≡ told_by_end found =
      fun_ext (λ family. ap (λ (s : Seen). s.history.now.told) (sym (closed family))) in
      let session = (new Session).present.count in
      let tabs = (new Tabs).present.count in
      let counts = counts_of (states_of old) in
      subst (λ numbers. Writes written printed (SaysFirstTold (answer_by ran session tabs) numbers)) told
      (ran-told (told_of new) counts ran session tabs written printed (tells modelled (both-run modelled firsts ready)))
