-- The first step that the accounts of both families refuse: there is one exactly where they end the run, and what has
-- ended stays ended.
use Rattle.std.proofs.Common.{◌≡◌, List, [], ◌∷◌, ◌++◌, Option, None, Some, refl, sym, ap, ◌∙◌, append_assoc}
use Rattle.std.proofs.lemmas.List.{append-nil}
use Rattle.session_disk.specs.declared.family.Family.TheVariants.{Session, Tabs}
use Rattle.log_writer.specs.declared.fault.JournalFault.TheVariants as fault
use Rattle.writer_core.specs.Accounts.{Both, TooLongFor, LastStampFor, after_items}
use Rattle.writer_core.proofs.AccountLaws.{accounts-append, stops_stay}
use Rattle.run_words.specs.declared.status.Status.{Status}
use Rattle.script_run.specs.Families.{RunItem, kind_of}
use Rattle.script_run.specs.Steps.{Step, items_of}
use Rattle.script_run.specs.Verdict.{Beginnings, RunAccounts, end_of, ended, run_accounts}
use Rattle.script_run.proofs.StepLaws.{items-append}
use Rattle.session_drive.specs.Verdict.{first_refused, refused_by}

-- one step, and what follows it
step_refused : (here : Option Status) (done : List Step) (later : Option (List Step × Status)) (answer : Status)
    → (here ≡ None → (front : List Step) × (later ≡ Some (front, answer)))
    → ((other : Status) → here ≡ Some other → other ≡ answer)
    → (front : List Step) × (refused_by here done later ≡ Some (front, answer))
step_refused None done later answer goes same = goes refl
step_refused (Some other) done later answer goes same = (done, ap (λ (s : Status). Some (done, s)) (same other refl))

no_answer : (here : Option Status) → ((answer : Status) → here ≡ Some answer → ⊥) → here ≡ None
no_answer None none = refl
no_answer (Some answer) none = absurd (none answer refl)

module _ (b : Beginnings) where
  items_stay : (x : RunAccounts) (answer : Status) (more : List RunItem) → ended x ≡ Some answer
      → ended (after_items (kind_of Session) (kind_of Tabs) (b Session) (b Tabs) more x) ≡ Some answer
  items_stay (Both a t) answer more e = absurd cc
  items_stay (TooLongFor family n) answer more e =
      ap ended (stops_stay (kind_of Session) (kind_of Tabs) (b Session) (b Tabs) more (TooLongFor family n) family (fault.TooLong n) refl) ∙ e
  items_stay (LastStampFor family) answer more e =
      ap ended (stops_stay (kind_of Session) (kind_of Tabs) (b Session) (b Tabs) more (LastStampFor family) family (fault.LastStamp 0) refl) ∙ e

  -- the answer with which the items of these steps end a run
  abbrev end_by : List Step → Option Status
  end_by steps = end_of b (items_of steps)

  pub end_stays : (steps more : List Step) (answer : Status) → end_by steps ≡ Some answer
      → end_by (steps ++ more) ≡ Some answer
  end_stays steps more answer e =
      ap (end_of b) (items-append steps more)
      ∙ ap ended (accounts-append (kind_of Session) (kind_of Tabs) (b Session) (b Tabs) (items_of steps) (items_of more))
      ∙ items_stay (run_accounts b (items_of steps)) answer (items_of more) e

  -- where none of these steps is refused, none of the first of them is
  pub goes_before : (done more : List Step) → end_by (done ++ more) ≡ None → end_by done ≡ None
  goes_before done more e =
      no_answer (end_by done) (λ answer here. let stays = end_stays done more answer here in cc)

  -- the first step alone, and with what follows it
  one_more : (done : List Step) (step : Step) (later : List Step) → end_by ((done ++ step ∷ []) ++ later)
      ≡ end_by (done ++ step ∷ later)
  one_more done step later = ap end_by (append_assoc done (step ∷ []) later)

  abbrev next_refused : List Step → Step → List Step → Option Status → Option (List Step × Status)
  next_refused done step later here = refused_by here done (first_refused b (done ++ step ∷ []) later)

  pub none_refused : (done steps : List Step) → end_by (done ++ steps) ≡ None → first_refused b done steps ≡ None
  none_refused done [] e = refl
  none_refused done (step ∷ later) e =
      let all = one_more done step later ∙ e in
      ap (next_refused done step later) (goes_before (done ++ step ∷ []) later all)
      ∙ none_refused (done ++ step ∷ []) later all

  pub some_refused : (done steps : List Step) (answer : Status) → end_by done ≡ None → end_by (done ++ steps)
      ≡ Some answer → (front : List Step) × (first_refused b done steps ≡ Some (front, answer))
  some_refused done [] answer none e = absurd (let same = ap end_by (append-nil done) in cc)
  some_refused done (step ∷ later) answer none e =
      let all = one_more done step later ∙ e in
      step_refused (end_by (done ++ step ∷ [])) done (first_refused b (done ++ step ∷ []) later) answer
      (λ here. some_refused (done ++ step ∷ []) later answer here all)
      (λ other here. let stays = end_stays (done ++ step ∷ []) later other here in cc)

  pub refused_at : (done front : List Step) (step : Step) (rest : List Step) (answer : Status) → end_by (done ++ front)
      ≡ None → end_by ((done ++ front) ++ step ∷ []) ≡ Some answer → first_refused b done (front ++ step ∷ rest)
      ≡ Some (done ++ front, answer)
  refused_at done [] step rest answer none ends =
      let same = append-nil done in
      ap (next_refused done step rest) (ap (λ (d : List Step). end_by (d ++ step ∷ [])) (sym same) ∙ ends)
      ∙ ap (λ (d : List Step). Some (d, answer)) (sym same)
  refused_at done (one ∷ front) step rest answer none ends =
      let same = append_assoc done (one ∷ []) front in
      let goes = ap end_by same ∙ none in
      ap (next_refused done one (front ++ step ∷ rest)) (goes_before (done ++ one ∷ []) front goes)
      ∙ refused_at (done ++ one ∷ []) front step rest answer goes
      (ap (λ (d : List Step). end_by (d ++ step ∷ [])) same ∙ ends)
      ∙ ap (λ (d : List Step). Some (d, answer)) same
