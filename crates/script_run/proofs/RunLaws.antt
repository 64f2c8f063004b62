-- What the steps of a whole run, done or halted, say of the accounts, of what was said, and of what a crash leaves.
use Rattle.std.proofs.Common.{◌≡◌, ◌+◌, ◌<◌, ◌^◌, List, [], ◌∷◌, ◌++◌, length, map, None, Result, Ok, Err}
use Rattle.std.proofs.Common.{append_assoc, refl, sym, ap, ◌∙◌, subst, arith}
use Rattle.std.proofs.lemmas.List.{append-nil, length-append, length-map}
use Rattle.machine_law.specs.declared.machine.Machine as machine
use Rattle.compactor.specs.contracts.session.machine.SessionMachineMachine.TheImpl.{ghosts as session_ghosts}
use Rattle.compactor.specs.declared.session.machine.SessionMachine.{SessionMachine}
use Rattle.tabs_compactor.specs.contracts.machine.TabsMachineMachine.TheImpl.{ghosts as tabs_ghosts}
use Rattle.tabs_compactor.specs.declared.machine.TabsMachine.{TabsMachine}
use Rattle.session_disk.specs.Causes.{Rose}
use Rattle.session_disk.specs.declared.disk.SessionDisk as disk
use Rattle.session_disk.specs.declared.family.Family.{Family}
use Rattle.session_disk.specs.declared.family.Family.TheVariants.{Session, Tabs}
use Rattle.log_writer.specs.Answers.{Lasts}
use Rattle.log_writer.specs.declared.fault.JournalFault.{JournalFault}
use Rattle.log_writer.specs.declared.journal.Journal.{Journal}
use Rattle.writer_core.specs.Accounts.{StopsAs}
use Rattle.writer_core.specs.Course.{options}
use Rattle.writer_core.specs.Handling.{Turn, Done, Refused, Skipped, turn_at}
use Rattle.writer_core.specs.InOrder.{AllDone, StopsAt, StopsIn, TurnsLast}
use Rattle.writer_core.specs.Jobs.{session_job, tabs_job}
use Rattle.writer_core.specs.Working.{Beginning, FaultCause, GoesOn, LeftSince}
use Rattle.writer_core.specs.declared.handling.Stopped.{Stopped}
use Rattle.writer_core.specs.declared.item.Job.{Job}
use Rattle.writer_core.proofs.RunLaws.{run_goes, run_before, run_stops}
use Rattle.writer_core.proofs.WorkLaws.{left_longer}
use Rattle.script_run.specs.declared.halt.Halt.{Halt}
use Rattle.script_run.specs.declared.halt.Halt.TheVariants as halt
use Rattle.script_run.specs.Doing.{DoesSteps, HaltCause, RunWriters, StepsDone, StepsHalted, StopsBehind, HaltsBehind}
use Rattle.script_run.specs.Doing.{Sunk}
use Rattle.script_run.specs.Families.{RunItem, kind_of}
use Rattle.script_run.specs.Runs.{CutAt, EndsBy, HasHalted, WhereOpened, logs}
use Rattle.script_run.specs.Steps.{Step, Handle, items_of, jobs_of}
use Rattle.script_run.specs.Verdict.{Beginnings, end_of, ended, run_accounts}
use Rattle.script_run.proofs.FamilyLaws.{each}
use Rattle.script_run.proofs.StepLaws.{items-append, jobs-append}

-- jobs of one journal: what a crash leaves, and why it refused
module _ {M D S C : Type 0} {m : machine.Ghosts M S C} {d : disk.Ghosts D} (b : Beginning S)
    (old new : Journal M D S C m d) (modelled : d.modelled) (same : b.options ≡ options old.limits)
    (on : GoesOn b old []) where
  left-last : (before : List (Job C)) (last : Job C) (turn : Turn) → length (before ++ last ∷ []) < 2 ^ 61
      → TurnsLast before last old new turn → LeftSince m.kind b (d.history new.disk) (before ++ last ∷ [])
  left-last before last Done few h = (h.works modelled b [] same few on).left
  left-last before last (Refused why) few h = (h.works modelled b [] same few on).left
  left-last before last Skipped few h =
      left_longer m.kind b (d.history new.disk) before (last ∷ [])
      (h.works modelled b [] same (omega (arith, few, length-append before (last ∷ []))) on).left

-- a journal that was called or not
module _ {M D S C : Type 0} {m : machine.Ghosts M S C} {d : disk.Ghosts D} (before : List (Job C)) (last : Job C)
    (old new : Journal M D S C m d) where
  lasts-last : (turn : Turn) → TurnsLast before last old new turn → Lasts old new
  lasts-last Done h = h.later
  lasts-last (Refused why) h = h.later
  lasts-last Skipped h = h.later

  refused-cause : (why : JournalFault) → TurnsLast before last old new (Refused why)
      → FaultCause old.limits.max_file (d.failed old.disk) (d.failed new.disk) why
  refused-cause why h = h.answers

module _ {D : Type 0} {d : disk.Ghosts D}
    (old new : RunWriters SessionMachine TabsMachine D session_ghosts tabs_ghosts d) where
  abbrev pub BothLast : Type 0
  BothLast = Lasts old.session new.session × Lasts old.tabs new.tabs

  done-lasts : (steps : List Step) (before after : Sunk) → StepsDone steps old new before after → BothLast
  done-lasts steps before after h = (h.all.session.later, h.all.tabs.later)

  halts-last : (why : Halt) (done left : List Step) → HaltsBehind why done left old new → BothLast
  halts-last (halt.Journal stopped) done left h = (
    lasts-last (map session_job (items_of done)) (session_job h.item) old.session new.session
        (turn_at Session stopped.family stopped.fault) h.session.turns,
    lasts-last (map tabs_job (items_of done)) (tabs_job h.item) old.tabs new.tabs
        (turn_at Tabs stopped.family stopped.fault) h.tabs.turns,
  )
  halts-last halt.Write done left h = (h.session.later, h.tabs.later)
  halts-last halt.Memory done left h = (h.session.later, h.tabs.later)

  halted-lasts : (steps : List Step) (before after : Sunk) (why : Halt)
      → StepsHalted steps old new before after why → BothLast
  halted-lasts steps before after why h = halts-last why h.done h.left h.journals

  pub run-lasts : {T : Type 0} (steps : List Step) (before after : Sunk) (ran : Result T Halt)
      → DoesSteps steps old new before after ran → BothLast
  run-lasts steps before after (Ok x) h = done-lasts steps before after h
  run-lasts steps before after (Err why) h = halted-lasts steps before after why h

  -- why a journal refused
  stopped-cause : (family : Family) (fault : JournalFault) (before : List RunItem) (item : RunItem)
      → StopsIn (map session_job before) (session_job item) old.session new.session (turn_at Session family fault)
      → StopsIn (map tabs_job before) (tabs_job item) old.tabs new.tabs (turn_at Tabs family fault)
      → FaultCause (logs old family).limits.max_file (logs old family).failures (logs new family).failures fault
  stopped-cause Session fault before item session tabs =
      refused-cause (map session_job before) (session_job item) old.session new.session fault session.turns
  stopped-cause Tabs fault before item session tabs =
      refused-cause (map tabs_job before) (tabs_job item) old.tabs new.tabs fault tabs.turns

  halts-cause : (before after : Sunk) (why : Halt) (done left : List Step) → HaltCause before after why
      → HaltsBehind why done left old new → HasHalted (Rose before.faults after.faults) (logs old) (logs new) why
  halts-cause before after (halt.Journal stopped) done left cause h =
      stopped-cause stopped.family stopped.fault (items_of done) h.item h.session h.tabs
  halts-cause before after halt.Write done left cause h = cause
  halts-cause before after halt.Memory done left cause h = tt

  pub halted-cause : (steps : List Step) (before after : Sunk) (why : Halt)
      → StepsHalted steps old new before after why
      → HasHalted (Rose before.faults after.faults) (logs old) (logs new) why
  halted-cause steps before after why h = halts-cause before after why h.done h.left h.cause h.journals

  -- steps that are few
  module _ (steps : List Step) (few : length (items_of steps) < 2 ^ 61) where
    abbrev Left : Beginnings → Type 0
    Left b = (family : Family) → LeftSince (kind_of family) (b family) (logs new family).history (jobs_of family steps)

    few-part : (done left : List Step) → done ++ left ≡ steps → length (items_of done) + length (items_of left) < 2 ^ 61
    few-part done left parts =
        omega (
          arith,
          few,
          ap (λ all. length (items_of all)) parts,
          ap length (items-append done left),
          length-append (items_of done) (items_of left),
        )

    -- a crash leaves what is good for all commands
    left-of : (family : Family) (b : Beginnings) (done left : List Step) → done ++ left ≡ steps
        → LeftSince (kind_of family) (b family) (logs new family).history (jobs_of family done)
        → LeftSince (kind_of family) (b family) (logs new family).history (jobs_of family steps)
    left-of family b done left parts h =
        subst (LeftSince (kind_of family) (b family) (logs new family).history)
        (sym (jobs-append family done left) ∙ ap (jobs_of family) parts)
        (left_longer (kind_of family) (b family) (logs new family).history (jobs_of family done) (jobs_of family left)
        h)

    left-all : (done left : List Step) → done ++ left ≡ steps → AllDone (items_of done) old new
        → WhereOpened d.modelled (logs old) Left
    left-all done left parts all = λ modelled b same on.
        let short = few-part done left parts in
        each (λ family. LeftSince (kind_of family) (b family) (logs new family).history (jobs_of family steps))
        (left-of Session b done left parts (all.session.works modelled (b Session) [] (same Session)
        (omega (arith, short, length-map (items_of done) session_job)) (on Session)).left)
        (left-of Tabs b done left parts (all.tabs.works modelled (b Tabs) [] (same Tabs)
        (omega (arith, short, length-map (items_of done) tabs_job)) (on Tabs)).left)

    left-stopped : (stopped : Stopped) (done left : List Step) → done ++ left ≡ steps
        → StopsBehind stopped done left old new → WhereOpened d.modelled (logs old) Left
    left-stopped stopped done left parts h = λ modelled b same on.
        let here : (done ++ Handle h.item ∷ []) ++ h.rest ≡ steps =
        append_assoc done (Handle h.item ∷ []) h.rest ∙ ap (λ x. done ++ x) (sym h.next) ∙ parts in
        let short = few-part (done ++ Handle h.item ∷ []) h.rest here in
        let more = ap length (items-append done (Handle h.item ∷ [])) in
        let count = length-append (items_of done) (h.item ∷ []) in
        each (λ family. LeftSince (kind_of family) (b family) (logs new family).history (jobs_of family steps))
        (left-of Session b (done ++ Handle h.item ∷ []) h.rest here
        (subst (LeftSince (kind_of Session) (b Session) (logs new Session).history)
        (sym (jobs-append Session done (Handle h.item ∷ [])))
        (left-last (b Session) old.session new.session modelled (same Session) (on Session)
        (map session_job (items_of done)) (session_job h.item) (turn_at Session stopped.family stopped.fault)
        (omega (
          arith,
          short,
          more,
          count,
          length-map (items_of done) session_job,
          length-append (map session_job (items_of done)) (session_job h.item ∷ []),
        )) h.session.turns)))
        (left-of Tabs b (done ++ Handle h.item ∷ []) h.rest here
        (subst (LeftSince (kind_of Tabs) (b Tabs) (logs new Tabs).history)
        (sym (jobs-append Tabs done (Handle h.item ∷ [])))
        (left-last (b Tabs) old.tabs new.tabs modelled (same Tabs) (on Tabs)
        (map tabs_job (items_of done)) (tabs_job h.item) (turn_at Tabs stopped.family stopped.fault)
        (omega (
          arith,
          short,
          more,
          count,
          length-map (items_of done) tabs_job,
          length-append (map tabs_job (items_of done)) (tabs_job h.item ∷ []),
        )) h.tabs.turns)))

    left-done : (before after : Sunk) → StepsDone steps old new before after
        → WhereOpened d.modelled (logs old) Left
    left-done before after h = left-all steps [] (append-nil steps) h.all

    halts-left : (why : Halt) (done left : List Step) → done ++ left ≡ steps → HaltsBehind why done left old new
        → WhereOpened d.modelled (logs old) Left
    halts-left (halt.Journal stopped) done left parts h = left-stopped stopped done left parts h
    halts-left halt.Write done left parts h = left-all done left parts h
    halts-left halt.Memory done left parts h = left-all done left parts h

    left-halted : (before after : Sunk) (why : Halt) → StepsHalted steps old new before after why
        → WhereOpened d.modelled (logs old) Left
    left-halted before after why h = halts-left why h.done h.left h.parts h.journals

    pub left-run : {T : Type 0} (before after : Sunk) (ran : Result T Halt) → DoesSteps steps old new before after ran
        → WhereOpened d.modelled (logs old) Left
    left-run before after (Ok x) h = left-done before after h
    left-run before after (Err why) h = left-halted before after why h

    -- the accounts of both families
    pub all-go : AllDone (items_of steps) old new → WhereOpened d.modelled (logs old) (λ b. end_of b (items_of steps)
        ≡ None)
    all-go all = λ modelled b same on.
        ap ended (run_goes old new (items_of steps) modelled few (b Session) (b Tabs) (same Session) (same Tabs)
        (on Session) (on Tabs) all).is

    pub cut-at : (stopped : Stopped) (done left : List Step) → done ++ left ≡ steps
        → StopsBehind stopped done left old new
        → CutAt d.modelled (logs old) steps done stopped
    cut-at stopped done left parts h =
        let items = items_of done ++ h.item ∷ [] in
        let cut : StopsAt items old new stopped =
        record { before = items_of done; item = h.item; rest = []; parts = refl; session = h.session; tabs = h.tabs } in
        let here : done ++ Handle h.item ∷ h.rest ≡ steps = ap (λ x. done ++ x) (sym h.next) ∙ parts in
        let short : length items < 2 ^ 61 =
        omega (arith, few-part done (Handle h.item ∷ h.rest) here, length-append (items_of done) (h.item ∷ [])) in
        record {
          item = h.item;
          rest = h.rest;
          parts = here;
          goes = λ modelled b same on. ap ended (run_before old new items modelled short (b Session) (b Tabs) (same
              Session)
              (same Tabs) (on Session) (on Tabs) stopped cut).is;
          stops = λ modelled b same on. subst (λ all. StopsAs (run_accounts b all) stopped)
              (sym (items-append done (Handle h.item ∷ [])))
              (run_stops old new items modelled short (b Session) (b Tabs) (same Session) (same Tabs) (on Session)
              (on Tabs) stopped cut);
        }

    stopped-ends : (stopped : Stopped) (done left : List Step) → done ++ left ≡ steps → StopsBehind stopped done left old new
        → EndsBy d.modelled (logs old) steps (halt.Journal stopped)
    stopped-ends stopped done left parts h =
        let here : items_of done ++ h.item ∷ items_of h.rest ≡ items_of steps =
        ap (λ x. items_of done ++ items_of x) (sym h.next) ∙ sym (items-append done left) ∙ ap items_of parts in
        let cut : StopsAt (items_of steps) old new stopped =
        record { before = items_of done; item = h.item; rest = items_of h.rest; parts = here; session = h.session; tabs = h.tabs } in
        λ modelled b same on. run_stops old new (items_of steps) modelled few (b Session) (b Tabs) (same Session) (same Tabs)
        (on Session) (on Tabs) stopped cut

    halts-ends : (why : Halt) (done left : List Step) → done ++ left ≡ steps → HaltsBehind why done left old new
        → EndsBy d.modelled (logs old) steps why
    halts-ends (halt.Journal stopped) done left parts h = stopped-ends stopped done left parts h
    halts-ends halt.Write done left parts h = tt
    halts-ends halt.Memory done left parts h = tt

    pub halted-ends : (before after : Sunk) (why : Halt) → StepsHalted steps old new before after why
        → EndsBy d.modelled (logs old) steps why
    halted-ends before after why h = halts-ends why h.done h.left h.parts h.journals
