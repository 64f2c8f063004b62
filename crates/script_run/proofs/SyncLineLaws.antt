-- What is told while steps are done, and the lines of syncs that say no more.
use Rattle.std.proofs.Common.{◌≡◌, ◌⊎◌, ℕ, ◌<◌, ◌≤◌, ◌^◌, List, [], ◌∷◌, ◌++◌, map, Option, Result, Ok, Err}
use Rattle.std.proofs.Common.{append_assoc, refl, sym, ap, ◌∙◌, subst, inl, inr, arith}
use Rattle.std.proofs.lemmas.List.{append-nil}
use Rattle.std.specs.List.{AllByRecursion}
use Rattle.machine_law.specs.Kind.{Kind}
use Rattle.machine_law.specs.declared.machine.Machine as machine
use Rattle.session_disk.specs.declared.disk.SessionDisk as disk
use Rattle.session_disk.specs.declared.family.Family.{Family}
use Rattle.session_disk.specs.declared.family.Family.TheVariants.{Session, Tabs}
use Rattle.session_commands.specs.declared.command.SessionCommand.{SessionCommand}
use Rattle.tab_restore_commands.specs.declared.command.TabsCommand.{TabsCommand}
use Rattle.window_state.specs.States.{State as SessionState}
use Rattle.closed_entries.specs.States.{State as ClosedState}
use Rattle.writer_core.specs.Handling.{turn_at}
use Rattle.writer_core.specs.InOrder.{AllDone, StopsIn}
use Rattle.writer_core.specs.Jobs.{session_job, tabs_job}
use Rattle.writer_core.specs.declared.handling.Stopped.{Stopped}
use Rattle.writer_core.proofs.TellingLaws.{turn_keeps}
use Rattle.run_words.specs.Outcome.{IsPrefix, sync_line}
use Rattle.script_run.specs.declared.halt.Halt.{Halt}
use Rattle.script_run.specs.declared.halt.Halt.TheVariants as halt
use Rattle.script_run.specs.Doing.{DoesSteps, RunWriters, Sunk}
use Rattle.script_run.specs.Runs.{Logs, Writes, logs}
use Rattle.script_run.specs.Families.{RunItem}
use Rattle.script_run.specs.Starting.{Starts}
use Rattle.script_run.specs.Steps.{Step}
use Rattle.script_run.specs.SyncLines.{AreTold, BothRun, SaysTold, SaysToldAt, SaysToldBehind, TellsDone, TellsHalted}
use Rattle.script_run.specs.SyncLines.{sync_lines, told_of}
use Rattle.script_run.proofs.FamilyLaws.{each}
use Rattle.script_run.proofs.SayingLaws.{prefix-behind, writes-both, writes-nothing, writes-weaken}

-- lines one after another

all-append : (P : (Family → ℕ) → Type 0) (xs ys : List (Family → ℕ)) → AllByRecursion P xs → AllByRecursion P ys
    → AllByRecursion P (xs ++ ys)
all-append P [] ys one two = two
all-append P (x ∷ xs) ys one two = (one.0, all-append P xs ys one.1 two)

sync-lines-append : (lines more : List (Family → ℕ)) → sync_lines (lines ++ more) ≡ sync_lines lines ++ sync_lines more
sync-lines-append [] more = refl
sync-lines-append (line ∷ lines) more =
    let first = sync_line (line Session) (line Tabs) in
    ap (λ said. first ++ said) (sync-lines-append lines more)
    ∙ sym (append_assoc first (sync_lines lines) (sync_lines more))

module _ (told later : Family → ℕ) (grows : (family : Family) → told family ≤ later family) where
  all-later : (lines : List (Family → ℕ)) → AllByRecursion (AreTold told) lines → AllByRecursion (AreTold later) lines
  all-later [] h = tt
  all-later (line ∷ lines) h =
      ((λ family. ((h.0 family).0, omega (arith, (h.0 family).1, grows family))), all-later lines h.1)

  told-then : (said more : List ℕ) → SaysTold told said → SaysTold later more → SaysTold later (said ++ more)
  told-then said more one two = (
    one.0 ++ two.0,
    all-append (AreTold later) one.0 two.0 (all-later one.0 one.1) two.1,
    ap (λ x. x ++ more) one.2 ∙ ap (λ x. sync_lines one.0 ++ x) two.2 ∙ sym (sync-lines-append one.0 two.0),
  )

  told-at-then : (why : Halt) (said more : List ℕ) → SaysTold told said → SaysToldAt why later more
      → SaysToldAt why later (said ++ more)
  told-at-then (halt.Journal stopped) said more one two = told-then said more one two
  told-at-then halt.Write said more one two =
      (said ++ two.0, told-then said two.0 one two.1, prefix-behind said more two.0 two.2)
  told-at-then halt.Memory said more one two = told-then said more one two

none-said : (told : Family → ℕ) → SaysTold told []
none-said told = ([], tt, refl)

-- steps one after another
module _ (session : Kind SessionState SessionCommand) (tabs : Kind ClosedState TabsCommand) (old mid new : Logs)
    (before between after : Option (List ℕ)) (one : TellsDone session tabs old mid before between) where
  pub tells-then : TellsDone session tabs mid new between after → TellsDone session tabs old new before after
  tells-then two = record {
    run = two.run;
    stays = λ family. omega (arith, one.stays family, two.stays family);
    says = writes-both before between after (SaysTold (told_of mid)) (SaysTold (told_of new)) (SaysTold (told_of new))
        (told-then (told_of mid) (told_of new) two.stays) one.says two.says;
  }

  pub halt-tells-then : (why : Halt) → TellsHalted why mid new between after → TellsHalted why old new before after
  halt-tells-then why two = record {
    stays = λ family. omega (arith, one.stays family, two.stays family);
    says = writes-both before between after (SaysTold (told_of mid)) (SaysToldAt why (told_of new))
        (SaysToldAt why (told_of new)) (told-at-then (told_of mid) (told_of new) two.stays why) one.says two.says;
  }

-- Journals that write on: what they do of what is told.
module _ {M N D : Type 0} {m : machine.Ghosts M SessionState SessionCommand}
    {n : machine.Ghosts N ClosedState TabsCommand} {d : disk.Ghosts D} where
  module _ (old new : RunWriters M N D m n d) (modelled : d.modelled) (run : BothRun m.kind n.kind (logs old)) where
    abbrev Stays : Family → Type 0
    Stays family = told_of (logs old) family ≤ told_of (logs new) family

    -- items of which nothing is written
    pub items-tell : (items : List RunItem) (written : Option (List ℕ)) → AllDone items old new
        → TellsDone m.kind n.kind (logs old) (logs new) written written
    items-tell items written all =
        let first = all.session.keeps_told modelled run.session_runs in
        let second = all.tabs.keeps_told modelled run.tabs_run in
        record {
          run = record { session_runs = first.runs; tabs_run = second.runs };
          stays = each Stays first.stays second.stays;
          says = writes-nothing written (SaysTold (told_of (logs new))) (none-said (told_of (logs new)));
        }

    pub stop-tells : (stopped : Stopped) (before : List RunItem) (item : RunItem) (written : Option (List ℕ))
        → StopsIn (map session_job before) (session_job item) old.session new.session
        (turn_at Session stopped.family stopped.fault)
        → StopsIn (map tabs_job before) (tabs_job item) old.tabs new.tabs (turn_at Tabs stopped.family stopped.fault)
        → TellsHalted (halt.Journal stopped) (logs old) (logs new) written written
    stop-tells stopped before item written session tabs = record {
      stays = each Stays
          (turn_keeps old.session new.session (map session_job before) (session_job item)
          (turn_at Session stopped.family stopped.fault) session.turns modelled run.session_runs)
          (turn_keeps old.tabs new.tabs (map tabs_job before) (tabs_job item)
          (turn_at Tabs stopped.family stopped.fault) tabs.turns modelled run.tabs_run);
      says = writes-nothing written (SaysTold (told_of (logs new))) (none-said (told_of (logs new)));
    }

  -- no step
  module _ (old : RunWriters M N D m n d) (run : BothRun m.kind n.kind (logs old)) where
    pub none-tells : (written : Option (List ℕ)) → TellsDone m.kind n.kind (logs old) (logs old) written written
    none-tells written = record {
      run = run;
      stays = λ family. omega arith;
      says = writes-nothing written (SaysTold (told_of (logs old))) (none-said (told_of (logs old)));
    }

    pub memory-tells : (written : Option (List ℕ)) → TellsHalted halt.Memory (logs old) (logs old) written written
    memory-tells written = record {
      stays = λ family. omega arith;
      says = writes-nothing written (SaysTold (told_of (logs old))) (none-said (told_of (logs old)));
    }

    -- the line of a sync with the numbers that the journals count, where all of them are told
    module _ (session_told : old.session.present.told ≡ old.session.present.count)
        (tabs_told : old.tabs.present.told ≡ old.tabs.present.count) (line : List ℕ)
        (counts : line ≡ sync_line old.session.present.count old.tabs.present.count) where
      abbrev numbers : Family → ℕ
      numbers family = (logs old family).present.count

      are-told : AreTold (told_of (logs old)) numbers
      are-told =
          let session = run.session_runs.runs.keeps in
          let tabs = run.tabs_run.runs.keeps in
          each (λ family. (numbers family < 2 ^ 64) × (numbers family ≤ told_of (logs old) family))
          (omega (arith, session.count), omega (arith, session.told, session_told))
          (omega (arith, tabs.count), omega (arith, tabs.told, tabs_told))

      line-told : SaysTold (told_of (logs old)) line
      line-told = (
        numbers ∷ [],
        (are-told, tt),
        counts ∙ sym (append-nil (sync_line old.session.present.count old.tabs.present.count)),
      )

      pub line-tells : (before after : Option (List ℕ)) → Writes before after (λ said. said ≡ line)
          → TellsDone m.kind n.kind (logs old) (logs old) before after
      line-tells before after wrote = record {
        run = run;
        stays = λ family. omega arith;
        says = writes-weaken before after (λ said. said ≡ line) (SaysTold (told_of (logs old)))
            (λ said is. subst (SaysTold (told_of (logs old))) (sym is) line-told) wrote;
      }

      pub cut-tells : (before after : Option (List ℕ)) → Writes before after (λ said. IsPrefix said line)
          → TellsHalted halt.Write (logs old) (logs old) before after
      cut-tells before after wrote = record {
        stays = λ family. omega arith;
        says = writes-weaken before after (λ said. IsPrefix said line) (SaysToldAt halt.Write (told_of (logs old)))
            (λ said is. (line, line-told, is)) wrote;
      }

-- the line of a start before the lines of syncs
module _ (start : List ℕ) (told : Family → ℕ) where
  behind-start : (T : Type 0) (why : Halt) (said more : List ℕ) → said ≡ start → SaysToldAt why told more
      → SaysToldBehind {T = T} (Err why) start told (said ++ more)
  behind-start T (halt.Journal stopped) said more is says = inr (more, says, ap (λ x. x ++ more) is)
  behind-start T halt.Write said more is says = (
    says.0,
    says.1,
    subst (λ x. IsPrefix (x ++ more) (start ++ says.0)) (sym is)
        (prefix-behind start more says.0 says.2),
  )
  behind-start T halt.Memory said more is says = inr (more, says, ap (λ x. x ++ more) is)

  -- a run that doesn't come to its steps
  pub start-tells : (T : Type 0) (why : Halt) (before after : Sunk) → Starts {T = Unit {0}} start before after (Err why)
      → Writes before.written after.written (SaysToldBehind {T = T} (Err why) start told)
  start-tells T (halt.Journal stopped) before after h = absurd h.says
  start-tells T halt.Write before after h =
      writes-weaken before.written after.written (λ said. IsPrefix said start)
      (SaysToldBehind {T = T} (Err halt.Write) start told)
      (λ said cut. ([], none-said told, subst (IsPrefix said) (sym (append-nil start)) cut)) h.says.0
  start-tells T halt.Memory before after h =
      writes-weaken before.written after.written (λ said. (said ≡ []) ⊎ (said ≡ start))
      (SaysToldBehind {T = T} (Err halt.Memory) start told) either h.says
    where
      either : (said : List ℕ) → (said ≡ []) ⊎ (said ≡ start) → SaysToldBehind {T = T} (Err halt.Memory) start told said
      either said (inl none) = inl none
      either said (inr whole) = inr ([], none-said told, whole ∙ sym (append-nil start))

-- a run of these steps behind its line of a start, whatever it answers
module _ {M N D : Type 0} {m : machine.Ghosts M SessionState SessionCommand}
    {n : machine.Ghosts N ClosedState TabsCommand} {d : disk.Ghosts D} {T : Type 0} (start : List ℕ)
    (old new : RunWriters M N D m n d) (modelled : d.modelled) (run : BothRun m.kind n.kind (logs old))
    (before : Option (List ℕ)) (between after : Sunk) (started : Writes before between.written (λ said. said ≡ start))
    (steps : List Step) where
  pub run-tells : (ran : Result T Halt) → DoesSteps steps old new between after ran
      → Writes before after.written (SaysToldBehind ran start (told_of (logs new)))
  run-tells (Ok x) did =
      let told = told_of (logs new) in
      writes-both before between.written after.written (λ said. said ≡ start) (SaysTold told)
      (SaysToldBehind {T = T} (Ok x) start told) (λ said more is says. inr (more, says, ap (λ x. x ++ more) is)) started
      (did.tells modelled run).says
  run-tells (Err why) halted =
      let told = told_of (logs new) in
      writes-both before between.written after.written (λ said. said ≡ start) (SaysToldAt why told)
      (SaysToldBehind {T = T} (Err why) start told) (behind-start start told T why) started
      (halted.tells modelled run).says
