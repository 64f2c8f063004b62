-- Steps that are done one after another, and a halt behind some of them.
use Rattle.std.proofs.Common.{◌≡◌, ℕ, ◌+◌, ◌≤◌, List, ◌++◌, length, map, Result, Ok, Err, append_assoc}
use Rattle.std.proofs.Common.{sym, ap, ◌∙◌, subst, arith}
use Rattle.machine_law.specs.declared.machine.Machine as machine
use Rattle.session_disk.specs.declared.disk.SessionDisk as disk
use Rattle.session_disk.specs.declared.family.Family.{Family}
use Rattle.session_disk.specs.declared.family.Family.TheVariants.{Session, Tabs}
use Rattle.session_commands.specs.declared.command.SessionCommand.{SessionCommand}
use Rattle.tab_restore_commands.specs.declared.command.TabsCommand.{TabsCommand}
use Rattle.window_state.specs.States.{State as SessionState}
use Rattle.closed_entries.specs.States.{State as ClosedState}
use Rattle.writer_core.specs.Handling.{turn_at}
use Rattle.writer_core.specs.InOrder.{AllDone, StopsIn}
use Rattle.writer_core.specs.Jobs.{session_job, tabs_job}
use Rattle.writer_core.specs.declared.handling.Stopped.{Stopped}
use Rattle.writer_core.proofs.InOrderLaws.{handles_then, stops_then}
use Rattle.run_words.specs.Outcome.{IsPrefix}
use Rattle.script_run.specs.declared.halt.Halt.{Halt}
use Rattle.script_run.specs.declared.halt.Halt.TheVariants as halt
use Rattle.script_run.specs.Doing.{Sunk, Count, said_from, SaysDone, HaltCause, RunWriters, StepsDone, StopsBehind}
use Rattle.script_run.specs.Doing.{DoesSteps, HaltsBehind, StepsHalted}
use Rattle.script_run.specs.Runs.{Logs, logs}
use Rattle.script_run.specs.Steps.{Step, issued_to, items_of, said_behind}
use Rattle.script_run.proofs.FamilyLaws.{each}
use Rattle.script_run.proofs.SayingLaws.{prefix-behind, prefix-of-first, writes-then, writes-weaken}
use Rattle.script_run.proofs.StepLaws.{items-append, jobs-append, counted-append, said-append}
use Rattle.script_run.proofs.SyncLineLaws.{halt-tells-then, tells-then}

-- what was said behind done steps, and before further ones
pub says-longer : (why : Halt) (old : Logs) (done left more : List Step) (said : List ℕ)
    → SaysDone why old done left said → SaysDone why old done (left ++ more) said
says-longer (halt.Journal stopped) old done left more said h = h
says-longer halt.Write old done left more said h =
    let session = (old Session).present.count in
    let tabs = (old Tabs).present.count in
    let steps = done ++ left in
    subst (λ all. IsPrefix said (said_from old all)) (append_assoc done left more)
    (subst (IsPrefix said) (sym (said-append session tabs steps more))
    (prefix-of-first said (said_from old steps)
    (said_behind (session + length (issued_to Session steps)) (tabs + length (issued_to Tabs steps)) more) h))
says-longer halt.Memory old done left more said h = h

says-then : (why : Halt) (old mid : Logs) (first done left : List Step) (said : List ℕ)
    → ((more : List Step) → said_from old (first ++ more) ≡ said_from old first ++ said_from mid more)
    → SaysDone why mid done left said → SaysDone why old (first ++ done) left (said_from old first ++ said)
says-then (halt.Journal stopped) old mid first done left said behind h =
    ap (λ x. said_from old first ++ x) h ∙ sym (behind done)
says-then halt.Write old mid first done left said behind h =
    let all : said_from old ((first ++ done) ++ left) ≡ said_from old first ++ said_from mid (done ++ left) =
    ap (said_from old) (append_assoc first done left) ∙ behind (done ++ left) in
    subst (IsPrefix (said_from old first ++ said)) (sym all)
    (prefix-behind (said_from old first) said (said_from mid (done ++ left)) h)
says-then halt.Memory old mid first done left said behind h =
    ap (λ x. said_from old first ++ x) h ∙ sym (behind done)

cause-since : (before between after : Sunk) (why : Halt) → before.faults ≤ between.faults
    → HaltCause between after why → HaltCause before after why
cause-since before between after (halt.Journal stopped) later h = tt
cause-since before between after halt.Write later h = omega (arith, later, h)
cause-since before between after halt.Memory later h = tt

module _ {M N D : Type 0} {m : machine.Ghosts M SessionState SessionCommand}
    {n : machine.Ghosts N ClosedState TabsCommand} {d : disk.Ghosts D} where
  -- each journal counts what it took
  module _ (first : List Step) (old mid : RunWriters M N D m n d) (all : AllDone (items_of first) old mid) where
    counts-first : Count (logs old) first → (family : Family)
        → (logs mid family).present.count ≡ (logs old family).present.count + length (issued_to family first)
    counts-first small =
        each (λ family. (logs mid family).present.count
        ≡ (logs old family).present.count + length (issued_to family first))
        (all.session.answers.1 (small Session)) (all.tabs.answers.1 (small Tabs))

    count-first : (more : List Step) → Count (logs old) (first ++ more) → Count (logs old) first
    count-first more small = λ family. omega (arith, small family, counted-append family first more)

    count-more : (more : List Step) → Count (logs old) (first ++ more) → Count (logs mid) more
    count-more more small =
        let counts = counts-first (count-first more small) in
        λ family. omega (arith, small family, counted-append family first more, counts family)

    said-then : Count (logs old) first → (more : List Step)
        → said_from (logs old) (first ++ more) ≡ said_from (logs old) first ++ said_from (logs mid) more
    said-then small more =
        let session = old.session.present.count in
        let tabs = old.tabs.present.count in
        let counts = counts-first small in
        let tabs_then = tabs + length (issued_to Tabs first) in
        said-append session tabs first more
        ∙ ap (λ k. said_behind session tabs first ++ said_behind k tabs_then more) (sym (counts Session))
        ∙ ap (λ k. said_behind session tabs first ++ said_behind mid.session.present.count k more) (sym (counts Tabs))

  pub all-then : (first done : List Step) (old mid new : RunWriters M N D m n d) → AllDone (items_of first) old mid
      → AllDone (items_of done) mid new → AllDone (items_of (first ++ done)) old new
  all-then first done old mid new one two =
      subst (λ items. AllDone items old new) (sym (items-append first done))
      (handles_then {X = Unit {0}} (items_of first) (items_of done) old mid new (Ok tt) one two)

  pub done-then : (first more : List Step) (old mid new : RunWriters M N D m n d) (before between after : Sunk)
      → StepsDone first old mid before between → StepsDone more mid new between after
      → StepsDone (first ++ more) old new before after
  done-then first more old mid new before between after one two = record {
    all = all-then first more old mid new one.all two.all;
    later = omega (arith, one.later, two.later);
    says = λ small.
        let here = count-first first old mid one.all more small in
        writes-then before.written between.written after.written (said_from (logs old) first)
        (λ said. said ≡ said_from (logs mid) more) (λ said. said ≡ said_from (logs old) (first ++ more))
        (λ said e. ap (λ x. said_from (logs old) first ++ x) e ∙ sym (said-then first old mid one.all here more))
        (one.says here) (two.says (count-more first old mid one.all more small));
    tells = λ modelled run.
        let here = one.tells modelled run in
        tells-then m.kind n.kind (logs old) (logs mid) (logs new) before.written between.written after.written here
        (two.tells modelled here.run);
  }

  stops-behind : (first done left : List Step) (stopped : Stopped) (old mid new : RunWriters M N D m n d)
      → AllDone (items_of first) old mid → StopsBehind stopped done left mid new
      → StopsBehind stopped (first ++ done) left old new
  stops-behind first done left stopped old mid new one two = record {
    item = two.item;
    rest = two.rest;
    next = two.next;
    session = subst (λ jobs. StopsIn jobs (session_job two.item) old.session new.session
        (turn_at Session stopped.family stopped.fault)) (sym (jobs-append Session first done))
        (stops_then tt (map session_job (items_of first)) (map session_job (items_of done)) (session_job two.item)
        old.session mid.session new.session (turn_at Session stopped.family stopped.fault) one.session two.session);
    tabs = subst (λ jobs. StopsIn jobs (tabs_job two.item) old.tabs new.tabs
        (turn_at Tabs stopped.family stopped.fault)) (sym (jobs-append Tabs first done))
        (stops_then tt (map tabs_job (items_of first)) (map tabs_job (items_of done)) (tabs_job two.item)
        old.tabs mid.tabs new.tabs (turn_at Tabs stopped.family stopped.fault) one.tabs two.tabs);
  }

  halts-behind : (why : Halt) (first done left : List Step) (old mid new : RunWriters M N D m n d)
      → AllDone (items_of first) old mid → HaltsBehind why done left mid new
      → HaltsBehind why (first ++ done) left old new
  halts-behind (halt.Journal stopped) first done left old mid new one two =
      stops-behind first done left stopped old mid new one two
  halts-behind halt.Write first done left old mid new one two = all-then first done old mid new one two
  halts-behind halt.Memory first done left old mid new one two = all-then first done old mid new one two

  pub halted-then : (first more : List Step) (old mid new : RunWriters M N D m n d) (before between after : Sunk)
      (why : Halt) → StepsDone first old mid before between → StepsHalted more mid new between after why
      → StepsHalted (first ++ more) old new before after why
  halted-then first more old mid new before between after why one two = record {
    done = first ++ two.done;
    left = two.left;
    parts = append_assoc first two.done two.left ∙ ap (λ steps. first ++ steps) two.parts;
    journals = halts-behind why first two.done two.left old mid new one.all two.journals;
    later = omega (arith, one.later, two.later);
    cause = cause-since before between after why one.later two.cause;
    says = λ small.
        let here = count-first first old mid one.all more small in
        writes-then before.written between.written after.written (said_from (logs old) first)
        (SaysDone why (logs mid) two.done two.left) (SaysDone why (logs old) (first ++ two.done) two.left)
        (λ said h. says-then why (logs old) (logs mid) first two.done two.left said
        (said-then first old mid one.all here) h)
        (one.says here) (two.says (count-more first old mid one.all more small));
    tells = λ modelled run.
        let here = one.tells modelled run in
        halt-tells-then m.kind n.kind (logs old) (logs mid) (logs new) before.written between.written after.written
        here why (two.tells modelled here.run);
  }

  -- what halts some steps halts them and more
  halts-longer : (why : Halt) (done left more : List Step) (old new : RunWriters M N D m n d)
      → HaltsBehind why done left old new → HaltsBehind why done (left ++ more) old new
  halts-longer (halt.Journal stopped) done left more old new h = record {
    item = h.item;
    rest = h.rest ++ more;
    next = ap (λ steps. steps ++ more) h.next;
    session = h.session;
    tabs = h.tabs;
  }
  halts-longer halt.Write done left more old new h = h
  halts-longer halt.Memory done left more old new h = h

  pub halted-longer : (steps more : List Step) (old new : RunWriters M N D m n d) (before after : Sunk) (why : Halt)
      → StepsHalted steps old new before after why → StepsHalted (steps ++ more) old new before after why
  halted-longer steps more old new before after why h = record {
    done = h.done;
    left = h.left ++ more;
    parts = sym (append_assoc h.done h.left more) ∙ ap (λ all. all ++ more) h.parts;
    journals = halts-longer why h.done h.left more old new h.journals;
    later = h.later;
    cause = h.cause;
    says = λ small.
        let fits : Count (logs old) steps = λ family. omega (arith, small family, counted-append family steps more) in
        writes-weaken before.written after.written (SaysDone why (logs old) h.done h.left)
        (SaysDone why (logs old) h.done (h.left ++ more))
        (says-longer why (logs old) h.done h.left more) (h.says fits);
    tells = h.tells;
  }

  -- whatever the answer is
  pub does-then : {T : Type 0} (first more : List Step) (old mid new : RunWriters M N D m n d)
      (before between after : Sunk) (ran : Result T Halt) → StepsDone first old mid before between
      → DoesSteps more mid new between after ran → DoesSteps (first ++ more) old new before after ran
  does-then first more old mid new before between after (Ok x) one two =
      done-then first more old mid new before between after one two
  does-then first more old mid new before between after (Err why) one two =
      halted-then first more old mid new before between after why one two

  pub does-later : {T : Type 0} (steps : List Step) (old new : RunWriters M N D m n d) (before after : Sunk)
      (ran : Result T Halt) → DoesSteps steps old new before after ran → before.faults ≤ after.faults
  does-later steps old new before after (Ok x) h = h.later
  does-later steps old new before after (Err why) h = h.later
