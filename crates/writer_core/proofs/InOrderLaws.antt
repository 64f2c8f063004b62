-- Jobs of a journal one after another, items of both journals one after another, and commands of one family as items.
use Rattle.std.proofs.Common.{◌≡◌, ℕ, ◌<◌, ◌^◌, List, [], ◌∷◌, ◌++◌, length, map, Some, None, Result, Ok, Err, IsErrAnd, append_assoc, refl, sym, ap, ◌∙◌, subst, arith}
use Rattle.std.proofs.lemmas.List.{append-nil, length-append, map-append, nil_from_length}
use Rattle.std.specs.List.{AllByRecursion}
use Rattle.std.specs.Vec.Iter.{into_iter_items, into_iter_len, into_iter_steps}
use Rattle.std.specs.declared.vec.IntoIter.{IntoIter}
use Rattle.machine_law.specs.declared.machine.Machine as machine
use Rattle.session_disk.specs.declared.disk.SessionDisk as disk
use Rattle.session_disk.specs.declared.family.Family.TheVariants.{Session, Tabs}
use Rattle.log_writer.specs.Answers.{Lasts}
use Rattle.log_writer.specs.Log.{log}
use Rattle.log_writer.specs.declared.journal.Journal.{Journal}
use Rattle.log_writer.specs.declared.fault.JournalFault.{JournalFault}
use Rattle.writer_core.specs.Course.{Goes, options}
use Rattle.writer_core.specs.Handling.{Does, Turn, Done, Refused, Skipped, Turns, turn_at, turn_of}
use Rattle.writer_core.specs.InOrder.{AllDone, DoesAll, GoesThrough, HandlesAll, StopsAt, StopsIn, TurnsLast}
use Rattle.writer_core.specs.Jobs.{commands, commands_of, session_job, tabs_job}
use Rattle.writer_core.specs.Working.{GoesOn, IssueAnswers, course}
use Rattle.writer_core.specs.declared.handling.Stopped.{Stopped}
use Rattle.writer_core.specs.declared.handling.Writers.{Writers}
use Rattle.writer_core.specs.declared.item.Item.{Item}
use Rattle.writer_core.specs.declared.item.Job.{Job}
use Rattle.writer_core.proofs.AnswerLaws.{answers_then, later_still, later_then}
use Rattle.writer_core.proofs.JobLaws.{commands-append}
use Rattle.writer_core.proofs.TellingLaws.{keeps_then, nothing_keeps}
use Rattle.writer_core.proofs.WorkLaws.{works_then}

-- jobs of one journal

module _ {M D S C : Type 0} {m : machine.Ghosts M S C} {d : disk.Ghosts D} where
  does_none : (old : Journal M D S C m d) → old.failed ≡ None → DoesAll {T = Unit {0}} [] old old (Ok tt)
  does_none old works = record {
    later = later_still (log old);
    answers = (works, λ small. omega arith);
    works = λ modelled b done same few on. subst (λ (jobs : List (Job C)). GoesOn b old jobs) (sym (append-nil done)) on;
    keeps_told = nothing_keeps tt old;
    counted = λ before. before;
  }

  does_one : {T : Type 0} (todo : Job C) (old new : Journal M D S C m d) (result : Result T JournalFault) → Does todo old new result → DoesAll (todo ∷ []) old new result
  does_one todo old new result does = record {
    later = does.later;
    answers = subst (λ (said : List C). IssueAnswers (length said) old new result) (sym (append-nil (commands_of todo))) does.answers;
    works = does.works;
    keeps_told = does.keeps_told;
    counted = does.counts.counted;
  }

  does_then : {T U : Type 0} (x : T) (jobs more : List (Job C)) (old mid new : Journal M D S C m d) (result : Result U JournalFault) → DoesAll jobs old mid (Ok x) → DoesAll more mid new result → DoesAll (jobs ++ more) old new result
  does_then x jobs more old mid new result one two = record {
    later = later_then (log old) (log mid) (log new) one.later two.later;
    answers = subst (λ (n : ℕ). IssueAnswers n old new result) (sym (ap length (commands-append jobs more) ∙ length-append (commands jobs) (commands more)))
        (answers_then (length (commands jobs)) (length (commands more)) (log old) (log mid) (log new) x result one.later one.answers two.answers);
    works = works_then x jobs more old mid new result one.later.limits one.works two.works;
    keeps_told = keeps_then x old mid new result one.keeps_told two.keeps_told;
    counted = λ before. two.counted (one.counted before);
  }

  through_none : (old : Journal M D S C m d) → GoesThrough [] old
  through_none old = λ modelled b done same few on. (on.account, subst (λ (jobs : List (Job C)). course m.kind b jobs ≡ Goes on.account) (sym (append-nil done)) on.is)

  through_then : {T : Type 0} (x : T) (jobs more : List (Job C)) (old mid : Journal M D S C m d) → DoesAll jobs old mid (Ok x) → GoesThrough more mid → GoesThrough (jobs ++ more) old
  through_then x jobs more old mid one goes = λ modelled b done same few on.
      let parts : (done ++ jobs) ++ more ≡ done ++ (jobs ++ more) = append_assoc done jobs more in
      let few_first : length (done ++ jobs) < 2 ^ 61 = omega (arith, few, length-append done (jobs ++ more), length-append jobs more, length-append done jobs) in
      let few_all : length ((done ++ jobs) ++ more) < 2 ^ 61 = subst (λ (all : List (Job C)). length all < 2 ^ 61) (sym parts) few in
      let there = goes modelled b (done ++ jobs) (same ∙ ap options (sym one.later.limits)) few_all (one.works modelled b done same few_first on) in
      (there.0, subst (λ (all : List (Job C)). course m.kind b all ≡ Goes there.0) parts there.1)

  turns_first : (todo : Job C) (old new : Journal M D S C m d) (turn : Turn) → old.failed ≡ None → Turns todo old new turn → TurnsLast [] todo old new turn
  turns_first todo old new Done works does = does_one todo old new (Ok tt) does
  turns_first todo old new (Refused why) works does = does_one todo old new (Err why) does
  turns_first todo old new Skipped works same = subst (λ (j : Journal M D S C m d). DoesAll [] old j (Ok tt)) (sym same) (does_none old works)

  turns_then : {T : Type 0} (x : T) (jobs before : List (Job C)) (last : Job C) (old mid new : Journal M D S C m d) (turn : Turn) → DoesAll jobs old mid (Ok x) → TurnsLast before last mid new turn → TurnsLast (jobs ++ before) last old new turn
  turns_then x jobs before last old mid new Done one two = subst (λ (all : List (Job C)). DoesAll {T = Unit {0}} all old new (Ok tt)) (sym (append_assoc jobs before (last ∷ []))) (does_then x jobs (before ++ last ∷ []) old mid new (Ok tt) one two)
  turns_then x jobs before last old mid new (Refused why) one two = subst (λ (all : List (Job C)). DoesAll {T = Unit {0}} all old new (Err why)) (sym (append_assoc jobs before (last ∷ []))) (does_then x jobs (before ++ last ∷ []) old mid new (Err why) one two)
  turns_then x jobs before last old mid new Skipped one two = does_then x jobs before old mid new (Ok tt) one two

  pub stops_then : {T : Type 0} (x : T) (jobs before : List (Job C)) (last : Job C) (old mid new : Journal M D S C m d) (turn : Turn) → DoesAll jobs old mid (Ok x) → StopsIn before last mid new turn → StopsIn (jobs ++ before) last old new turn
  stops_then x jobs before last old mid new turn one two = record {
    goes = through_then x jobs before old mid one two.goes;
    turns = turns_then x jobs before last old mid new turn one two.turns;
  }

  -- a journal lasts, whatever its turn was
  turn_lasts : (before : List (Job C)) (last : Job C) (old new : Journal M D S C m d) (turn : Turn) → TurnsLast before last old new turn → Lasts old new
  turn_lasts before last old new Done h = h.later
  turn_lasts before last old new (Refused why) h = h.later
  turn_lasts before last old new Skipped h = h.later

-- items of both journals

module _ {M N D S A T B : Type 0} {m : machine.Ghosts M S A} {n : machine.Ghosts N T B} {d : disk.Ghosts D} where
  pub handles_none : (old : Writers M N D S A T B m n d) → old.session.failed ≡ None → old.tabs.failed ≡ None → AllDone [] old old
  handles_none old session_works tabs_work = record { session = does_none old.session session_works; tabs = does_none old.tabs tabs_work }

  -- one item
  pub handles_one : {X : Type 0} (item : Item A B) (old new : Writers M N D S A T B m n d) (result : Result X Stopped) → old.session.failed ≡ None → old.tabs.failed ≡ None →
      Turns (session_job item) old.session new.session (turn_of Session result) → Turns (tabs_job item) old.tabs new.tabs (turn_of Tabs result) → HandlesAll (item ∷ []) old new result
  handles_one item old new (Ok x) session_works tabs_work session tabs = record {
    session = does_one (session_job item) old.session new.session (Ok tt) session;
    tabs = does_one (tabs_job item) old.tabs new.tabs (Ok tt) tabs;
  }
  handles_one item old new (Err stopped) session_works tabs_work session tabs = record {
    before = [];
    item = item;
    rest = [];
    parts = refl;
    session = record { goes = through_none old.session; turns = turns_first (session_job item) old.session new.session (turn_at Session stopped.family stopped.fault) session_works session };
    tabs = record { goes = through_none old.tabs; turns = turns_first (tabs_job item) old.tabs new.tabs (turn_at Tabs stopped.family stopped.fault) tabs_work tabs };
  }

  -- items one after another are handled as one list
  pub handles_then : {X : Type 0} (items more : List (Item A B)) (old mid new : Writers M N D S A T B m n d) (result : Result X Stopped) → AllDone items old mid → HandlesAll more mid new result → HandlesAll (items ++ more) old new result
  handles_then items more old mid new (Ok x) one two = record {
    session = subst (λ (jobs : List (Job A)). DoesAll jobs old.session new.session (Ok tt)) (sym (map-append session_job items more)) (does_then tt (map session_job items) (map session_job more) old.session mid.session new.session (Ok tt) one.session two.session);
    tabs = subst (λ (jobs : List (Job B)). DoesAll jobs old.tabs new.tabs (Ok tt)) (sym (map-append tabs_job items more)) (does_then tt (map tabs_job items) (map tabs_job more) old.tabs mid.tabs new.tabs (Ok tt) one.tabs two.tabs);
  }
  handles_then items more old mid new (Err stopped) one two = record {
    before = items ++ two.before;
    item = two.item;
    rest = two.rest;
    parts = append_assoc items two.before (two.item ∷ two.rest) ∙ ap (λ (left : List (Item A B)). items ++ left) two.parts;
    session = subst (λ (jobs : List (Job A)). StopsIn jobs (session_job two.item) old.session new.session (turn_at Session stopped.family stopped.fault)) (sym (map-append session_job items two.before))
        (stops_then tt (map session_job items) (map session_job two.before) (session_job two.item) old.session mid.session new.session (turn_at Session stopped.family stopped.fault) one.session two.session);
    tabs = subst (λ (jobs : List (Job B)). StopsIn jobs (tabs_job two.item) old.tabs new.tabs (turn_at Tabs stopped.family stopped.fault)) (sym (map-append tabs_job items two.before))
        (stops_then tt (map tabs_job items) (map tabs_job two.before) (tabs_job two.item) old.tabs mid.tabs new.tabs (turn_at Tabs stopped.family stopped.fault) one.tabs two.tabs);
  }

  -- a refusal of items refuses whatever was to follow
  pub handles_longer : (items more : List (Item A B)) (old new : Writers M N D S A T B m n d) (stopped : Stopped) → StopsAt items old new stopped → StopsAt (items ++ more) old new stopped
  handles_longer items more old new stopped h = record {
    before = h.before;
    item = h.item;
    rest = h.rest ++ more;
    parts = sym (append_assoc h.before (h.item ∷ h.rest) more) ∙ ap (λ (all : List (Item A B)). all ++ more) h.parts;
    session = h.session;
    tabs = h.tabs;
  }

  -- both journals last, whatever came of the items
  pub both_last : {X : Type 0} (items : List (Item A B)) (old new : Writers M N D S A T B m n d) (result : Result X Stopped) → HandlesAll items old new result → Lasts old.session new.session × Lasts old.tabs new.tabs
  both_last items old new (Ok x) h = (h.session.later, h.tabs.later)
  both_last items old new (Err stopped) h = (
    turn_lasts (map session_job h.before) (session_job h.item) old.session new.session (turn_at Session stopped.family stopped.fault) h.session.turns,
    turn_lasts (map tabs_job h.before) (tabs_job h.item) old.tabs new.tabs (turn_at Tabs stopped.family stopped.fault) h.tabs.turns,
  )

  -- items that were done so far, and those that are left
  pub record DoneSoFar (items left : List (Item A B)) (old now : Writers M N D S A T B m n d) : Type 0 where
    pub before : List (Item A B)
    pub parts : before ++ left ≡ items
    pub done : AllDone before old now

  -- one more of them
  module _ {X : Type 0} (items rest : List (Item A B)) (item : Item A B) (old mid new : Writers M N D S A T B m n d) (so_far : DoneSoFar items (item ∷ rest) old mid) (result : Result X Stopped)
      (session : Turns (session_job item) mid.session new.session (turn_of Session result)) (tabs : Turns (tabs_job item) mid.tabs new.tabs (turn_of Tabs result)) where
    all_parts : (so_far.before ++ item ∷ []) ++ rest ≡ items
    all_parts = append_assoc so_far.before (item ∷ []) rest ∙ so_far.parts

    one_handled : HandlesAll (so_far.before ++ item ∷ []) old new result
    one_handled = handles_then so_far.before (item ∷ []) old mid new result so_far.done (handles_one item mid new result so_far.done.session.answers.0 so_far.done.tabs.answers.0 session tabs)

    one_so_far : (x : X) → result ≡ Ok x → DoneSoFar items rest old new
    one_so_far x e = record { before = so_far.before ++ item ∷ []; parts = all_parts; done = subst (λ (r : Result X Stopped). HandlesAll (so_far.before ++ item ∷ []) old new r) e one_handled }

    stops_here : (stopped : Stopped) → result ≡ Err stopped → StopsAt items old new stopped
    stops_here stopped e = subst (λ (all : List (Item A B)). StopsAt all old new stopped) all_parts
        (handles_longer (so_far.before ++ item ∷ []) rest old new stopped (subst (λ (r : Result X Stopped). HandlesAll (so_far.before ++ item ∷ []) old new r) e one_handled))

  all_so_far : (items : List (Item A B)) (old now : Writers M N D S A T B m n d) → DoneSoFar items [] old now → AllDone items old now
  all_so_far items old now so_far = subst (λ (all : List (Item A B)). AllDone all old now) (sym (append-nil so_far.before) ∙ so_far.parts) so_far.done

  -- commands of one family, each as an item, while an iterator gives them
  module _ {C Z : Type 0} (item_of : C → Item A B) (IsCommand : C → Type 0) (commands : List C) where
    pub record CommandsLeft (left : IntoIter C Z) (old now : Writers M N D S A T B m n d) : Type 0 where
      pub counted : into_iter_len left ≡ length (into_iter_items left)
      pub are : AllByRecursion IsCommand (into_iter_items left)
      pub so_far : DoneSoFar (map item_of commands) (map item_of (into_iter_items left)) old now

    pub commands_left : (left : IntoIter C Z) (old : Writers M N D S A T B m n d) → into_iter_items left ≡ commands → into_iter_len left ≡ length commands → AllByRecursion IsCommand commands → old.session.failed ≡ None → old.tabs.failed ≡ None → CommandsLeft left old old
    commands_left left old all counted are session_works tabs_work = record {
      counted = counted ∙ ap length (sym all);
      are = subst (AllByRecursion IsCommand) (sym all) are;
      so_far = record { before = []; parts = ap (map item_of) all; done = handles_none old session_works tabs_work };
    }

    module _ {X : Type 0} (left rest : IntoIter C Z) (command : C) (old mid new : Writers M N D S A T B m n d) (steps : into_iter_steps left (Some command) rest) (so_far : CommandsLeft left old mid) (result : Result X Stopped)
        (session : Turns (session_job (item_of command)) mid.session new.session (turn_of Session result)) (tabs : Turns (tabs_job (item_of command)) mid.tabs new.tabs (turn_of Tabs result)) where
      abbrev here : DoneSoFar (map item_of commands) (item_of command ∷ map item_of (into_iter_items rest)) old mid
      here = subst (λ (cs : List C). DoneSoFar (map item_of commands) (map item_of cs) old mid) steps.0 so_far.so_far

      pub one_command_more : (x : X) → result ≡ Ok x → CommandsLeft rest old new
      one_command_more x e = record {
        counted = omega (arith, steps.1, so_far.counted, ap length steps.0);
        are = (subst (AllByRecursion IsCommand) steps.0 so_far.are).1;
        so_far = one_so_far (map item_of commands) (map item_of (into_iter_items rest)) (item_of command) old mid new here result session tabs x e;
      }

      pub stops_at_command : (stopped : Stopped) (answer : Result X Stopped) → result ≡ Err stopped → IsErrAnd answer (λ e. e ≡ stopped) → HandlesAll (map item_of commands) old new answer
      stops_at_command stopped (Ok x) e is = absurd is
      stops_at_command stopped (Err why) e is = stops_here (map item_of commands) (map item_of (into_iter_items rest)) (item_of command) old mid new here result session tabs why (e ∙ ap Err (sym is))

    pub no_command_left : (left : IntoIter C Z) (old now : Writers M N D S A T B m n d) → into_iter_len left ≡ 0 → CommandsLeft left old now → AllDone (map item_of commands) old now
    no_command_left left old now none so_far =
        all_so_far (map item_of commands) old now (subst (λ (cs : List C). DoneSoFar (map item_of commands) (map item_of cs) old now) (nil_from_length (into_iter_items left) (sym so_far.counted ∙ none)) so_far.so_far)
