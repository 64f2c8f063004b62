-- The steps of a run joined: why it answers so, what it has said, and what it leaves on both disks.
use Rattle.std.proofs.Common.{◌≡◌, ◌⊎◌, ℕ, ◌+◌, ◌<◌, List, [], ◌∷◌, ◌++◌, length, Option, Some, None, IfSome, Ok, Err, refl, sym, ap, ◌∙◌, subst, inl, inr, arith}
use Rattle.std.proofs.lemmas.List.{append-nil}
use Rattle.std.proofs.Math.Path.{fun_ext}
use Rattle.session_disk.specs.Histories.{History, Leaves}
use Rattle.session_disk.specs.declared.family.Family.{Family}
use Rattle.session_disk.specs.declared.family.Family.TheVariants.{Session, Tabs}
use Rattle.log_writer.specs.Journals.{IsReady}
use Rattle.log_writer.specs.Log.{Log, IsLeft}
use Rattle.log_writer.specs.Opening.{Seen}
use Rattle.log_writer.specs.declared.limits.Limits.{Limits}
use Rattle.log_writer.specs.declared.fault.JournalFault.{JournalFault}
use Rattle.log_writer.specs.declared.fault.JournalFault.TheVariants as fault
use Rattle.log_writer.proofs.ForeignLaws.{waits_left, longer_left}
use Rattle.window_state.specs.States.{IsState as IsSession}
use Rattle.closed_entries.specs.States.{IsState as IsClosed}
use Rattle.compactor.specs.session.SessionKind.{IsCommand as IsSessionCommand}
use Rattle.compactor.specs.session.Laws.SessionLaws.{session_lawful}
use Rattle.tabs_compactor.specs.TabsKind.{IsCommand as IsTabsCommand}
use Rattle.tabs_compactor.specs.Laws.TabsLaws.{tabs_lawful}
use Rattle.writer_core.specs.Accounts.{StopsFor}
use Rattle.writer_core.specs.Course.{Options, options}
use Rattle.writer_core.specs.Opening.{Opens, RefusesOpening, disks}
use Rattle.writer_core.specs.Working.{Beginning, FaultCause, HoldsCommands}
use Rattle.writer_core.specs.declared.handling.Stopped.{Stopped}
use Rattle.writer_core.proofs.OpeningLaws.{beginning, on, opened_left, opened_state}
use Rattle.run_words.specs.declared.order.Origin.{Origin}
use Rattle.run_words.specs.declared.order.Origin.TheVariants.{Script as ReadScript, Generated}
use Rattle.run_words.specs.declared.status.Status.{Status}
use Rattle.run_words.specs.declared.status.Status.TheVariants.{Write, Memory}
use Rattle.run_words.specs.declared.why.Why.{Why}
use Rattle.run_words.specs.Words.{Asked, order_of}
use Rattle.script_run.specs.declared.halt.Halt.TheVariants as halt
use Rattle.script_run.specs.Families.{CommandOf, Firsts, StateOf, kind_of}
use Rattle.script_run.specs.Runs.{CutAt, HasRun, LeavesRun, Logs, RunHalted, RunsScript, SaysHalted, ShowsPicture, WhereOpened, said_behind_start, states_of}
use Rattle.script_run.specs.Script.{course_of, steps_of}
use Rattle.script_run.specs.Steps.{Step, Handle, issued_to, items_of, jobs_of, said_by}
use Rattle.script_run.specs.Whole.{Ran}
use Rattle.script_run.specs.Verdict.{Beginnings, RunAccounts, end_of, firsts_of, run_accounts}
use Rattle.session_drive.specs.Answers.{answer_by, status_of}
use Rattle.session_drive.specs.Attempt.{IsRefused, IsRunOf, SaysFirst}
use Rattle.session_drive.specs.Causes.{HasCause}
use Rattle.session_drive.specs.Reading.{IsAsked, IsScript, read_causes}
use Rattle.session_drive.specs.Run.{Found, BeginsAt, EndsBehind, EndsFirst, IsAtOpening, IsCutBy, IsOver, LeavesScript, Opened, SaysCut, Started, WhereBegun, WhereKnown, answer_of, answer_to, causes, script_from, script_of}
use Rattle.session_drive.proofs.CauseLaws.{IsExact, answer_done, cause_answered, cause_implied, fault_calls, fault_caused, fault_not_done, not_answered}
use Rattle.session_drive.proofs.EndLaws.{ended_by, opening_stays, session_stops, tabs_stop}
use Rattle.session_drive.proofs.OutputLaws.{fault_said, read_said, script_said, writes_weaken}

-- what holds of both families
pub each : (P : Family → Type 0) → P Session → P Tabs → (family : Family) → P family
each P session tabs Session = session
each P session tabs Tabs = tabs

-- a text that is known is the one that is there
told_text : (P : List ℕ → Type 0) (known : Option (List ℕ)) (text : List ℕ) → IfSome known (λ all. text ≡ all) → P text → IfSome known P
told_text P None text e h = tt
told_text P (Some all) text e h = subst P e h

any_text : (P : List ℕ → Type 0) (known : Option (List ℕ)) → ((text : List ℕ) → P text) → IfSome known P
any_text P None h = tt
any_text P (Some all) h = h all

-- a disk that waits for a run leaves what is good for any commands
waits : (family : Family) (old new : History) (first : StateOf family) → new ≡ old → IsReady (kind_of family) old.now first → (q : List (CommandOf family)) → Leaves old new (IsLeft (kind_of family) old.now first q)
waits Session old new first same ready q = longer_left (kind_of Session) old new first [] q (waits_left (kind_of Session) IsSession IsSessionCommand session_lawful old.now first ready old new refl same)
waits Tabs old new first same ready q = longer_left (kind_of Tabs) old new first [] q (waits_left (kind_of Tabs) IsClosed IsTabsCommand tabs_lawful old.now first ready old new refl same)

-- what a crash leaves on the disk of a family
abbrev LeftOn : Found → (family : Family) → Firsts → List ℕ → Type 0
LeftOn found family firsts text = Leaves (found.entry family).history (found.exit family).history (IsLeft (kind_of family) (found.entry family).history.now (firsts family) (issued_to family (steps_of firsts text)))

-- an answer for a fault of the journal of this family
pub as_stopped : (P : Status → Type 0) (status : Status) (stopped : Stopped) (family : Family) → status ≡ status_of stopped.family stopped.fault → stopped.family ≡ family → P (status_of family stopped.fault) → P status
as_stopped P status stopped family is same h = subst P (sym is) (subst (λ (f : Family). P (status_of f stopped.fault)) (sym same) h)

-- disks that were handed back
pub closed_disks : {D : Type 0} (history : D → History) (failed : D → ℕ) (session tabs first second : D) → session ≡ first → tabs ≡ second → disks history failed session tabs ≡ disks history failed first second
closed_disks {D} history failed session tabs first second e f = ap (λ (d : D). disks history failed d tabs) e ∙ ap (λ (d : D). disks history failed first d) f

-- a fault that the accounts say exactly

at_opening : (found : Found) (family : Family) (why : JournalFault) → (IsExact why → WhereBegun found (λ b. end_of b [] ≡ Some (status_of family why))) → IsAtOpening found (status_of family why)
at_opening found family (fault.AlreadyFailed first) ends = tt
at_opening found family (fault.TooLong needed) ends = ends tt
at_opening found family (fault.LastStamp stamp) ends = ends tt
at_opening found family fault.Disk ends = tt
at_opening found family fault.Memory ends = tt

cut_by : (found : Found) (family : Family) (why : JournalFault) (done left : List Step) → (IsExact why → EndsBehind found done left (status_of family why)) → IsCutBy found done left (status_of family why)
cut_by found family (fault.AlreadyFailed first) done left ends = tt
cut_by found family (fault.TooLong needed) done left ends = ends tt
cut_by found family (fault.LastStamp stamp) done left ends = ends tt
cut_by found family fault.Disk done left ends = tt
cut_by found family fault.Memory done left ends = tt

-- a script that is read is the text of the source, which isn't too long
source_short : (origin : Origin) (left : Option (List ℕ)) (text : List ℕ) → IsScript origin left text → IfSome left (λ all. (most : ℕ) → origin ≡ ReadScript most → length all < most + 1)
source_short origin None text s = tt
source_short (ReadScript few) (Some all) text s = λ most is. subst (λ (t : List ℕ). length t < most + 1) s.known (s.short most is)
source_short (Generated x count) (Some all) text s = λ most is. absurd cc

-- there is no script
pub unread : (found : Found) (read same_session same_tabs : Type 0) (status : Status)
    → ((family : Family) → found.exit family ≡ found.entry family) → same_session → same_tabs
    → HasCause (read_causes (order_of found.words) found.text read) status
    → IsRefused found read same_session same_tabs status
unread found read same_session same_tabs status same session tabs cause = record {
  cause = cause_implied (read_causes (order_of found.words) found.text read) (causes found read ⊥) (record {
    usage = λ h. h;
    read = λ h. h;
    write = λ h. h;
    long_script = λ needed h. h;
    answered = λ answer h. absurd h;
    disk = λ family h. absurd h;
    long_file = λ family needed h. absurd h;
    last_stamp = λ family stamp h. absurd h;
  }) status cause;
  says_none = read_said found (order_of found.words) found.text read status cause;
  undone = not_answered (read_causes (order_of found.words) found.text read) (λ answer h. h) status cause;
  crash = λ modelled firsts ready. any_text (λ text. (family : Family) → LeftOn found family firsts text) (script_of found)
      (λ text family. waits family (found.entry family).history (found.exit family).history (firsts family)
      (ap (λ (s : Seen). s.history) (same family)) (ready family) (issued_to family (steps_of firsts text)));
  order = inl tabs;
  not_called = λ calls. (session, tabs);
}

module _ (found : Found) (limits : Limits) (script : List ℕ) (a : IsAsked (order_of found.words) found.text script limits) where
  same_options : (family : Family) (b : Beginning (StateOf family)) → BeginsAt found family b → b.options ≡ options limits
  same_options family b at =
      let same : at.asked ≡ a.asked = let e = sym at.is ∙ a.is in cc in
      at.options ∙ ap (λ (asked : Asked). asked.options) same ∙ a.limited

  is_over : (needed : ℕ) → limits.max_file < needed → IsOver (order_of found.words) needed
  is_over needed over =
      let here : a.asked.options.max_file < needed = subst (λ (o : Options). o.max_file < needed) (sym a.limited) over in
      subst (λ (o : Option Asked). IsOver o needed) (sym a.is) here

  ends_first : (answer : Status) → WhereKnown found (λ b text. end_of b (items_of (steps_of (firsts_of b) text)) ≡ Some answer) → EndsFirst found answer
  ends_first answer ends = record { asked = a.asked; is = a.is; short = source_short a.asked.origin found.text script a.script; ends = ends }

  known : (P : List ℕ → Type 0) → P script → IfSome (script_of found) P
  known P h = told_text P (script_of found) script (subst (λ (o : Option Asked). IfSome (script_from found.text o) (λ all. script ≡ all)) (sym a.is) a.script.known) h

  -- an opening was refused, with this left on the disks
  opening_refused : (family : Family) (read same_session same_tabs : Type 0) (why : JournalFault)
      → RefusesOpening (kind_of family) found.modelled limits (found.entry family) (found.exit family) why
      → WhereBegun found (λ b. StopsFor (run_accounts b []) family why) → LeavesScript found
      → same_tabs ⊎ Opened found Session → IsRefused found read same_session same_tabs (status_of family why)
  opening_refused family read same_session same_tabs why r stops crash order =
      let before = (found.entry family).failures in
      let after = (found.exit family).failures in
      let ends = λ (exact : IsExact why) (x : RunAccounts) (h : StopsFor x family why).
      ended_by x family limits.max_file before after why r.cause exact h in
      record {
        cause = fault_caused found read ⊥ family limits.max_file before after why r.cause (λ rose. rose) is_over
            (λ exact. ends_first (status_of family why) (λ modelled b at. known (λ text. end_of b (items_of (steps_of (firsts_of b) text)) ≡ Some (status_of family why))
            (let items = items_of (steps_of (firsts_of b) script) in ends exact (run_accounts b items) (opening_stays b items family why (stops modelled b at)))));
        says_none = fault_said found family why [] (inl (
          at_opening found family why
              (λ exact modelled b at. ends exact (run_accounts b []) (stops modelled b at)),
          refl,
        ));
        undone = fault_not_done family why;
        crash = crash;
        order = order;
        not_called = λ calls. absurd (fault_calls family why calls);
      }

  pub session_refused : (read same_session same_tabs : Type 0) (why : JournalFault)
      → RefusesOpening (kind_of Session) found.modelled limits (found.entry Session) (found.exit Session) why
      → found.exit Tabs ≡ found.entry Tabs → same_tabs
      → IsRefused found read same_session same_tabs (status_of Session why)
  session_refused read same_session same_tabs why r same tabs = opening_refused Session read same_session same_tabs why r
      (λ modelled b at. session_stops b why (r.stops modelled (b Session) (same_options Session (b Session) (at Session)) (at Session).begins []))
      (λ modelled firsts ready. known (λ text. (family : Family) → LeftOn found family firsts text) (each (λ family. LeftOn found family firsts script)
      (longer_left (kind_of Session) (found.entry Session).history (found.exit Session).history (firsts Session) [] (issued_to Session (steps_of firsts script)) (r.left modelled (firsts Session) (ready Session)))
      (waits Tabs (found.entry Tabs).history (found.exit Tabs).history (firsts Tabs) (ap (λ (s : Seen). s.history) same) (ready Tabs) (issued_to Tabs (steps_of firsts script)))))
      (inl tabs)

  -- a journal that was opened goes, by its account
  pub opened : (family : Family) (l : Log (StateOf family) (CommandOf family)) → Opens (kind_of family) found.modelled limits (found.entry family) l → Opened found family
  opened family l o modelled b at = let on = o.begins modelled b (same_options family b at) at.begins in (on.account, on.is)

  pub tabs_refused : (read same_session same_tabs : Type 0) (why : JournalFault) (l : Log (StateOf Session) (CommandOf Session)) → Opens (kind_of Session) found.modelled limits (found.entry Session) l → (found.exit Session).history ≡ l.history →
      RefusesOpening (kind_of Tabs) found.modelled limits (found.entry Tabs) (found.exit Tabs) why → IsRefused found read same_session same_tabs (status_of Tabs why)
  tabs_refused read same_session same_tabs why l o closed r = opening_refused Tabs read same_session same_tabs why r
      (λ modelled b at. tabs_stop b (opened Session l o modelled (b Session) (at Session)) why (r.stops modelled (b Tabs) (same_options Tabs (b Tabs) (at Tabs)) (at Tabs).begins []))
      (λ modelled firsts ready. known (λ text. (family : Family) → LeftOn found family firsts text) (each (λ family. LeftOn found family firsts script)
      (subst (λ (h : History). Leaves (found.entry Session).history h (IsLeft (kind_of Session) (found.entry Session).history.now (firsts Session) (issued_to Session (steps_of firsts script)))) (sym closed)
      (opened_left (kind_of Session) found.modelled limits (found.entry Session) l o modelled (firsts Session) (ready Session) (jobs_of Session (steps_of firsts script))))
      (longer_left (kind_of Tabs) (found.entry Tabs).history (found.exit Tabs).history (firsts Tabs) [] (issued_to Tabs (steps_of firsts script)) (r.left modelled (firsts Tabs) (ready Tabs)))))
      (inr (opened Session l o))

  -- the script was run over both journals
  module _ (old new : Logs) (opens : (family : Family) → Opens (kind_of family) found.modelled limits (found.entry family) (old family))
      (closed : (family : Family) → found.exit family ≡ record { history = (new family).history; failures = (new family).failures }) where
    states_are : found.modelled → (firsts : Firsts) → ((family : Family) → IsReady (kind_of family) (found.entry family).history.now (firsts family)) → states_of old ≡ firsts
    states_are modelled firsts ready = fun_ext (λ family. opened_state (kind_of family) found.modelled limits (found.entry family) (old family) (opens family) modelled (firsts family) (ready family))

    begins_with : found.modelled → (b : Beginnings) → ((family : Family) → BeginsAt found family (b family)) → states_of old ≡ firsts_of b
    begins_with modelled b at = states_are modelled (firsts_of b) (λ family. (at family).begins.ready)

    where_begun : (P : Beginnings → Type 0) → WhereOpened found.modelled old P → WhereBegun found P
    where_begun P h modelled b at = h modelled b
        (λ family. same_options family (b family) (at family) ∙ ap options (sym (opens family).limited))
        (λ family. (opens family).begins modelled (b family) (same_options family (b family) (at family)) (at family).begins)

    where_known : (P : Beginnings → Firsts → List ℕ → Type 0) → WhereOpened found.modelled old (λ b. P b (states_of old) script) → WhereKnown found (λ b text. P b (firsts_of b) text)
    where_known P h modelled b at = known (P b (firsts_of b))
        (subst (λ (firsts : Firsts). P b firsts script) (begins_with modelled b at) (where_begun (λ b. P b (states_of old) script) h modelled b at))

    abbrev started : Started found
    started = record {
      firsts = states_of old;
      recovered = λ family modelled first ready. sym (opened_state (kind_of family) found.modelled limits (found.entry family) (old family) (opens family) modelled first ready);
      opened = λ family. opened family (old family) (opens family);
      text = script;
      asked = a.asked;
      is = a.is;
      short = a.script.short;
      known = known (λ text. script ≡ text) refl;
    }

    abbrev steps : List Step
    steps = steps_of (states_of old) script

    exit_history : (family : Family) → (found.exit family).history ≡ (new family).history
    exit_history family = ap (λ (s : Seen). s.history) (closed family)

    left : LeavesRun found.modelled old new script → LeavesScript found
    left crash modelled firsts ready = known (λ text. (family : Family) → LeftOn found family firsts text) (λ family.
        subst (λ (h : History). Leaves (found.entry family).history h (IsLeft (kind_of family) (found.entry family).history.now (firsts family) (issued_to family (steps_of firsts script)))) (sym (exit_history family))
        (subst (λ (f : Firsts). Leaves (found.entry family).history (new family).history (IsLeft (kind_of family) (found.entry family).history.now (firsts family) (issued_to family (steps_of f script)))) (states_are modelled firsts ready)
        (crash modelled (λ family. beginning (kind_of family) found.modelled limits (found.entry family) (old family) (opens family) modelled (firsts family) (ready family))
        (λ family. ap options (sym (opens family).limited))
        (λ family. on (kind_of family) found.modelled limits (found.entry family) (old family) (opens family) modelled (firsts family) (ready family)) family)))

    module _ (read write : Type 0) (written printed : Option (List ℕ)) (crash : LeavesRun found.modelled old new script) where
      -- to its end, or to a line that is refused
      answer_is : (refused : Option (ℕ × Why)) → HasRun found.modelled old new script written printed refused → answer_of refused (new Session).present.count (new Tabs).present.count ≡ answer_to (states_of old) script
      answer_is refused h =
          ap (λ (r : Option (ℕ × Why)). answer_of r (new Session).present.count (new Tabs).present.count) h.refused_is
          ∙ ap (λ (n : ℕ). answer_of (course_of (states_of old) script).refused n (new Tabs).present.count) (h.counts Session)
          ∙ ap (λ (n : ℕ). answer_of (course_of (states_of old) script).refused (length (issued_to Session steps)) n) (h.counts Tabs)

      run_whole : (refused : Option (ℕ × Why)) → HasRun found.modelled old new script written printed refused → IsRunOf found read write written printed (answer_of refused (new Session).present.count (new Tabs).present.count)
      run_whole refused h =
          let answer = answer_of refused (new Session).present.count (new Tabs).present.count in
          let done = answer_done refused (new Session).present.count (new Tabs).present.count in
          record {
            cause = cause_answered (causes found read write) answer done
                (started, answer_is refused h, where_known (λ b firsts text. end_of b (items_of (steps_of firsts text)) ≡ None) h.none_ends);
            output = writes_weaken written printed (λ said. said ≡ said_behind_start (states_of old) steps) (SaysFirst found answer)
                (λ said e. script_said found answer said done (started, answer_is refused h, e)) h.says;
            done = λ _. where_known (λ b firsts text. (family : Family) → HoldsCommands (kind_of family) (b family) (found.exit family).history (jobs_of family (steps_of firsts text)))
                (λ modelled b limited on family. subst (λ (now : History). HoldsCommands (kind_of family) (b family) now (jobs_of family steps)) (sym (exit_history family)) (h.holds modelled b limited on family));
            picture = λ _. where_known (λ b firsts text. ShowsPicture firsts text) (λ modelled b limited on. h.shows);
            crash = left crash;
          }

      -- a journal refused, or the sink failed, or memory ran out
      cut_at : (stopped : Stopped) (done : List Step) (c : CutAt found.modelled old steps done stopped) → FaultCause (old stopped.family).limits.max_file (old stopped.family).failures (new stopped.family).failures stopped.fault →
          IsExact stopped.fault → EndsBehind found done (Handle c.item ∷ c.rest) (status_of stopped.family stopped.fault)
      cut_at stopped done c cause exact modelled b at = (
        c.item,
        c.rest,
        refl,
        where_begun (λ b. end_of b (items_of done) ≡ None) c.goes modelled b at,
        ended_by (run_accounts b (items_of (done ++ Handle c.item ∷ []))) stopped.family (old stopped.family).limits.max_file (old stopped.family).failures (new stopped.family).failures stopped.fault cause exact
            (where_begun (λ b. StopsFor (run_accounts b (items_of (done ++ Handle c.item ∷ []))) stopped.family stopped.fault) c.stops modelled b at),
      )

      said_done : (fault : Status) (done rest : List Step) (said : List ℕ) → done ++ rest ≡ steps → IsCutBy found done rest fault → said ≡ said_behind_start (states_of old) done → SaysCut found (λ more. more ≡ []) fault said
      said_done fault done rest said parts cut e = record {
        run = started;
        done = done;
        left = rest;
        parts = parts;
        cut = cut;
        more = [];
        says_more = refl;
        is = rw (append-nil (said_by done)) e;
      }

      journal_halted : (stopped : Stopped) → RunHalted found.modelled write old new script written printed (halt.Journal stopped) → IsRunOf found read write written printed (status_of stopped.family stopped.fault)
      journal_halted stopped h = record {
        cause = fault_caused found read write stopped.family (old stopped.family).limits.max_file (old stopped.family).failures (new stopped.family).failures stopped.fault h.cause
            (λ rose. omega (arith, rose, (opens stopped.family).later, ap (λ (s : Seen). s.failures) (closed stopped.family)))
            (λ needed over. is_over needed (subst (λ (l : Limits). l.max_file < needed) (opens stopped.family).limited over))
            (λ exact. ends_first (status_of stopped.family stopped.fault) (where_known (λ b firsts text. end_of b (items_of (steps_of firsts text)) ≡ Some (status_of stopped.family stopped.fault)) (λ modelled b limited on.
            ended_by (run_accounts b (items_of steps)) stopped.family (old stopped.family).limits.max_file (old stopped.family).failures (new stopped.family).failures stopped.fault h.cause exact (h.ends modelled b limited on))));
        output = writes_weaken written printed (SaysHalted found.modelled old (states_of old) steps (halt.Journal stopped)) (SaysFirst found (status_of stopped.family stopped.fault)) (λ said (done, c, e). fault_said found stopped.family stopped.fault said
            (inr (said_done (status_of stopped.family stopped.fault) done (Handle c.item ∷ c.rest) said c.parts (cut_by found stopped.family stopped.fault done (Handle c.item ∷ c.rest) (cut_at stopped done c h.cause)) e))) h.says;
        done = λ done. absurd (fault_not_done stopped.family stopped.fault done);
        picture = λ done. absurd (fault_not_done stopped.family stopped.fault done);
        crash = left crash;
      }

      write_halted : RunHalted found.modelled write old new script written printed halt.Write → IsRunOf found read write written printed Write
      write_halted h = record {
        cause = h.cause;
        output = writes_weaken written printed (SaysHalted found.modelled old (states_of old) steps halt.Write) (SaysFirst found Write) (λ said cut. (started, cut)) h.says;
        done = λ done. absurd done;
        picture = λ done. absurd done;
        crash = left crash;
      }

      memory_says : (said : List ℕ) → SaysHalted found.modelled old (states_of old) steps halt.Memory said → SaysFirst found Memory said
      memory_says said (inl e) = inl (tt, e)
      memory_says said (inr (done, rest, parts, e)) = inr (said_done Memory done rest said parts tt e)

      memory_halted : RunHalted found.modelled write old new script written printed halt.Memory → IsRunOf found read write written printed Memory
      memory_halted h = record {
        cause = tt;
        output = writes_weaken written printed (SaysHalted found.modelled old (states_of old) steps halt.Memory) (SaysFirst found Memory) memory_says h.says;
        done = λ done. absurd done;
        picture = λ done. absurd done;
        crash = left crash;
      }

      pub ran : (answer : Ran) → RunsScript found.modelled write old new script written printed answer
          → IsRunOf found read write written printed (answer_by answer (new Session).present.count (new Tabs).present.count)
      ran (Ok refused) h = run_whole refused h
      ran (Err (halt.Journal stopped)) h = journal_halted stopped h
      ran (Err halt.Write) h = write_halted h
      ran (Err halt.Memory) h = memory_halted h
