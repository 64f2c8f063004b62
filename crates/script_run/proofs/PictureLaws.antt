-- After the commands of a run both states show what the browser shows after its lines.
use Rattle.std.proofs.Common.{◌≡◌, ℕ, ◌+◌, List, [], ◌∷◌, ◌++◌, reverse, Option, Result, Ok, Err, OnOk, refl, sym}
use Rattle.std.proofs.Common.{ap, ◌∙◌, subst}
use Rattle.machine_law.specs.Kind.{fold}
use Rattle.file_rotation.proofs.FoldLaws.{fold-append}
use Rattle.session_disk.specs.declared.family.Family.TheVariants.{Session, Tabs}
use Rattle.session_commands.specs.declared.command.SessionCommand.{SessionCommand}
use Rattle.tab_restore_commands.specs.declared.command.TabsCommand.{TabsCommand}
use Rattle.window_state.specs.States as window_state
use Rattle.window_state.specs.States.{State}
use Rattle.window_state.specs.Views.{view}
use Rattle.closed_entries.specs.States as closed_entries
use Rattle.closed_entries.specs.declared.entry.Entry.{Entry}
use Rattle.replay_machine.specs.Step as replay
use Rattle.browser_model.specs.Beginnings.{begun}
use Rattle.browser_model.specs.Browsers.{Browser, Matches}
use Rattle.browser_model.specs.Running.{IsRunning}
use Rattle.browser_model.specs.Tidying.{tidying}
use Rattle.browser_model.proofs.BegunLaws.{begun-matches, begun-groups}
use Rattle.browser_model.proofs.GroupLaws.{picture-is}
use Rattle.browser_model.proofs.RunningLaws.{running-fold}
use Rattle.browser_model.proofs.TidyView.{tidyable}
use Rattle.browser_driver.specs.Acts.{Outcome, act}
use Rattle.browser_driver.proofs.ActLaws.{act-matches, act-running}
use Rattle.browser_driver.proofs.OutcomeLaws.{AreInOrder, act-groups}
use Rattle.compactor.specs.session.SessionKind.{session_kind}
use Rattle.script_lines.specs.Lines.{lines}
use Rattle.script_lines.specs.declared.verb.Verb.{Verb}
use Rattle.tabs_compactor.specs.TabsKind.{tabs_kind}
use Rattle.tabs_compactor.specs.Tidying as closed_tidying
use Rattle.run_words.specs.declared.why.Why.{Why}
use Rattle.script_run.specs.declared.halt.Halt.{Halt}
use Rattle.script_run.specs.Closed.{HoldsClosed, LeadsClosed}
use Rattle.script_run.specs.Families.{Firsts}
use Rattle.script_run.specs.Runs.{ShowsPicture, last_state}
use Rattle.script_run.specs.Script.{course_from, course_of, first_browser, outcome_steps, steps_of}
use Rattle.script_run.specs.Steps.{Step, issued_to}
use Rattle.script_run.proofs.ClosedLaws.{fold-tidying}
use Rattle.script_run.proofs.GroupOrderLaws.{fold-groups}
use Rattle.script_run.proofs.KeepingLaws.{lines-keep}
use Rattle.script_run.proofs.OutcomeSteps.{session-outcome, session-run, tabs-run}
use Rattle.script_run.proofs.StepLaws.{issued-append}

-- the session's machine steps as its replay does
same-fold : (s : State) (cs : List SessionCommand) → fold session_kind s cs ≡ replay.fold s cs
same-fold s [] = refl
same-fold s (c ∷ cs) = same-fold (replay.step s c) cs

-- the state shows the browser
record IsShown (s : State) (b : Browser) : Type 0 where
  running : IsRunning s
  matches : Matches s b
  state_groups : AreInOrder s.groups
  browser_groups : AreInOrder b.groups

abbrev LeadsShown : ℕ → Browser → List Step → Browser → Type 0
LeadsShown n b steps next = (s : State) → IsShown s b → IsShown (fold session_kind s (issued_to Session steps)) next

shown-verb : (verb : Verb) (b : Browser) (o : Outcome) → act verb b ≡ Ok o
    → LeadsShown 1 b (outcome_steps verb o) o.browser
shown-verb verb b o done s h =
    let same : fold session_kind s (issued_to Session (outcome_steps verb o)) ≡ replay.fold s o.session =
    ap (fold session_kind s) (session-outcome verb o) ∙ same-fold s o.session in
    subst (λ x. IsShown x o.browser) (sym same) (record {
      running = act-running s o h.running;
      matches = act-matches verb s b o h.running h.matches done;
      state_groups = fold-groups s o.session h.state_groups;
      browser_groups = act-groups verb b o h.browser_groups done;
    })

shown-then : (n k : ℕ) (b c e : Browser) (steps more : List Step) → LeadsShown n b steps c → LeadsShown k c more e
    → LeadsShown (n + k) b (steps ++ more) e
shown-then n k b c e steps more one two s h =
    let same : fold session_kind s (issued_to Session (steps ++ more))
    ≡ fold session_kind (fold session_kind s (issued_to Session steps)) (issued_to Session more) =
    ap (fold session_kind s) (issued-append Session steps more)
    ∙ fold-append session_kind s (issued_to Session steps) (issued_to Session more) in
    subst (λ x. IsShown x e) (sym same) (two (fold session_kind s (issued_to Session steps)) (one s h))

shown-lines : (ls : List (List ℕ)) (b : Browser) (s : State) → IsShown s b
    → IsShown (fold session_kind s (issued_to Session (course_from 1 b ls).steps)) (course_from 1 b ls).last
shown-lines ls b = lines-keep LeadsShown (λ n c s h. h) shown-verb shown-then ls 1 b

shown-tidied : (s : State) (closed : List Entry) → window_state.IsState s
    → IsShown (fold session_kind s (tidying s)) (begun (view s) s.active closed)
shown-tidied s closed is = subst (λ x. IsShown x (begun (view s) s.active closed)) (sym (same-fold s (tidying s)))
    (record {
      running = running-fold s (tidying s) (tidyable s is).running;
      matches = begun-matches s closed is;
      state_groups = fold-groups s (tidying s) is.ordered.groups;
      browser_groups = begun-groups s closed is;
    })

-- what closed entries come to, command after command
pub closed-then : (b c e : Browser) (first more : List TabsCommand) → LeadsClosed b first c → LeadsClosed c more e
    → LeadsClosed b (first ++ more) e
closed-then b c e first more one two s h =
    subst (λ x. HoldsClosed x e) (sym (fold-append tabs_kind s first more)) (two (fold tabs_kind s first) (one s h))

closed-tidied : (s : closed_entries.State) (b : Browser) → closed_entries.IsState s → s.entries ≡ b.closed
    → HoldsClosed (fold tabs_kind s (closed_tidying.tidying s)) b
closed-tidied s b is same = subst (λ x. HoldsClosed x b) (sym (fold-tidying s is)) (record {
  awaits_none = refl;
  entries = same;
  few = is.few;
})

-- the commands of a whole run
module _ (firsts : Firsts) (text : List ℕ) where
  session-all : issued_to Session (steps_of firsts text)
      ≡ tidying (firsts Session) ++ issued_to Session (course_of firsts text).steps
  session-all =
      session-run (tidying (firsts Session)) (closed_tidying.tidying (firsts Tabs)) (course_of firsts text).steps

  tabs-all : issued_to Tabs (steps_of firsts text)
      ≡ closed_tidying.tidying (firsts Tabs) ++ issued_to Tabs (course_of firsts text).steps
  tabs-all = tabs-run (tidying (firsts Session)) (closed_tidying.tidying (firsts Tabs)) (course_of firsts text).steps

  shows-picture : window_state.IsState (firsts Session) → closed_entries.IsState (firsts Tabs)
      → LeadsClosed (first_browser firsts) (issued_to Tabs (course_of firsts text).steps) (course_of firsts text).last
      → ShowsPicture firsts text
  shows-picture session tabs closed =
      let s = firsts Session in
      let c = firsts Tabs in
      let course = course_of firsts text in
      let first = first_browser firsts in
      let to : last_state Session firsts text
      ≡ fold session_kind (fold session_kind s (tidying s)) (issued_to Session course.steps) =
      ap (fold session_kind s) session-all ∙ fold-append session_kind s (tidying s) (issued_to Session course.steps) in
      let gone : last_state Tabs firsts text
      ≡ fold tabs_kind (fold tabs_kind c (closed_tidying.tidying c)) (issued_to Tabs course.steps) =
      ap (fold tabs_kind c) tabs-all ∙ fold-append tabs_kind c (closed_tidying.tidying c) (issued_to Tabs
      course.steps) in
      let shown = shown-lines (lines text) first (fold session_kind s (tidying s)) (shown-tidied s c.entries session) in
      let held = closed (fold tabs_kind c (closed_tidying.tidying c)) (closed-tidied c first tabs refl) in
      record {
        view = ap view to ∙ picture-is (fold session_kind (fold session_kind s (tidying s)) (issued_to Session
            course.steps))
            course.last shown.running shown.matches shown.state_groups shown.browser_groups;
        closed = ap (λ (x : closed_entries.State). reverse x.entries) gone ∙ ap reverse held.entries;
      }

  pub picture-shown : window_state.IsState (firsts Session) → closed_entries.IsState (firsts Tabs)
      → (ran : Result (Option (ℕ × Why)) Halt) → OnOk ran (LeadsClosed (first_browser firsts)
      (issued_to Tabs (course_of firsts text).steps) (course_of firsts text).last) → OnOk ran (ShowsPicture firsts text)
  picture-shown session tabs (Ok refused) closed = shows-picture session tabs closed
  picture-shown session tabs (Err why) closed = tt
