-- How far steps were done, by lines that were acted on; and a halt among them.
use Rattle.std.proofs.Common.{◌≡◌, List, [], ◌++◌, None, append_assoc, refl, sym, ap, ◌∙◌, subst}
use Rattle.std.proofs.lemmas.List.{append-nil}
use Rattle.machine_law.specs.declared.machine.Machine as machine
use Rattle.session_disk.specs.declared.disk.SessionDisk as disk
use Rattle.session_disk.specs.declared.family.Family.TheVariants.{Tabs}
use Rattle.session_commands.specs.declared.command.SessionCommand.{SessionCommand}
use Rattle.tab_restore_commands.specs.declared.command.TabsCommand.{TabsCommand}
use Rattle.window_state.specs.States.{State as SessionState}
use Rattle.closed_entries.specs.States.{State as ClosedState}
use Rattle.browser_model.specs.Browsers.{Browser}
use Rattle.script_run.specs.declared.halt.Halt.{Halt}
use Rattle.script_run.specs.declared.halt.Halt.TheVariants as halt
use Rattle.script_run.specs.Closed.{LeadsClosed}
use Rattle.script_run.specs.Doing.{RunWriters, StepsDone, StepsHalted, Sunk}
use Rattle.script_run.specs.Steps.{Step, issued_to}
use Rattle.script_run.proofs.DoingLaws.{done-then, halted-longer, halted-then}
use Rattle.script_run.proofs.HandledLaws.{done-none, halted-first}
use Rattle.script_run.proofs.PictureLaws.{closed-then}
use Rattle.script_run.proofs.StepLaws.{issued-append}

module _ {M N D : Type 0} {m : machine.Ghosts M SessionState SessionCommand}
    {n : machine.Ghosts N ClosedState TabsCommand} {d : disk.Ghosts D} (first : Browser) (all : List Step)
    (old : RunWriters M N D m n d) (before : Sunk) where
  -- all but these steps were done, and led to this browser
  pub record DoneUpTo (left : List Step) (b : Browser) (now : RunWriters M N D m n d) (after : Sunk) : Type 0 where
    pub done : List Step
    pub parts : done ++ left ≡ all
    pub steps : StepsDone done old now before after
    pub closed : LeadsClosed first (issued_to Tabs done) b

  -- all of them were done
  pub record DoneWhole (b : Browser) (now : RunWriters M N D m n d) (after : Sunk) : Type 0 where
    pub steps : StepsDone all old now before after
    pub closed : LeadsClosed first (issued_to Tabs all) b

  pub nothing-done : old.session.failed ≡ None → old.tabs.failed ≡ None → DoneUpTo all first old before
  nothing-done session_works tabs_work = record {
    done = [];
    parts = refl;
    steps = done-none old before session_works tabs_work;
    closed = λ s h. h;
  }

  module _ (was : List Step) (b : Browser) (now : RunWriters M N D m n d) (after : Sunk)
      (h : DoneUpTo was b now after) where
    pub all-done : was ≡ [] → DoneWhole b now after
    all-done none =
        let whole : h.done ≡ all = sym (append-nil h.done) ∙ ap (λ left. h.done ++ left) (sym none) ∙ h.parts in record {
          steps = subst (λ steps. StepsDone steps old now before after) whole h.steps;
          closed = subst (λ steps. LeadsClosed first (issued_to Tabs steps) b) whole h.closed;
        }

    pub memory-ends : StepsHalted all old now before after halt.Memory
    memory-ends =
        subst (λ steps. StepsHalted steps old now before after halt.Memory) h.parts
        (halted-then h.done was old now now before after after halt.Memory h.steps
        (halted-first was now after h.steps.all.session.answers.0 h.steps.all.tabs.answers.0))

    -- some of those that are left
    module _ (steps left : List Step) (is : was ≡ steps ++ left) (new : RunWriters M N D m n d) (later : Sunk) where
      further-parts : (h.done ++ steps) ++ left ≡ all
      further-parts =
          append_assoc h.done steps left ∙ ap (λ x. h.done ++ x) (sym is) ∙ h.parts

      pub done-further : (to : Browser) → StepsDone steps now new after later → LeadsClosed b (issued_to Tabs steps) to
          → DoneUpTo left to new later
      done-further to did closed = record {
        done = h.done ++ steps;
        parts = further-parts;
        steps = done-then h.done steps old now new before after later h.steps did;
        closed = subst (λ issued. LeadsClosed first issued to) (sym (issued-append Tabs h.done steps))
            (closed-then first b to (issued_to Tabs h.done) (issued_to Tabs steps) h.closed closed);
      }

      pub halted-further : (why : Halt) → StepsHalted steps now new after later why
          → StepsHalted all old new before later why
      halted-further why halted =
          subst (λ steps. StepsHalted steps old new before later why) further-parts
          (halted-longer (h.done ++ steps) left old new before later why
          (halted-then h.done steps old now new before after later why h.steps halted))
