-- Every command of a session keeps its groups in order.
use Rattle.std.proofs.Common.{◌≡◌, Bool, true, false, if◌then◌else◌, List, [], ◌∷◌, refl, subst, sym}
use Rattle.session_commands.specs.declared.command.SessionCommand.{SessionCommand}
use Rattle.session_commands.specs.declared.command.SessionCommand.TheVariants.{GroupData, ActiveWindow, TabClosed, Raw}
use Rattle.window_state.specs.States.{State}
use Rattle.replay_machine.specs.Step.{fold, step}
use Rattle.browser_model.proofs.GroupingLaws.{sorted-put}
use Rattle.browser_driver.proofs.OutcomeLaws.{AreInOrder}

either : (s : State) (b : Bool) (new : State) → new.groups ≡ s.groups → AreInOrder s.groups
    → AreInOrder (if b then new else s).groups
either s true new same sorted = subst AreInOrder (sym same) sorted
either s false new same sorted = sorted

step-groups : (s : State) (c : SessionCommand) → AreInOrder s.groups → AreInOrder (step s c).groups
step-groups s (GroupData group) sorted = sorted-put group s.groups sorted
step-groups s (ActiveWindow window) sorted = sorted
step-groups s (TabClosed tab time) sorted = sorted
step-groups s (Raw raw) sorted = sorted
step-groups s other sorted = either s _ _ refl sorted

pub fold-groups : (s : State) (cs : List SessionCommand) → AreInOrder s.groups → AreInOrder (fold s cs).groups
fold-groups s [] sorted = sorted
fold-groups s (c ∷ cs) sorted = fold-groups (step s c) cs (step-groups s c sorted)
