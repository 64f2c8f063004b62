-- A command that a later one covers needn't be there: the state after both is the one after the later command alone.
-- This holds of any state, whether it is one that a session can have or not.
use Rattle.std.proofs.Common.{◌≡◌, ℤ, true, true≢false, sym, ap, ◌∙◌}
use Rattle.std.proofs.lemmas.Bool.Decides.{Decides-and, Decides-int_eq}
use Rattle.std.specs.Ordering.{int_eq}
use Rattle.navigation_entry.specs.declared.navigation.Navigation.{Navigation}
use Rattle.session_commands.specs.declared.command.SessionCommand.{SessionCommand}
use Rattle.session_commands.specs.declared.command.SessionCommand.TheVariants.{UpdateNavigation}
use Rattle.window_state.specs.States.{State}
use Rattle.replay_machine.specs.Step.{step}
use Rattle.replay_machine.proofs.OverwriteLaws.{step-over}
use Rattle.compactor.specs.session.Covering.{updates, same_place}

update-over : (s : State) (tab index other place : ℤ) (first second : Navigation) → other ≡ tab → place ≡ index
    → step (step s (UpdateNavigation tab index first)) (UpdateNavigation other place second)
    ≡ step s (UpdateNavigation other place second)
update-over s tab index other place first second same_tab same_index =
    ap (λ t. step (step s (UpdateNavigation t index first)) (UpdateNavigation other place second)) (sym same_tab)
    ∙ ap (λ i. step (step s (UpdateNavigation other i first)) (UpdateNavigation other place second)) (sym same_index)
    ∙ step-over s other place first second

update-covered : (s : State) (tab index : ℤ) (first : Navigation) (second : SessionCommand)
    → updates tab index second ≡ true
    → step (step s (UpdateNavigation tab index first)) second ≡ step s second
update-covered s tab index first (UpdateNavigation other place navigation) covers =
    let both = (Decides-and (int_eq other tab) (int_eq place index) (Decides-int_eq other tab)
    (Decides-int_eq place index)).0 covers in
    update-over s tab index other place first navigation both.0 both.1
update-covered s tab index first second covers = absurd (true≢false (sym covers))

pub covered : (s : State) (first second : SessionCommand) → same_place first second ≡ true
    → step (step s first) second ≡ step s second
covered s (UpdateNavigation tab index navigation) second covers = update-covered s tab index navigation second covers
covered s first second covers = absurd (true≢false (sym covers))
