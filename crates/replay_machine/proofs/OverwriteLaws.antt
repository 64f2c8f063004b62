-- A page that is updated twice at one index of one tab is as if it were updated the second time alone.
use Rattle.std.proofs.Common.{◌≡◌, ℤ, refl, ap}
use Rattle.navigation_entry.specs.declared.navigation.Navigation.{Navigation}
use Rattle.session_commands.specs.declared.command.SessionCommand.TheVariants.{UpdateNavigation}
use Rattle.tab_pages.specs.PageLists.{put_page}
use Rattle.tab_pages.proofs.OverwriteLaws.{put_page-over}
use Rattle.window_state.specs.States.{State}
use Rattle.window_state.proofs.OverwriteLaws.{on_tab-over}
use Rattle.replay_machine.specs.Step.{step}

pub step-over : (s : State) (tab index : ℤ) (first second : Navigation)
    → step (step s (UpdateNavigation tab index first)) (UpdateNavigation tab index second)
    ≡ step s (UpdateNavigation tab index second)
step-over s tab index first second =
    on_tab-over tab (λ t. record t { pages = put_page index first t.pages })
    (λ t. record t { pages = put_page index second t.pages }) s (λ t. refl)
    (λ t. ap (λ pages. record t { pages = pages }) (put_page-over index first second t.pages))
