-- The changes that a sound command brings fit the state.
use Rattle.std.proofs.Common.{IfSome, refl}
use Rattle.session_commands.specs.declared.command.SessionCommand.{SessionCommand}
use Rattle.session_commands.specs.declared.command.SessionCommand.TheVariants.{Extension, WindowApp, SessionStorage, Workspace, TabGuid, UserAgent, UserTitle, TabExtra, WindowExtra}
use Rattle.session_commands.specs.Table.{IsSound}
use Rattle.window_state.specs.Fits.{TabChangeFits, WindowChangeFits}
use Rattle.replay_machine.specs.Parts.{tab_change, window_change}
use Rattle.replay_machine.proofs.FitLaws.{fits_extension, fits_storage, fits_guid, fits_agent, fits_tab_extra, fits_app, fits_workspace, fits_title, fits_window_extra}

pub fits_tab_change : (command : SessionCommand) → IsSound command → IfSome (tab_change command) (λ change. TabChangeFits change.1)
fits_tab_change (Extension tab text tail) sound = fits_extension (Extension tab text tail) tab text tail refl sound
fits_tab_change (SessionStorage tab text tail) sound = fits_storage (SessionStorage tab text tail) tab text tail refl sound
fits_tab_change (TabGuid tab text tail) sound = fits_guid (TabGuid tab text tail) tab text tail refl sound
fits_tab_change (UserAgent tab rest) sound = fits_agent (UserAgent tab rest) tab rest refl sound
fits_tab_change (TabExtra tab key value tail) sound = fits_tab_extra (TabExtra tab key value tail) tab key value tail refl sound
fits_tab_change command sound = tt

pub fits_window_change : (command : SessionCommand) → IsSound command → IfSome (window_change command) (λ change. WindowChangeFits change.1)
fits_window_change (WindowApp window text tail) sound = fits_app (WindowApp window text tail) window text tail refl sound
fits_window_change (Workspace window text tail) sound = fits_workspace (Workspace window text tail) window text tail refl sound
fits_window_change (UserTitle window text tail) sound = fits_title (UserTitle window text tail) window text tail refl sound
fits_window_change (WindowExtra window key value tail) sound = fits_window_extra (WindowExtra window key value tail) window key value tail refl sound
fits_window_change command sound = tt
