-- The texts of a sound command fit the state.
use Rattle.std.proofs.Common.{◌≡◌, ℕ, ℤ, List, subst, arith}
use Rattle.session_commands.specs.declared.command.SessionCommand.{SessionCommand}
use Rattle.session_commands.specs.declared.command.SessionCommand.TheVariants.{Extension, WindowApp, SessionStorage, Workspace, TabGuid, UserAgent, UserTitle, TabExtra, WindowExtra}
use Rattle.session_commands.specs.Table.{IsSound}
use Rattle.tab_pages.specs.Fits.{FitsText, FitsRest}
use Rattle.window_state.specs.Fits.{FitsPair}

pub fits_extension : (command : SessionCommand) (tab : ℤ) (text tail : List ℕ) → command ≡ Extension tab text tail → IsSound command → FitsText text
fits_extension command tab text tail is sound = let s = subst IsSound is sound in omega (arith, s.1)

pub fits_storage : (command : SessionCommand) (tab : ℤ) (text tail : List ℕ) → command ≡ SessionStorage tab text tail → IsSound command → FitsText text
fits_storage command tab text tail is sound = let s = subst IsSound is sound in omega (arith, s.1)

pub fits_guid : (command : SessionCommand) (tab : ℤ) (text tail : List ℕ) → command ≡ TabGuid tab text tail → IsSound command → FitsText text
fits_guid command tab text tail is sound = let s = subst IsSound is sound in omega (arith, s.1)

pub fits_agent : (command : SessionCommand) (tab : ℤ) (rest : List ℕ) → command ≡ UserAgent tab rest → IsSound command → FitsRest rest
fits_agent command tab rest is sound = let s = subst IsSound is sound in (s.0, omega (arith, s.1))

pub fits_tab_extra : (command : SessionCommand) (tab : ℤ) (key value tail : List ℕ) → command ≡ TabExtra tab key value tail → IsSound command → FitsPair (key, value)
fits_tab_extra command tab key value tail is sound = let s = subst IsSound is sound in omega (arith, s.1)

pub fits_app : (command : SessionCommand) (window : ℤ) (text tail : List ℕ) → command ≡ WindowApp window text tail → IsSound command → FitsText text
fits_app command window text tail is sound = let s = subst IsSound is sound in omega (arith, s.1)

pub fits_workspace : (command : SessionCommand) (window : ℤ) (text tail : List ℕ) → command ≡ Workspace window text tail → IsSound command → FitsText text
fits_workspace command window text tail is sound = let s = subst IsSound is sound in omega (arith, s.1)

pub fits_title : (command : SessionCommand) (window : ℤ) (text tail : List ℕ) → command ≡ UserTitle window text tail → IsSound command → FitsText text
fits_title command window text tail is sound = let s = subst IsSound is sound in omega (arith, s.1)

pub fits_window_extra : (command : SessionCommand) (window : ℤ) (key value tail : List ℕ) → command ≡ WindowExtra window key value tail → IsSound command → FitsPair (key, value)
fits_window_extra command window key value tail is sound = let s = subst IsSound is sound in omega (arith, s.1)
