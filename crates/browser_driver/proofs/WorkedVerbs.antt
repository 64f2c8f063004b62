-- Verbs worked out by hand.
use Rattle.std.proofs.Common.{◌≡◌, pos, List, [], ◌∷◌, Option, Some, None, Ok, Err, refl}
use Rattle.session_commands.specs.declared.command.SessionCommand.{SessionCommand}
use Rattle.session_commands.specs.declared.command.SessionCommand.TheVariants as command
use Rattle.script_lines.specs.declared.verb.Verb.{Verb}
use Rattle.script_lines.specs.declared.verb.Verb.TheVariants.{Tab, Back, CloseTab, Move}
use Rattle.browser_model.specs.Browsers.{Browser}
use Rattle.browser_driver.specs.declared.fault.VerbFault.{VerbFault}
use Rattle.browser_driver.specs.declared.fault.VerbFault.TheVariants.{Taken, NoBack, Place}
use Rattle.browser_driver.specs.Acts.{Answer, act, issues}

-- no windows
abbrev none : Browser
none = record { windows = []; groups = []; active = None; closed = []; moment = pos 0 }

-- the answer to the last of these verbs, each of which is done after the one before it
abbrev after : Answer → List Verb → Answer
after answer [] = answer
after (Err why) (verb ∷ verbs) = Err why
after (Ok outcome) (verb ∷ verbs) = after (act verb outcome.browser) verbs

abbrev last_of : List Verb → Answer
last_of verbs = after (issues none []) verbs

abbrev refusal : Answer → Option VerbFault
refusal (Ok outcome) = None
refusal (Err why) = Some why

abbrev session_of : Answer → List SessionCommand
session_of (Ok outcome) = outcome.session
session_of (Err why) = []

a_tab_goes_last : session_of (last_of (Tab (pos 1) (pos 2) ∷ Tab (pos 1) (pos 5) ∷ [])) ≡ command.TabWindow (pos 1) (pos 5) ∷ command.TabIndex (pos 5) (pos 1) ∷ []
a_tab_goes_last = refl

no_page_is_behind : refusal (last_of (Tab (pos 1) (pos 2) ∷ Back (pos 2) ∷ [])) ≡ Some (NoBack (pos 2))
no_page_is_behind = refl

a_tab_is_taken : refusal (last_of (Tab (pos 1) (pos 2) ∷ Tab (pos 3) (pos 2) ∷ [])) ≡ Some (Taken (pos 2))
a_tab_is_taken = refl

later_tabs_move_up : session_of (last_of (Tab (pos 1) (pos 2) ∷ Tab (pos 1) (pos 3) ∷ Tab (pos 1) (pos 4) ∷ CloseTab (pos 3) ∷ []))
    ≡ command.TabClosed (pos 3) (pos 0) ∷ command.TabIndex (pos 4) (pos 1) ∷ []
later_tabs_move_up = refl

a_tab_moves_to_a_window : session_of (last_of (Tab (pos 1) (pos 2) ∷ Tab (pos 1) (pos 3) ∷ Tab (pos 9) (pos 4) ∷ Move (pos 2) (pos 9) (pos 0) ∷ []))
    ≡ command.TabWindow (pos 9) (pos 2) ∷ command.TabIndex (pos 3) (pos 0) ∷ command.TabIndex (pos 2) (pos 0) ∷ command.TabIndex (pos 4) (pos 1) ∷ []
a_tab_moves_to_a_window = refl

a_tab_stays : session_of (last_of (Tab (pos 1) (pos 2) ∷ Tab (pos 1) (pos 3) ∷ Move (pos 2) (pos 1) (pos 0) ∷ [])) ≡ command.TabIndex (pos 2) (pos 0) ∷ []
a_tab_stays = refl

no_such_place : refusal (last_of (Tab (pos 1) (pos 2) ∷ Move (pos 2) (pos 1) (pos 1) ∷ [])) ≡ Some (Place (pos 1))
no_such_place = refl
