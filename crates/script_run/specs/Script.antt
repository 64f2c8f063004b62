-- What a run does with a script: each line is read and acted on by the browser, up to the first that is refused.
use Rattle.std.specs.Prelude.{ℕ, suc, List, [], ◌∷◌, ◌++◌, map, Option, None, Some, Result, Ok, Err}
use Rattle.session_disk.specs.declared.family.Family.TheVariants.{Session, Tabs}
use Rattle.window_state.specs.Views.{view}
use Rattle.script_lines.specs.Lines.{lines}
use Rattle.script_lines.specs.Reading.{reading}
use Rattle.script_lines.specs.declared.fault.LineFault.{LineFault}
use Rattle.script_lines.specs.declared.verb.Verb.{Verb}
use Rattle.script_lines.specs.declared.verb.Verb.TheVariants as verb
use Rattle.browser_model.specs.Browsers.{Browser}
use Rattle.browser_model.specs.Beginnings.{begun}
use Rattle.browser_driver.specs.Acts.{Answer, Outcome, act}
use Rattle.writer_core.specs.declared.item.Item.TheVariants as item
use Rattle.run_words.specs.declared.why.Why.{Why}
use Rattle.run_words.specs.declared.why.Why.TheVariants as why
use Rattle.script_run.specs.Families.{Firsts, kind_of}
use Rattle.script_run.specs.Steps.{Step, Handle, Say}

-- what a verb asks of the journals beside the commands that it issues
abbrev pub verb_steps : Verb → List Step
verb_steps verb.Sync = Handle item.Sync ∷ Say ∷ []
verb_steps verb.Compact = Handle item.Compact ∷ []
verb_steps other = []

-- the commands of the session, those of the tabs, and what the verb asks
abbrev pub outcome_steps : Verb → Outcome → List Step
outcome_steps verb o =
    map (λ command. Handle (item.Session command)) o.session
    ++ (map (λ command. Handle (item.Tabs command)) o.tabs ++ verb_steps verb)

-- the steps of a line and the browser after it, or why it is refused
abbrev pub Acted : Type 0
Acted = Result (List Step × Browser) Why

abbrev pub acted : Verb → Answer → Acted
acted verb (Err fault) = Err (why.Verb fault)
acted verb (Ok o) = Ok (outcome_steps verb o, o.browser)

abbrev pub acted_by : Result (Option Verb) LineFault → Browser → Acted
acted_by (Err fault) b = Err (why.Line fault)
acted_by (Ok None) b = Ok ([], b)
acted_by (Ok (Some verb)) b = acted verb (act verb b)

abbrev pub line_acted : List ℕ → Browser → Acted
line_acted line b = acted_by (reading line) b

-- what lines come to: their steps, the first that is refused, by its number, and the browser in the end
pub record Course : Type 0 where
  pub steps : List Step
  pub refused : Option (ℕ × Why)
  pub last : Browser

abbrev pub behind : List Step → Course → Course
behind steps later = record later { steps = steps ++ later.steps }

abbrev pub after_line : ℕ → Browser → Acted → (Browser → Course) → Course
after_line number b (Err why) later = record { steps = []; refused = Some (number, why); last = b }
after_line number b (Ok did) later = behind did.0 (later did.1)

-- lines, of which the first has this number
abbrev pub course_from : ℕ → Browser → List (List ℕ) → Course
course_from number b [] = record { steps = []; refused = None; last = b }
course_from number b (line ∷ others) = after_line number b (line_acted line b) (λ next. course_from (suc number) next
    others)

-- the steps of lines, and of the last sync behind them
abbrev pub synced_course : Course → List Step
synced_course course = course.steps ++ Handle item.Sync ∷ []

-- the browser of both states
abbrev pub first_browser : Firsts → Browser
first_browser firsts = begun (view (firsts Session)) (firsts Session).active (firsts Tabs).entries

abbrev pub course_of : Firsts → List ℕ → Course
course_of firsts text = course_from 1 (first_browser firsts) (lines text)

-- Both states are tidied, the session's first; then the lines are acted on, and both journals are synced.
abbrev pub tidying_steps : Firsts → List Step
tidying_steps firsts =
    map (λ command. Handle (item.Session command)) ((kind_of Session).tidying (firsts Session))
    ++ map (λ command. Handle (item.Tabs command)) ((kind_of Tabs).tidying (firsts Tabs))

abbrev pub steps_of : Firsts → List ℕ → List Step
steps_of firsts text = tidying_steps firsts ++ synced_course (course_of firsts text)
