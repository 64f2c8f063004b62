-- Segments of a script: the lines up to and with the next line of a sync, up to one that is refused, or all that are
-- left. A script goes segment by segment: both journals are synced behind each, and the line of a sync comes between
-- them.
use Rattle.std.specs.Prelude.{◌≡◌, ℕ, suc, ◌+◌, ◌<◌, ◌≤◌, Bool, true, false, List, [], ◌∷◌, ◌++◌, length}
use Rattle.std.specs.Prelude.{Option, None, Some, Result, Ok, Err}
use Rattle.session_disk.specs.declared.family.Family.TheVariants.{Tabs}
use Rattle.script_lines.specs.Lines.{lines}
use Rattle.script_lines.specs.Reading.{reading}
use Rattle.script_lines.specs.declared.fault.LineFault.{LineFault}
use Rattle.script_lines.specs.declared.verb.Verb.{Verb}
use Rattle.script_lines.specs.declared.verb.Verb.TheVariants as verb
use Rattle.browser_model.specs.Browsers.{Browser}
use Rattle.writer_core.specs.declared.item.Item.TheVariants as item
use Rattle.run_words.specs.declared.why.Why.{Why}
use Rattle.script_run.specs.declared.segments.Ended.{Ended}
use Rattle.script_run.specs.declared.segments.Ended.TheVariants as ended
use Rattle.script_run.specs.Closed.{LeadsClosed}
use Rattle.script_run.specs.Script.{Acted, Course, behind, course_from, line_acted}
use Rattle.script_run.specs.Steps.{Step, Handle, Say, issued_to}

abbrev pub wants_sync : Verb → Bool
wants_sync verb.Sync = true
wants_sync other = false

abbrev pub asks_sync : Result (Option Verb) LineFault → Bool
asks_sync (Ok (Some verb)) = wants_sync verb
asks_sync other = false

-- whether a line is one of a sync
abbrev pub is_sync : List ℕ → Bool
is_sync line = asks_sync (reading line)

abbrev pub sync_steps : List Step
sync_steps = Handle item.Sync ∷ Say ∷ []

-- what is left behind a segment: the lines behind a sync, of which the first has this number, or none, where the last
-- one may be refused
pub data Left : Type 0 where
  Behind : ℕ → List (List ℕ) → Left
  Over : Option (ℕ × Why) → Left

-- the steps of a segment's lines, without those of its sync, what is left, and the browser behind it
pub record Segment : Type 0 where
  pub steps : List Step
  pub left : Left
  pub last : Browser

-- with the sync of both journals that follows every segment
abbrev pub synced_steps : Segment → List Step
synced_steps segment = segment.steps ++ Handle item.Sync ∷ []

abbrev pub ends : Left → Browser → Segment
ends left b = record { steps = []; left = left; last = b }

abbrev pub led : List Step → Segment → Segment
led steps later = record later { steps = steps ++ later.steps }

-- a segment whose first line has this number, is one of a sync or not, and comes to this
abbrev pub segment_after : ℕ → Browser → List (List ℕ) → Acted → Bool → (Browser → Segment) → Segment
segment_after number b others (Err why) syncs later = ends (Over (Some (number, why))) b
segment_after number b others (Ok did) true later = ends (Behind (suc number) others) did.1
segment_after number b others (Ok did) false later = led did.0 (later did.1)

abbrev pub segment_from : ℕ → Browser → List (List ℕ) → Segment
segment_from number b [] = ends (Over None) b
segment_from number b (line ∷ others) = segment_after number b others (line_acted line b) (is_sync line) (λ next.
    segment_from (suc number) next others)

-- what comes of what is left behind a segment
abbrev pub left_course : Left → Browser → Course
left_course (Behind number others) b = behind sync_steps (course_from number b others)
left_course (Over refused) b = record { steps = []; refused = refused; last = b }

-- and of a segment with that; it is what comes of all these lines
abbrev pub segment_course : Segment → Course
segment_course segment = behind segment.steps (left_course segment.left segment.last)

-- what an answer says is left
abbrev pub left_by : Ended → Left
left_by (ended.Sync count others) = Behind (suc count) (lines others.now)
left_by (ended.Script refused) = Over refused

-- how lines, acted on from this browser, ended a segment
pub record EndsSegment (segment : Segment) (first : Browser) (ended : Ended) (last : Browser) : Type 0 where
  pub left : left_by ended ≡ segment.left
  pub last_is : last ≡ segment.last
  pub closed : LeadsClosed first (issued_to Tabs segment.steps) last

-- less text is left behind a segment than before it, where so many lines were read before
abbrev pub IsFurther : ℕ → List ℕ → Ended → Type 0
IsFurther number rest (ended.Sync count others) =
    (count + length others.now ≤ number + length rest) × (length others.now < length rest)
IsFurther number rest (ended.Script refused) = Unit {0}
