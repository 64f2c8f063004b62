-- A segment's lines, read one by one; and the lines of a script, segment by segment.
use Rattle.std.proofs.Common.{◌≡◌, ℕ, suc, ◌≤◌, Bool, true, false, List, [], ◌∷◌, ◌++◌, length, Option, Some, None}
use Rattle.std.proofs.Common.{Result, Ok, Err, append_assoc, refl, sym, ap, ◌∙◌, arith}
use Rattle.std.proofs.lemmas.List.{append-nil}
use Rattle.browser_model.specs.Browsers.{Browser}
use Rattle.browser_driver.specs.Acts.{act}
use Rattle.script_lines.specs.Lines.{lines}
use Rattle.script_lines.specs.Reading.{reading}
use Rattle.script_lines.specs.declared.fault.LineFault.{LineFault}
use Rattle.script_lines.specs.declared.verb.Verb.{Verb}
use Rattle.script_lines.specs.declared.verb.Verb.TheVariants as verb
use Rattle.writer_core.specs.declared.item.Item.TheVariants as item
use Rattle.script_run.specs.Script.{Acted, Course, acted, acted_by, after_line, behind, course_from, line_acted}
use Rattle.script_run.specs.Script.{synced_course}
use Rattle.script_run.specs.Segments.{Behind, Left, Over, Segment, asks_sync, is_sync, left_course, segment_after}
use Rattle.script_run.specs.Segments.{segment_course, segment_from, sync_steps, synced_steps, wants_sync}
use Rattle.script_run.specs.Steps.{Step, Handle, Say}

-- a sync changes no browser and issues nothing
pub sync-verb : (v : Verb) (b : Browser) → wants_sync v ≡ true → acted v (act v b) ≡ Ok (sync_steps, b)
sync-verb verb.Sync b is = refl
sync-verb other b is = absurd cc

sync-acted : (r : Result (Option Verb) LineFault) (b : Browser) → asks_sync r ≡ true → acted_by r b
    ≡ Ok (sync_steps, b)
sync-acted (Err fault) b is = absurd cc
sync-acted (Ok None) b is = absurd cc
sync-acted (Ok (Some v)) b is = sync-verb v b is

behind-append : (done steps : List Step) (later : Course) → behind done (behind steps later) ≡ behind (done
    ++ steps) later
behind-append done steps later = ap (λ all. record later { steps = all }) (sym (append_assoc done steps later.steps))

-- what comes of lines is what comes of their first segment and of those that are left
pub segment-course : (ls : List (List ℕ)) (number : ℕ) (b : Browser)
    → course_from number b ls ≡ segment_course (segment_from number b ls)
segment-course [] number b = refl
segment-course (line ∷ others) number b =
    by (line_acted line b) refl (is_sync line) refl (λ next. segment-course others (suc number) next)
  where
    by : (a : Acted) → line_acted line b ≡ a → (s : Bool) → is_sync line ≡ s
        → ((next : Browser) → course_from (suc number) next others
        ≡ segment_course (segment_from (suc number) next others))
        → after_line number b a (λ next. course_from (suc number) next others)
        ≡ segment_course (segment_after number b others a s (λ next. segment_from (suc number) next others))
    by (Err why) is s e later = refl
    by (Ok did) is true e later =
        let synced = sync-acted (reading line) b e in
        let same : did ≡ (sync_steps, b) = cc in
        ap (λ (steps : List Step). behind steps (course_from (suc number) did.1 others)) (ap (λ x. x.0) same)
    by (Ok did) is false e later =
        let next = segment_from (suc number) did.1 others in
        ap (behind did.0) (later did.1) ∙ behind-append did.0 next.steps (left_course next.left next.last)

-- the steps that are left behind a segment and its sync: the line of that, and what comes of the lines that are left
abbrev pub left_steps : Left → Browser → List Step
left_steps (Behind number others) b = Say ∷ synced_course (course_from number b others)
left_steps (Over refused) b = []

-- the last sync is that of the last segment
pub segment-steps : (segment : Segment) → synced_course (segment_course segment)
    ≡ synced_steps segment ++ left_steps segment.left segment.last
segment-steps segment = by segment.left
  where
    by : (left : Left) → (segment.steps ++ (left_course left segment.last).steps) ++ Handle item.Sync ∷ []
        ≡ synced_steps segment ++ left_steps left segment.last
    by (Behind number others) =
        append_assoc segment.steps (sync_steps ++ (course_from number segment.last others).steps)
        (Handle item.Sync ∷ [])
        ∙ sym (append_assoc segment.steps (Handle item.Sync ∷ [])
        (Say ∷ synced_course (course_from number segment.last others)))
    by (Over refused) =
        ap (λ steps. steps ++ Handle item.Sync ∷ []) (append-nil segment.steps)
        ∙ sym (append-nil (synced_steps segment))

-- the first line of a segment
module _ (number : ℕ) (b : Browser) (rest line others : List ℕ) (next : lines rest ≡ line ∷ lines others) where
  pub first-line : (a : Acted) (s : Bool) → line_acted line b ≡ a → is_sync line ≡ s
      → segment_from number b (lines rest)
      ≡ segment_after number b (lines others) a s (λ to. segment_from (suc number) to (lines others))
  first-line a s is e =
      ap (segment_from number b) next
      ∙ ap (λ x. segment_after number b (lines others) x (is_sync line)
      (λ to. segment_from (suc number) to (lines others))) is
      ∙ ap (λ x. segment_after number b (lines others) a x (λ to. segment_from (suc number) to (lines others))) e

-- nothing is left of a text
pub nothing-left : (bytes : List ℕ) → length bytes ≤ 0 → bytes ≡ []
nothing-left [] h = refl
nothing-left (b ∷ bytes) h = absurd (omega (arith, h))
