-- The steps of a segment write no line: they are its items, each handled.
use Rattle.std.proofs.Common.{◌≡◌, ℕ, suc, Bool, true, false, List, [], ◌∷◌, ◌++◌, map, Option, Some, None, Result, Ok}
use Rattle.std.proofs.Common.{Err, refl, ap, ◌∙◌, subst}
use Rattle.std.proofs.lemmas.List.{map-append}
use Rattle.browser_model.specs.Browsers.{Browser}
use Rattle.browser_driver.specs.Acts.{Answer, act}
use Rattle.script_lines.specs.Reading.{reading}
use Rattle.script_lines.specs.declared.fault.LineFault.{LineFault}
use Rattle.script_lines.specs.declared.verb.Verb.{Verb}
use Rattle.script_lines.specs.declared.verb.Verb.TheVariants as verb
use Rattle.writer_core.specs.declared.item.Item.TheVariants as item
use Rattle.script_run.specs.Families.{RunItem}
use Rattle.script_run.specs.Script.{Acted, acted, acted_by, line_acted, verb_steps}
use Rattle.script_run.specs.Segments.{asks_sync, is_sync, segment_after, segment_from, synced_steps, wants_sync}
use Rattle.script_run.specs.Steps.{Step, Handle, items_of}
use Rattle.script_run.proofs.StepLaws.{items-append}

-- each step handles an item
abbrev AreHandled : List Step → Type 0
AreHandled steps = map Handle (items_of steps) ≡ steps

handled-append : (steps more : List Step) → AreHandled steps → AreHandled more → AreHandled (steps ++ more)
handled-append steps more one two =
    ap (map Handle) (items-append steps more) ∙ map-append Handle (items_of steps) (items_of more)
    ∙ ap (λ first. first ++ map Handle (items_of more)) one ∙ ap (λ later. steps ++ later) two

handled-each : {C : Type 0} (item_of : C → RunItem) (cs : List C) → AreHandled (map (λ c. Handle (item_of c)) cs)
handled-each item_of [] = refl
handled-each item_of (c ∷ cs) = ap (λ steps. Handle (item_of c) ∷ steps) (handled-each item_of cs)

handled-verb : (v : Verb) → wants_sync v ≡ false → AreHandled (verb_steps v)
handled-verb verb.Sync none = absurd cc
handled-verb verb.Compact none = refl
handled-verb other none = refl

handled-answer : (v : Verb) (answer : Answer) (did : List Step × Browser) → acted v answer ≡ Ok did
    → wants_sync v ≡ false → AreHandled did.0
handled-answer v (Err fault) did is none = absurd cc
handled-answer v (Ok o) did is none =
    let session = map (λ command. Handle (item.Session command)) o.session in
    let tabs = map (λ command. Handle (item.Tabs command)) o.tabs in
    let same : (session ++ (tabs ++ verb_steps v), o.browser) ≡ did = cc in
    subst (λ (d : List Step × Browser). AreHandled d.0) same
    (handled-append session (tabs ++ verb_steps v) (handled-each item.Session o.session)
    (handled-append tabs (verb_steps v) (handled-each item.Tabs o.tabs) (handled-verb v none)))

handled-line : (r : Result (Option Verb) LineFault) (b : Browser) (did : List Step × Browser) → acted_by r b ≡ Ok did
    → asks_sync r ≡ false → AreHandled did.0
handled-line (Err fault) b did is none = absurd cc
handled-line (Ok None) b did is none =
    let steps : List Step = [] in
    let same : (steps, b) ≡ did = cc in
    subst (λ (d : List Step × Browser). AreHandled d.0) same refl
handled-line (Ok (Some v)) b did is none = handled-answer v (act v b) did is none

handled-lines : (ls : List (List ℕ)) (number : ℕ) (b : Browser) → AreHandled (segment_from number b ls).steps
handled-lines [] number b = refl
handled-lines (line ∷ others) number b =
    by (line_acted line b) refl (is_sync line) refl (λ next. handled-lines others (suc number) next)
  where
    by : (a : Acted) → line_acted line b ≡ a → (s : Bool) → is_sync line ≡ s
        → ((next : Browser) → AreHandled (segment_from (suc number) next others).steps)
        → AreHandled (segment_after number b others a s (λ next. segment_from (suc number) next others)).steps
    by (Err why) is s e later = refl
    by (Ok did) is true e later = refl
    by (Ok did) is false e later =
        handled-append did.0 (segment_from (suc number) did.1 others).steps (handled-line (reading line) b did is e)
        (later did.1)

pub unsaid : (number : ℕ) (b : Browser) (ls : List (List ℕ)) → map Handle (items_of (synced_steps (segment_from number b
    ls))) ≡ synced_steps (segment_from number b ls)
unsaid number b ls =
    handled-append (segment_from number b ls).steps (Handle item.Sync ∷ []) (handled-lines ls number b) refl
