-- The commands and items among the steps of a verb.
use Rattle.std.proofs.Common.{◌≡◌, ◌+◌, ◌≤◌, List, [], ◌∷◌, ◌++◌, length, map, refl, ap, ◌∙◌, arith}
use Rattle.std.proofs.lemmas.List.{append-nil, length-append, length-map}
use Rattle.browser_driver.specs.Acts.{Outcome}
use Rattle.script_lines.specs.declared.verb.Verb.{Verb}
use Rattle.script_lines.specs.declared.verb.Verb.TheVariants as verb
use Rattle.session_commands.specs.declared.command.SessionCommand.{SessionCommand}
use Rattle.session_disk.specs.declared.family.Family.TheVariants.{Session, Tabs}
use Rattle.tab_restore_commands.specs.declared.command.TabsCommand.{TabsCommand}
use Rattle.writer_core.specs.declared.item.Item.TheVariants as item
use Rattle.script_run.specs.Script.{outcome_steps, verb_steps}
use Rattle.script_run.specs.Steps.{Step, Handle, issued_to, items_of}
use Rattle.script_run.proofs.StepLaws.{issued-append, items-append, items-handled, session-own, session-none, tabs-own}
use Rattle.script_run.proofs.StepLaws.{tabs-none}

-- commands of both families, and what follows them
abbrev pub with_commands : List SessionCommand → List TabsCommand → List Step → List Step
with_commands session tabs more =
    map (λ command. Handle (item.Session command)) session ++ (map (λ command. Handle (item.Tabs command)) tabs ++ more)

module _ (session : List SessionCommand) (tabs : List TabsCommand) (more : List Step) where
  abbrev session_steps : List Step
  session_steps = map (λ command. Handle (item.Session command)) session

  abbrev tabs_steps : List Step
  tabs_steps = map (λ command. Handle (item.Tabs command)) tabs

  pub session-commands : issued_to Session more ≡ [] → issued_to Session (with_commands session tabs more) ≡ session
  session-commands none =
      issued-append Session session_steps (tabs_steps ++ more)
      ∙ ap (λ x. issued_to Session session_steps ++ x) (issued-append Session tabs_steps more)
      ∙ ap (λ x. x ++ (issued_to Session tabs_steps ++ issued_to Session more)) (session-own session)
      ∙ ap (λ x. session ++ (x ++ issued_to Session more)) (session-none tabs)
      ∙ ap (λ x. session ++ x) none ∙ append-nil session

  pub tabs-commands : issued_to Tabs more ≡ [] → issued_to Tabs (with_commands session tabs more) ≡ tabs
  tabs-commands none =
      issued-append Tabs session_steps (tabs_steps ++ more)
      ∙ ap (λ x. issued_to Tabs session_steps ++ x) (issued-append Tabs tabs_steps more)
      ∙ ap (λ x. x ++ (issued_to Tabs tabs_steps ++ issued_to Tabs more)) (tabs-none session)
      ∙ ap (λ x. x ++ issued_to Tabs more) (tabs-own tabs) ∙ ap (λ x. tabs ++ x) none ∙ append-nil tabs

  pub items-count : length (items_of (with_commands session tabs more))
      ≡ length session + length tabs + length (items_of more)
  items-count =
      let first = ap length (items-append session_steps (tabs_steps ++ more)) in
      let second = ap length (items-append tabs_steps more) in
      let one = length-append (items_of session_steps) (items_of (tabs_steps ++ more)) in
      let two = length-append (items_of tabs_steps) (items_of more) in
      let s = ap length (items-handled item.Session session) ∙ length-map session item.Session in
      let t = ap length (items-handled item.Tabs tabs) ∙ length-map tabs item.Tabs in
      omega arith

-- what a verb asks beside its commands writes none
session-verb : (v : Verb) → issued_to Session (verb_steps v) ≡ []
session-verb verb.Sync = refl
session-verb verb.Compact = refl
session-verb other = refl

tabs-verb : (v : Verb) → issued_to Tabs (verb_steps v) ≡ []
tabs-verb verb.Sync = refl
tabs-verb verb.Compact = refl
tabs-verb other = refl

-- and is one item at most
one-verb : (v : Verb) → length (items_of (verb_steps v)) ≤ 1
one-verb verb.Sync = omega arith
one-verb verb.Compact = omega arith
one-verb other = omega arith

pub session-outcome : (v : Verb) (o : Outcome) → issued_to Session (outcome_steps v o) ≡ o.session
session-outcome v o = session-commands o.session o.tabs (verb_steps v) (session-verb v)

pub tabs-outcome : (v : Verb) (o : Outcome) → issued_to Tabs (outcome_steps v o) ≡ o.tabs
tabs-outcome v o = tabs-commands o.session o.tabs (verb_steps v) (tabs-verb v)

pub items-outcome : (v : Verb) (o : Outcome)
    → length (items_of (outcome_steps v o)) ≤ length o.session + length o.tabs + 1
items-outcome v o = omega (arith, items-count o.session o.tabs (verb_steps v), one-verb v)

-- commands of both families, steps, and a last sync
module _ (session : List SessionCommand) (tabs : List TabsCommand) (steps : List Step) where
  abbrev first_steps : List Step
  first_steps = map (λ command. Handle (item.Session command)) session ++ map (λ command. Handle (item.Tabs command))
      tabs

  pub session-run : issued_to Session (first_steps ++ (steps ++ Handle item.Sync ∷ [])) ≡ session
      ++ issued_to Session steps
  session-run =
      let last = Handle item.Sync ∷ [] in
      let own = map (λ command. Handle (item.Session command)) session in
      let other = map (λ command. Handle (item.Tabs command)) tabs in
      issued-append Session first_steps (steps ++ last)
      ∙ ap (λ x. x ++ issued_to Session (steps ++ last)) (issued-append Session own other
      ∙ ap (λ x. x ++ issued_to Session other) (session-own session) ∙ ap (λ x. session ++ x) (session-none tabs)
      ∙ append-nil session)
      ∙ ap (λ x. session ++ x) (issued-append Session steps last ∙ append-nil (issued_to Session steps))

  pub tabs-run : issued_to Tabs (first_steps ++ (steps ++ Handle item.Sync ∷ [])) ≡ tabs ++ issued_to Tabs steps
  tabs-run =
      let last = Handle item.Sync ∷ [] in
      let other = map (λ command. Handle (item.Session command)) session in
      let own = map (λ command. Handle (item.Tabs command)) tabs in
      issued-append Tabs first_steps (steps ++ last)
      ∙ ap (λ x. x ++ issued_to Tabs (steps ++ last)) (issued-append Tabs other own
      ∙ ap (λ x. x ++ issued_to Tabs own) (tabs-none session) ∙ tabs-own tabs)
      ∙ ap (λ x. tabs ++ x) (issued-append Tabs steps last ∙ append-nil (issued_to Tabs steps))

  pub items-run : length (items_of (first_steps ++ (steps ++ Handle item.Sync ∷ [])))
      ≡ length session + length tabs + length (items_of steps) + 1
  items-run =
      let own = map (λ command. Handle (item.Session command)) session in
      let other = map (λ command. Handle (item.Tabs command)) tabs in
      let last = Handle item.Sync ∷ [] in
      let whole = ap length (items-append first_steps (steps ++ last)) in
      let one = length-append (items_of first_steps) (items_of (steps ++ last)) in
      let first = ap length (items-append own other) in
      let two = length-append (items_of own) (items_of other) in
      let later = ap length (items-append steps last) in
      let three = length-append (items_of steps) (items_of last) in
      let s = ap length (items-handled item.Session session) ∙ length-map session item.Session in
      let t = ap length (items-handled item.Tabs tabs) ∙ length-map tabs item.Tabs in
      omega arith
