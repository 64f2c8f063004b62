-- A script's lines one after another: each verb is done, or the browser stays as it is.
use Rattle.std.specs.Prelude.{◌≡◌, ◌⊎◌, ℕ, ◌+◌, List, [], ◌∷◌, length, sum_by, Ok}
use Rattle.browser_model.specs.Browsers.{Browser}
use Rattle.script_lines.specs.declared.verb.Verb.{Verb}
use Rattle.browser_driver.specs.Acts.{Outcome, outcome, act}

abbrev pub stayed : Browser → Outcome
stayed b = outcome b [] []

-- what comes of a line
abbrev pub Comes : Browser → Outcome → Type 0
Comes b o = ((verb : Verb) × (act verb b ≡ Ok o)) ⊎ (o ≡ stayed b)

-- these outcomes lead from a browser to another
abbrev pub Follow : Browser → List Outcome → Browser → Type 0
Follow b [] c = b ≡ c
Follow b (o ∷ os) c = Comes b o × Follow o.browser os c

-- the commands of both families
abbrev pub command_count : Outcome → ℕ
command_count o = length o.session + length o.tabs

abbrev pub issued : List Outcome → ℕ
issued os = sum_by command_count os
