-- What stays, what every verb that is done keeps and what holds of steps one after another, lines keep.
use Rattle.std.proofs.Common.{◌≡◌, ℕ, suc, ◌+◌, List, [], ◌∷◌, ◌++◌, length, Option, Some, None, Result, Ok, Err, refl}
use Rattle.std.proofs.Common.{subst, arith}
use Rattle.browser_model.specs.Browsers.{Browser}
use Rattle.browser_driver.specs.Acts.{Answer, Outcome, act}
use Rattle.script_lines.specs.Reading.{reading}
use Rattle.script_lines.specs.declared.fault.LineFault.{LineFault}
use Rattle.script_lines.specs.declared.verb.Verb.{Verb}
use Rattle.script_run.specs.Script.{Acted, acted, acted_by, after_line, course_from, line_acted, outcome_steps}
use Rattle.script_run.specs.Steps.{Step}

-- R says of so many lines that their steps lead from a browser to another
module _ (R : ℕ → Browser → List Step → Browser → Type 0) (stay : (n : ℕ) (b : Browser) → R n b [] b)
    (one : (verb : Verb) (b : Browser) (o : Outcome) → act verb b ≡ Ok o → R 1 b (outcome_steps verb o) o.browser)
    (then : (n k : ℕ) (b c e : Browser) (steps more : List Step) → R n b steps c → R k c more e
    → R (n + k) b (steps ++ more) e) where
  answered : (verb : Verb) (b : Browser) (answer : Answer) → act verb b ≡ answer → (did : List Step × Browser)
      → acted verb answer ≡ Ok did → R 1 b did.0 did.1
  answered verb b (Err fault) e did is = absurd cc
  answered verb b (Ok o) e did is =
      let same : (outcome_steps verb o, o.browser) ≡ did = cc in subst (λ x. R 1 b x.0 x.1) same (one verb b o e)

  line-keeps : (said : Result (Option Verb) LineFault) (b : Browser) (did : List Step × Browser)
      → acted_by said b ≡ Ok did → R 1 b did.0 did.1
  line-keeps (Err fault) b did is = absurd cc
  line-keeps (Ok None) b did is =
      let nothing : List Step = [] in
      let same : (nothing, b) ≡ did = cc in subst (λ x. R 1 b x.0 x.1) same (stay 1 b)
  line-keeps (Ok (Some verb)) b did is = answered verb b (act verb b) refl did is

  pub lines-keep : (ls : List (List ℕ)) (number : ℕ) (b : Browser)
      → R (length ls) b (course_from number b ls).steps (course_from number b ls).last
  lines-keep [] number b = stay 0 b
  lines-keep (l ∷ ls) number b = by (line_acted l b) refl (λ next. lines-keep ls (suc number) next)
    where
      by : (a : Acted) → line_acted l b ≡ a → ((next : Browser)
          → R (length ls) next (course_from (suc number) next ls).steps (course_from (suc number) next ls).last)
          → R (length (l ∷ ls)) b (after_line number b a (λ next. course_from (suc number) next ls)).steps
          (after_line number b a (λ next. course_from (suc number) next ls)).last
      by (Err why) e later = stay (length (l ∷ ls)) b
      by (Ok did) e later =
          let rest = course_from (suc number) did.1 ls in
          let count : 1 + length ls ≡ length (l ∷ ls) = omega arith in
          subst (λ n. R n b (did.0 ++ rest.steps) rest.last) count
          (then 1 (length ls) b did.1 rest.last did.0 rest.steps (line-keeps (reading l) b did e) (later did.1))
