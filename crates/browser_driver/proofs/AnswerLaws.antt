-- What a verb's call answers, from what became of the state, the orders and the closed entries.
use Rattle.std.specs.Prelude.{Result, Ok, Err}
use Rattle.std.proofs.Common.{◌≡◌, Bool, true, false, ℤ, List, refl, sym, ap, subst, ◌∙◌}
use Rattle.closed_entries.specs.declared.entry.Entry.{Entry}
use Rattle.window_state.specs.States.{State}
use Rattle.browser_model.specs.Running.{IsRunning}
use Rattle.browser_model.specs.Browsers.{Browser, Matches}
use Rattle.browser_driver.specs.Acts.{Answer, refused_where}
use Rattle.browser_driver.specs.Answers.{Answers, outcome_of}
use Rattle.browser_driver.specs.Held.{held, AreSeated, IsHeld}
use Rattle.browser_driver.specs.Issues.{of_session}
use Rattle.browser_driver.specs.Plans.{Plan, Follows, refuses_where}
use Rattle.browser_driver.specs.declared.fault.ActError.{ActError}
use Rattle.browser_driver.specs.declared.fault.ActError.TheVariants.{Refused, Memory}
use Rattle.browser_driver.specs.declared.fault.VerbFault.{VerbFault}
use Rattle.browser_driver.specs.declared.issued.Issued.{Issued}
use Rattle.browser_driver.proofs.HeldLaws.{Holds, holds}

-- what stands after a verb is the browser that the verb makes
pub record IsDone (s : State) (orders : List (ℤ × List ℤ)) (closed : List Entry) (moment : ℤ) (b : Browser) : Type 0 where
  pub running : IsRunning s
  pub matches : Matches s b
  pub seated : AreSeated orders b.windows
  pub groups : s.groups ≡ b.groups
  pub closed_is : closed ≡ b.closed
  pub moment_is : moment ≡ b.moment

pub held-done : (s : State) (orders : List (ℤ × List ℤ)) (closed : List Entry) (moment : ℤ) (b : Browser)
    → IsDone s orders closed moment b → Holds s orders closed moment b
held-done s orders closed moment b d =
    holds s orders closed moment b d.running d.matches d.seated d.groups d.closed_is d.moment_is

-- the browser that is held keeps what it has to, and the answer is exact
pub record IsAnswered (answer : Answer) (old : Browser) (r : Result Issued ActError) (s : State)
    (orders : List (ℤ × List ℤ)) (closed : List Entry) (moment : ℤ) : Type 0 where
  pub is_held : IsHeld s orders closed moment
  pub answers : Answers answer old (held s orders closed moment) r

-- a verb without orders and closed entries: a plan for the state leads to the verb's browser
abbrev pub Joins : List (ℤ × List ℤ) → List Entry → ℤ → Plan → Answer → Type 0
Joins orders closed moment (Ok step) (Ok outcome) =
    IsDone step.state orders closed moment outcome.browser
    × (outcome ≡ outcome_of outcome.browser (of_session step.session))
Joins orders closed moment (Ok step) (Err why) = ⊥
Joins orders closed moment (Err why) (Ok outcome) = ⊥
Joins orders closed moment (Err why) (Err because) = why ≡ because

-- both are refused at the same values
pub joins-where : (orders : List (ℤ × List ℤ)) (closed : List Entry) (moment : ℤ) (here there : Bool) (why : VerbFault)
    (plan : Plan) (answer : Answer) → here ≡ there → (there ≡ false → Joins orders closed moment plan answer)
    → Joins orders closed moment (refuses_where here why plan) (refused_where there why answer)
joins-where orders closed moment here there why plan answer same joins = rw same (by there refl)
  where
    by : (refused : Bool) → there ≡ refused
        → Joins orders closed moment (refuses_where refused why plan) (refused_where refused why answer)
    by true e = refl
    by false e = joins e

module _ (s new : State) (orders : List (ℤ × List ℤ)) (closed : List Entry) (moment : ℤ)
    (h : IsHeld s orders closed moment) where
  pub followed : (plan : Plan) (answer : Answer) (r : Result Issued ActError) → Joins orders closed moment plan answer
      → Follows plan s new r → IsAnswered answer (held s orders closed moment) r new orders closed moment
  followed plan answer (Ok issued) joins (is, only) =
      done answer (subst (λ p. Joins orders closed moment p answer) is joins)
    where
      done : (answer : Answer)
          → Joins orders closed moment (Ok (record { state = new; session = issued.session })) answer
          → IsAnswered answer (held s orders closed moment) (Ok issued) new orders closed moment
      done (Err why) never = absurd never
      done (Ok outcome) (d, is) =
          let held_is = held-done new orders closed moment outcome.browser d in
          record {
            is_held = held_is.is_held;
            answers = ap Ok (is ∙ ap (λ b. outcome_of b (of_session issued.session)) (sym held_is.is)
                ∙ ap (outcome_of (held new orders closed moment)) (sym only));
          }
  followed plan answer (Err (Refused why)) joins (is, same) = record {
    is_held = subst (λ x. IsHeld x orders closed moment) (sym same) h;
    answers = (
      refused answer (subst (λ p. Joins orders closed moment p answer) is joins),
      ap (λ x. held x orders closed moment) same,
    );
  }
    where
      refused : (answer : Answer) → Joins orders closed moment (Err why) answer → answer ≡ Err why
      refused (Ok outcome) never = absurd never
      refused (Err because) is = ap Err (sym is)
  followed plan answer (Err Memory) joins same = record {
    is_held = subst (λ x. IsHeld x orders closed moment) (sym same) h;
    answers = ap (λ x. held x orders closed moment) same;
  }
