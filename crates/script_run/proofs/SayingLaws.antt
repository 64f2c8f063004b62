-- What is written, part after part.
use Rattle.std.proofs.Common.{◌≡◌, ℕ, ◌+◌, List, [], ◌++◌, length, Option, Some, None, append_assoc, refl, sym, ap, ◌∙◌}
use Rattle.std.proofs.Common.{subst, arith}
use Rattle.std.proofs.Math.Seq.{take-append-add}
use Rattle.std.proofs.lemmas.List.{append-nil, length-append, take-append-le}
use Rattle.run_words.specs.Outcome.{IsPrefix}
use Rattle.script_run.specs.Runs.{Writes}

pub prefix-of-first : (said all more : List ℕ) → IsPrefix said all → IsPrefix said (all ++ more)
prefix-of-first said all more (n, within, e) =
    (n, omega (arith, length-append all more), e ∙ sym (take-append-le n all more within))

pub prefix-behind : (first said all : List ℕ) → IsPrefix said all → IsPrefix (first ++ said) (first ++ all)
prefix-behind first said all (n, within, e) = (
  length first + n,
  omega (arith, length-append first all),
  ap (λ x. first ++ x) e ∙ sym (take-append-add first all n),
)

pub writes-nothing : (written : Option (List ℕ)) (P : List ℕ → Type 0) → P [] → Writes written written P
writes-nothing None P h = refl
writes-nothing (Some before) P h = ([], ap Some (sym (append-nil before)), h)

pub writes-weaken : (old new : Option (List ℕ)) (P Q : List ℕ → Type 0) → ((said : List ℕ) → P said → Q said)
    → Writes old new P → Writes old new Q
writes-weaken None new P Q f h = h
writes-weaken (Some before) new P Q f (said, is, says) = (said, is, f said says)

-- one part is written behind another
pub writes-both : (old mid new : Option (List ℕ)) (P Q R : List ℕ → Type 0)
    → ((said more : List ℕ) → P said → Q more → R (said ++ more)) → Writes old mid P → Writes mid new Q
    → Writes old new R
writes-both None None new P Q R f one two = two
writes-both None (Some middle) new P Q R f one two = absurd cc
writes-both (Some before) None new P Q R f one two = absurd (let e = one.1 in cc)
writes-both (Some before) (Some middle) new P Q R f (said, is, first) (more, then, says) =
    let here : middle ≡ before ++ said = cc in (
      said ++ more,
      then ∙ ap (λ x. Some (x ++ more)) here ∙ ap Some (append_assoc before said more),
      f said more first says,
    )

-- more is written behind what was
pub writes-then : (old mid new : Option (List ℕ)) (first : List ℕ) (P Q : List ℕ → Type 0)
    → ((more : List ℕ) → P more → Q (first ++ more)) → Writes old mid (λ said. said ≡ first) → Writes mid new P
    → Writes old new Q
writes-then old mid new first P Q f one two =
    writes-both old mid new (λ said. said ≡ first) P Q
    (λ said more is says. subst (λ x. Q (x ++ more)) (sym is) (f more says)) one two
