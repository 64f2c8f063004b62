-- A generated script is short enough to be run.
use Rattle.std.proofs.Common.{◌≡◌, ℕ, zero, suc, ◌+◌, ◌*◌, ◌%◌, ◌/◌, ◌<◌, ◌≤◌, ◌^◌, Bool, true, false, ◌==◌, List, ◌++◌, length, Option, if◌then◌else◌, add-one, refl, sym, ap, ◌∙◌, subst, arith}
use Rattle.std.proofs.lemmas.List.{length-append}
use Rattle.std.proofs.lemmas.Fmt.{length-decimal-le}
use Rattle.std.specs.Fmt.{decimal}
use Rattle.script_lines.specs.Generated.{change, generated, line_for, opening, state_at, tab_at, visit}
use Rattle.run_words.specs.declared.order.Origin.{Origin}
use Rattle.run_words.specs.declared.order.Origin.TheVariants.{Generated}
use Rattle.run_words.specs.Words.{InRange}
use Rattle.session_drive.specs.Reading.{IsScript}
use Rattle.script_lines.proofs.GeneratorLaws.{generated-more, generated-none}

either : (b : Bool) (x y : List ℕ) (most : ℕ) → length x ≤ most → length y ≤ most → length (if b then x else y) ≤ most
either true x y most f g = f
either false x y most f g = g

seven : (n : ℕ) → n < 10 ^ 7 → length (decimal n) ≤ 7
seven n h = length-decimal-le 7 n (omega arith) h (omega arith)

opening_short : (tab drawn : ℕ) → tab < 10 ^ 7 → length (opening tab drawn) ≤ 60
opening_short tab drawn h = simp length-append (omega (arith, seven tab h, seven (1 + drawn % 3) (omega arith)))

visit_short : (tab drawn place : ℕ) → tab < 10 ^ 7 → place < 10 ^ 7 → length (visit tab drawn place) ≤ 60
visit_short tab drawn place h k = simp length-append (omega (arith, seven tab h, seven place k, seven (drawn % 97) (omega arith), seven (drawn % 200) (omega arith)))

change_short : (tab drawn place : ℕ) → tab < 10 ^ 7 → place < 10 ^ 7 → length (change tab drawn place) ≤ 60
change_short tab drawn place h k =
    either (drawn % 4 == 0) _ _ 60 (simp length-append (omega (arith, seven tab h)))
    (either (drawn % 4 == 1) _ _ 60 (simp length-append (omega (arith, seven tab h)))
    (either (drawn % 4 == 2) _ _ 60 (simp length-append (omega (arith, seven tab h))) (simp length-append (omega (arith, seven tab h, seven place k)))))

line_short : (place drawn : ℕ) → place < 1000000 → length (line_for place drawn) ≤ 61
unfolding line_for
line_short place drawn h =
    let few : tab_at place < 10 ^ 7 = omega arith in
    let body = either (place % 8 == 0) (opening (tab_at place) drawn) (if place % 8 == 7 then change (tab_at place) drawn place else visit (tab_at place) drawn place) 60
    (opening_short (tab_at place) drawn few)
    (either (place % 8 == 7) (change (tab_at place) drawn place) (visit (tab_at place) drawn place) 60 (change_short (tab_at place) drawn place few (omega arith)) (visit_short (tab_at place) drawn place few (omega arith))) in
    simp length-append (omega (arith, body))

lines_short : (x count : ℕ) → count ≤ 1000000 → length (generated x count) ≤ 61 * count
lines_short x zero h = subst (λ (s : List ℕ). length s ≤ 61 * 0) (generated-none x) (omega arith)
lines_short x (suc place) h =
    let one = line_short place (state_at x place / 2 ^ 33) (omega arith) in
    let all = lines_short x place (omega arith) in
    let same : length (generated x (suc place)) ≡ length (generated x place ++ line_for place (state_at x place / 2 ^ 33)) =
    ap (λ (n : ℕ). length (generated x n)) (sym (add-one place)) ∙ ap length (sym (generated-more x place (state_at x place) refl)) in
    omega (arith, same, one, all, length-append (generated x place) (line_for place (state_at x place / 2 ^ 33)))

pub generated_short : (x count : ℕ) → count ≤ 1000000 → length (generated x count) ≤ 2 ^ 30
generated_short x count h = omega (arith, lines_short x count h)

pub script_generated : (origin : Origin) (left : Option (List ℕ)) (x count : ℕ) (text : List ℕ) → origin ≡ Generated x count → InRange origin → text ≡ generated x count → IsScript origin left text
script_generated origin left x count text is range e = subst (λ (o : Origin). IsScript o left text) (sym is) (record {
  few = let here : InRange (Generated x count) = subst InRange is range in subst (λ (s : List ℕ). length s ≤ 2 ^ 30) (sym e) (generated_short x count here.1);
  short = λ most other. absurd cc;
  known = e;
})
