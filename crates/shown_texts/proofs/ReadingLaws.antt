-- What is shown can be read back, so different texts are shown by different bytes.
use Rattle.std.proofs.Common.{◌≡◌, ℕ, ◌+◌, ◌-◌, ◌*◌, ◌/◌, ◌%◌, ◌^◌, ◌<◌, Bool, true, false, List, [], ◌∷◌, ◌++◌, Option, Some, None, if◌then◌else◌, cond, eqb, ltb, refl, sym, ap, ◌∙◌, suc, get_or, arith}
use Rattle.std.specs.List.{AllByRecursion, flat_map}
use Rattle.std.proofs.lemmas.Bool.Decides.{nat_tests}
use Rattle.shown_texts.specs.Shown.{is_printable, shown_printable, hexadecimal_digit, shown_byte, shown_bytes, shown_unit, shown_units}

-- a byte or unit that is read, and what follows it
abbrev Reading : Type 0
Reading = Option (ℕ × List ℕ)

abbrev read : ℕ → List ℕ → Reading
read c rest = Some (c, rest)

abbrev value_of : Reading → ℕ
value_of None = 0
value_of (Some r) = r.0

abbrev rest_of : Reading → List ℕ
rest_of None = []
rest_of (Some r) = r.1

-- the number of a hexadecimal digit in lower case
abbrev number : ℕ → ℕ
number c = if ltb c 58 then c - 48 else c - 87

abbrev two_digits : List ℕ → Reading
two_digits (a ∷ b ∷ rest) = Some (16 * number a + number b, rest)
two_digits _ = None

abbrev four_digits : List ℕ → Reading
four_digits (a ∷ b ∷ c ∷ d ∷ rest) = Some (4096 * number a + 256 * number b + 16 * number c + number d, rest)
four_digits _ = None

-- behind a backslash
abbrev escaped : List ℕ → Reading
escaped [] = None
escaped (c ∷ rest) = if eqb c 92 then Some (92, rest) else (if eqb c 120 then two_digits rest else four_digits rest)

-- what is shown first
abbrev first_shown : List ℕ → Reading
first_shown [] = None
first_shown (c ∷ rest) = if eqb c 92 then escaped rest else Some (c, rest)

abbrev IsRead : ℕ → List ℕ → List ℕ → Type 0
IsRead c rest text = first_shown (text ++ rest) ≡ read c rest

either : (c : ℕ) (rest : List ℕ) (b : Bool) (x y : List ℕ) → (b ≡ true → IsRead c rest x) → (b ≡ false → IsRead c rest y) → IsRead c rest (cond b x y)
either c rest true x y p q = p refl
either c rest false x y p q = q refl

itself : (c : ℕ) (rest : List ℕ) → eqb c 92 ≡ false → IsRead c rest (c ∷ [])
itself c rest other = rw other refl

same : (c d : ℕ) → eqb c d ≡ true → d ≡ c
same c d e = grind (arith, nat_tests)

found : (c d : ℕ) (rest : List ℕ) → d ≡ c → read d rest ≡ read c rest
found c d rest e = ap (λ (x : ℕ). read x rest) e

printable : (c : ℕ) (rest : List ℕ) → IsRead c rest (shown_printable c)
printable c rest =
    either c rest (eqb c 92) _ _
    (λ e. found c 92 rest (same c 92 e))
    (λ e. either c rest (eqb c 34) _ _ (λ f. found c 34 rest (same c 34 f)) (λ f. itself c rest e))

digit : (n : ℕ) → number (hexadecimal_digit (n % 16)) ≡ n % 16
digit n = let small : n % 16 < 16 = omega arith in grind (arith, nat_tests)

byte : (c : ℕ) (rest : List ℕ) → c < 2 ^ 8 → IsRead c rest (shown_byte c)
unfolding shown_byte
byte c rest small =
    either c rest (is_printable c) _ _
    (λ e. printable c rest)
    (λ e. found c _ rest (omega (arith, digit (c / 16), digit c)))

unit : (u : ℕ) (rest : List ℕ) → u < 2 ^ 16 → IsRead u rest (shown_unit u)
unfolding shown_unit
unit u rest small =
    either u rest (is_printable u) _ _
    (λ e. printable u rest)
    (λ e. found u _ rest (omega (arith, digit (u / 4096), digit (u / 256), digit (u / 16), digit u)))

-- of whatever is shown so that it can be read back
module _ (bound : ℕ) (shown : ℕ → List ℕ) (reads : (c : ℕ) (rest : List ℕ) → c < bound → IsRead c rest (shown c)) where
  pub only_one : (x y : List ℕ) → AllByRecursion (λ c. c < bound) x → AllByRecursion (λ c. c < bound) y → flat_map shown x ≡ flat_map shown y → x ≡ y
  only_one [] [] p q e = refl
  only_one [] (d ∷ y) p q e = absurd (let f : read d (flat_map shown y) ≡ None = sym (ap first_shown e ∙ reads d (flat_map shown y) q.0) in cc)
  only_one (c ∷ x) [] p q e = absurd (let f : read c (flat_map shown x) ≡ None = sym (reads c (flat_map shown x) p.0) ∙ ap first_shown e in cc)
  only_one (c ∷ x) (d ∷ y) p q e =
      let f : read c (flat_map shown x) ≡ read d (flat_map shown y) = sym (reads c (flat_map shown x) p.0) ∙ ap first_shown e ∙ reads d (flat_map shown y) q.0 in
      let head : c ≡ d = ap value_of f in
      let tail : flat_map shown x ≡ flat_map shown y = ap rest_of f in
      let others = only_one x y p.1 q.1 tail in
      cc

pub below : (bound : ℕ) (text : List ℕ) → ((i : ℕ) → get_or text i 0 < bound) → AllByRecursion (λ c. c < bound) text
below bound [] fits = tt
below bound (c ∷ text) fits = (fits 0, below bound text (λ i. fits (suc i)))

pub bytes_only : (text : List ℕ) → AllByRecursion (λ c. c < 2 ^ 8) text → (other : List ℕ) → AllByRecursion (λ c. c < 2 ^ 8) other → shown_bytes other ≡ shown_bytes text → other ≡ text
bytes_only text fits other small e = only_one (2 ^ 8) shown_byte byte other text small fits e

pub units_only : (text : List ℕ) → AllByRecursion (λ u. u < 2 ^ 16) text → (other : List ℕ) → AllByRecursion (λ u. u < 2 ^ 16) other → shown_units other ≡ shown_units text → other ≡ text
units_only text fits other small e = only_one (2 ^ 16) shown_unit unit other text small fits e
