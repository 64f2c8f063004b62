-- What is shown may stand between double quotes in a line.
use Rattle.std.proofs.Common.{◌≡◌, ℕ, ◌/◌, ◌%◌, ◌<◌, Bool, true, false, List, [], ◌∷◌, ◌++◌, cond, eqb, refl, arith}
use Rattle.std.specs.List.{AllByRecursion, flat_map}
use Rattle.std.proofs.lemmas.Bool.Decides.{nat_tests}
use Rattle.shown_texts.specs.Shown.{IsQuotable, is_printable, shown_printable, hexadecimal_digit, shown_byte, shown_bytes, shown_unit, shown_units}

abbrev AreQuotable : List ℕ → Type 0
AreQuotable text = AllByRecursion IsQuotable text

either : (b : Bool) (x y : List ℕ) → (b ≡ true → AreQuotable x) → (b ≡ false → AreQuotable y) → AreQuotable (cond b x y)
either true x y p q = p refl
either false x y p q = q refl

-- by the two tests of a character
tested : (c : ℕ) → is_printable c ≡ true → eqb c 34 ≡ false → IsQuotable c
tested c printable other = grind (arith, nat_tests)

digit : (n : ℕ) → IsQuotable (hexadecimal_digit (n % 16))
digit n = let small : n % 16 < 16 = omega arith in grind (arith, nat_tests)

printable : (c : ℕ) → is_printable c ≡ true → AreQuotable (shown_printable c)
printable c is =
    let backslash = tested 92 refl refl in
    either (eqb c 92) _ _
    (λ e. (backslash, (backslash, tt)))
    (λ e. either (eqb c 34) _ _
    (λ f. (backslash, (tested 120 refl refl, (tested 50 refl refl, (tested 50 refl refl, tt)))))
    (λ f. (tested c is f, tt)))

byte : (c : ℕ) → AreQuotable (shown_byte c)
unfolding shown_byte
byte c =
    either (is_printable c) _ _ (printable c)
    (λ e. (tested 92 refl refl, (tested 120 refl refl, (digit (c / 16), (digit c, tt)))))

unit : (u : ℕ) → AreQuotable (shown_unit u)
unfolding shown_unit
unit u =
    either (is_printable u) _ _ (printable u)
    (λ e. (tested 92 refl refl, (tested 117 refl refl, (digit (u / 4096), (digit (u / 256), (digit (u / 16), (digit u, tt)))))))

joined : (x y : List ℕ) → AreQuotable x → AreQuotable y → AreQuotable (x ++ y)
joined [] y p q = q
joined (c ∷ x) y p q = (p.0, joined x y p.1 q)

each : (shown : ℕ → List ℕ) → ((c : ℕ) → AreQuotable (shown c)) → (text : List ℕ) → AreQuotable (flat_map shown text)
each shown one [] = tt
each shown one (c ∷ text) = joined (shown c) (flat_map shown text) (one c) (each shown one text)

pub bytes_are_quotable : (text : List ℕ) → AllByRecursion IsQuotable (shown_bytes text)
bytes_are_quotable text = each shown_byte byte text

pub units_are_quotable : (text : List ℕ) → AllByRecursion IsQuotable (shown_units text)
units_are_quotable text = each shown_unit unit text
