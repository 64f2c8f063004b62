-- A number's decimal is read as the number, and what is read as a number is its decimal.
use Rattle.std.proofs.Common.{◌≡◌, ℕ, zero, suc, ◌<◌, ◌^◌, Bool, true, false, ◌&&◌, cond, ltb, List, [], ◌∷◌, length, get_or, Option, Some, None, IfSome, IfNone, Result, Ok, Err, refl, sym, ap, ◌∙◌, arith, rules}
use Rattle.std.specs.Char.{is_ascii_digit}
use Rattle.std.specs.List.{list_all}
use Rattle.std.specs.Fmt.{decimal}
use Rattle.std.specs.Str.Parse.{digits_value, ParsesUnsigned}
use Rattle.std.specs.Result.{OkIff, result_ok}
use Rattle.std.proofs.lemmas.Bool.Decides.{nat_tests}
use Rattle.std.proofs.lemmas.Str.Parse.{IsNumeralModel, numerals_by_value, parse_plain, not_in_digits}
use Rattle.std.proofs.lemmas.Fmt.{digits_decimal, digits_value-decimal, decimal_nonempty, first_decimal, decimal_digit, decimal-digits_value, IsAscii-from_digits}
use Rattle.std.specs.Str.{IsUtf8}
use Rattle.std.proofs.lemmas.Str.{IsUtf8-from_ascii}
use Rattle.decimals.specs.Decimal.{is_plain, number_of}

abbrev AreDigits : List ℕ → Type 0
AreDigits text = list_all is_ascii_digit text ≡ true

pub model : IsNumeralModel AreDigits (digits_value 10)
model = numerals_by_value AreDigits (search rules)

-- what a plain text is
pub record IsPlain (text : List ℕ) : Type 0 where
  pub digits : AreDigits text
  pub some : 0 < length text
  pub alone : get_or text 0 0 ≡ 48 → length text ≡ 1

lone_zero : (text : List ℕ) → length text ≡ 1 → get_or text 0 0 ≡ 48 → AreDigits text
lone_zero (c ∷ []) one is_zero = rw is_zero refl
lone_zero _ one is_zero = absurd (omega arith)

pub from_plain : (text : List ℕ) → is_plain text ≡ true → IsPlain text
unfolding is_plain
from_plain text e = record {
  digits = grind (arith, nat_tests, lone_zero);
  some = grind (arith, nat_tests);
  alone = λ z. grind (arith, nat_tests);
}

pub to_plain : (text : List ℕ) → IsPlain text → is_plain text ≡ true
unfolding is_plain
to_plain text h = grind (arith, nat_tests)

zero_stands_alone : (n : ℕ) → n < 2 ^ 64 → get_or (decimal n) 0 0 ≡ 48 → length (decimal n) ≡ 1
zero_stands_alone zero small first = ap length (decimal_digit 0 (omega arith))
zero_stands_alone (suc n) small first = absurd (omega (arith, first_decimal (suc n) (omega arith) small))

pub plain_decimal : (n : ℕ) → n < 2 ^ 64 → IsPlain (decimal n)
plain_decimal n small = record {
  digits = digits_decimal model n small;
  some = decimal_nonempty n small;
  alone = zero_stands_alone n small;
}

-- the decimal of a number is read as the number
pub number_of-decimal : (n : ℕ) → n < 2 ^ 64 → number_of (decimal n) ≡ Some n
unfolding number_of
number_of-decimal n small =
    let e = to_plain (decimal n) (plain_decimal n small) in
    let v = digits_value-decimal model n small in
    rw (e, v) (grind (arith, nat_tests))

taken : (plain small : Bool) (v n : ℕ) → cond (plain && small) (Some v) None ≡ Some n → (plain ≡ true) × (small ≡ true) × (v ≡ n)
taken true true v n e = (refl, refl, cc)
taken true false v n e = absurd cc
taken false small v n e = absurd cc

-- what is read as a number is its decimal
pub decimal-number_of : (text : List ℕ) (n : ℕ) → number_of text ≡ Some n → text ≡ decimal n
unfolding number_of
decimal-number_of text n e =
    let t = taken (is_plain text) (ltb (digits_value 10 text) (2 ^ 64)) _ n e in
    let h = from_plain text t.0 in
    let small : digits_value 10 text < 2 ^ 64 = grind (arith, nat_tests, t.1) in
    sym (decimal-digits_value model text h.digits h.some h.alone small) ∙ ap decimal t.2

parse_result : {E : Type 0} (text : List ℕ) (v : ℕ) (r : Result ℕ E) → OkIff r (AreDigits text × (0 < length text) × (v < 2 ^ 64)) v → IsPlain text → result_ok r ≡ cond (ltb v (2 ^ 64)) (Some v) None
parse_result text v (Ok x) h plain = let small = h.0.2 in rw (sym h.1) (grind (arith, nat_tests))
parse_result text v (Err e) h plain =
    let large : (v < 2 ^ 64) → ⊥ = λ small. h (plain.digits, plain.some, small) in
    grind (arith, nat_tests)

-- what a parse gives for a plain text
pub parsed : {E : Type 0} (text : List ℕ) (r : Result ℕ E) → is_plain text ≡ true → ParsesUnsigned 64 10 text r → result_ok r ≡ number_of text
unfolding number_of
parsed text r e p =
    let h = from_plain text e in
    let no_sign = not_in_digits model text 43 h.digits (λ i. omega arith) 0 h.some in
    rw e (parse_result text _ r (parse_plain model 64 text r p no_sign) h)

-- a text that isn't plain is no number
pub number_of-other : (text : List ℕ) → is_plain text ≡ false → number_of text ≡ None
unfolding number_of
number_of-other text e = rw e refl

-- a plain text is UTF-8
pub plain_is_utf8 : (text : List ℕ) → is_plain text ≡ true → IsUtf8 text
plain_is_utf8 text e = IsUtf8-from_ascii text (IsAscii-from_digits text (model.to text (from_plain text e).digits))

-- the two directions, for a result that is the definition's
pub found : (text : List ℕ) (r : Option ℕ) → r ≡ number_of text → IfSome r (λ n. text ≡ decimal n)
found text (Some n) e = decimal-number_of text n (sym e)
found text None e = tt

pub only : (text : List ℕ) (r : Option ℕ) → r ≡ number_of text → IfNone r ((n : ℕ) → n < 2 ^ 64 → text ≡ decimal n → ⊥)
only text (Some n) e = tt
only text None e = λ n small is. absurd (let again = number_of-decimal n small in let same : None ≡ number_of (decimal n) = rw (sym is) e in cc)
