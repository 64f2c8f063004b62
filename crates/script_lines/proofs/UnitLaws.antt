-- A text has no more 16-bit units than bytes.
use Rattle.std.proofs.Common.{◌≡◌, ℕ, zero, suc, ◌+◌, ◌-◌, ◌*◌, ◌<◌, ◌≤◌, Bool, true, false, cond, ltb, List, [], ◌∷◌, ◌++◌, length, refl, arith}
use Rattle.std.specs.List.{flat_map}
use Rattle.std.specs.Str.{chars, chars_after, continuation_len, lead_bits}
use Rattle.std.specs.Char.Escape.{encode_utf16}
use Rattle.std.proofs.lemmas.Bool.Decides.{nat_tests}
use Rattle.script_lines.specs.Reading.{units}

-- how many units are said by the bytes behind the first ones of a character
abbrev later : ℕ → ℕ → List ℕ → ℕ
later n c bytes = length (flat_map encode_utf16 (chars_after n c bytes))

-- the same behind the first byte of a character
abbrev led : ℕ → List ℕ → ℕ
led b bytes = later (continuation_len b) (lead_bits b) bytes

record AreFew (bytes : List ℕ) : Type 0 where
  any : (n c : ℕ) → later n c bytes ≤ 2 + length bytes
  behind : (b : ℕ) → led b bytes ≤ 1 + length bytes

two_at_most : (t : Bool) (a b c : ℕ) (others : List ℕ) → length (cond t (a ∷ []) (b ∷ c ∷ []) ++ others) ≤ 2 + length others
two_at_most true a b c others = omega arith
two_at_most false a b c others = omega arith

two : (c : ℕ) (others : List ℕ) → length (encode_utf16 c ++ others) ≤ 2 + length others
two c others = two_at_most (ltb c 65536) c _ _ others

one : (c : ℕ) (others : List ℕ) → c < 128 → length (encode_utf16 c ++ others) ≤ 1 + length others
one c others small = let e : ltb c 65536 ≡ true = grind (arith, nat_tests) in rw e (omega arith)

any_none : (n c : ℕ) → later n c [] ≤ 2
any_none zero c = two c []
any_none (suc n) c = omega arith

any_more : (n c b : ℕ) (bytes : List ℕ) → AreFew bytes → later n c (b ∷ bytes) ≤ 2 + suc (length bytes)
any_more zero c b bytes few = let t = two c (flat_map encode_utf16 (chars_after (continuation_len b) (lead_bits b) bytes)) in omega (arith, t, few.behind b)
any_more (suc n) c b bytes few = omega (arith, few.any n (c * 64 + (b - 128)))

-- by the tests of the first byte: a byte below 128 is a character
behind_none : (t u v : Bool) (b c d e : ℕ) → (t ≡ true → b < 128) → later (cond t 0 (cond u 1 (cond v 2 3))) (cond t b (cond u c (cond v d e))) [] ≤ 1
behind_none true u v b c d e small = one b [] (small refl)
behind_none false true v b c d e small = omega arith
behind_none false false true b c d e small = omega arith
behind_none false false false b c d e small = omega arith

behind_more : (t u v : Bool) (b c d e next : ℕ) (bytes : List ℕ) → (t ≡ true → b < 128) → AreFew bytes → later (cond t 0 (cond u 1 (cond v 2 3))) (cond t b (cond u c (cond v d e))) (next ∷ bytes) ≤ 1 + suc (length bytes)
behind_more true u v b c d e next bytes small few =
    let t = one b (flat_map encode_utf16 (chars_after (continuation_len next) (lead_bits next) bytes)) (small refl) in omega (arith, t, few.behind next)
behind_more false true v b c d e next bytes small few = omega (arith, few.any 0 (c * 64 + (next - 128)))
behind_more false false true b c d e next bytes small few = omega (arith, few.any 1 (d * 64 + (next - 128)))
behind_more false false false b c d e next bytes small few = omega (arith, few.any 2 (e * 64 + (next - 128)))

is_small : (b : ℕ) → ltb b 128 ≡ true → b < 128
is_small b e = grind (arith, nat_tests)

few : (bytes : List ℕ) → AreFew bytes
few [] = record {
  any = any_none;
  behind = λ b. behind_none (ltb b 128) (ltb b 224) (ltb b 240) b _ _ _ (is_small b);
}
few (next ∷ bytes) = record {
  any = λ n c. any_more n c next bytes (few bytes);
  behind = λ b. behind_more (ltb b 128) (ltb b 224) (ltb b 240) b _ _ _ next bytes (is_small b) (few bytes);
}

pub length-units : (text : List ℕ) → length (units text) ≤ length text
unfolding units chars
length-units [] = omega arith
length-units (b ∷ text) = omega (arith, (few text).behind b)
