-- One option read from the start of the words that are left.
use Rattle.std.proofs.Common.{◌≡◌, ℕ, suc, ◌-◌, ◌≤◌, true, false, List, [], ◌∷◌, map, length, get_or, take, take_all, drop, Some, String, Global, string_bytes, refl, sym, ap, ◌∙◌, arith}
use Rattle.std.specs.Prelude.{codes}
use Rattle.std.specs.Str.{bytes_eq}
use Rattle.run_words.specs.declared.options.Given.{Given}
use Rattle.run_words.specs.declared.options.Limit.{Limit}
use Rattle.run_words.specs.Options.{options_in, limit_named, with_inline, with_limit}

-- the words behind the first two
abbrev behind_two : List (String Global) → List (List ℕ)
behind_two xs = map string_bytes (take (length xs - 2) (drop 2 xs))

-- the first two of some words, and the rest of a slice of them
two_words : (xs : List (String Global)) (a b d e : String Global) → 2 ≤ length xs → a ≡ get_or xs 0 d → b ≡ get_or xs 1 e
    → map string_bytes xs ≡ string_bytes a ∷ string_bytes b ∷ behind_two xs
two_words [] a b d e two first second = absurd (omega arith)
two_words (x ∷ []) a b d e two first second = absurd (omega arith)
two_words (x ∷ y ∷ xs) a b d e two first second =
    let all : take (suc (suc (length xs)) - 2) xs ≡ xs = take_all _ xs (omega arith) in
    rw (first, second, all) refl

behind_one : (xs : List (String Global)) (b e : String Global) → 2 ≤ length xs → b ≡ get_or xs 1 e
    → map string_bytes (take (length xs - 1) (drop 1 xs)) ≡ string_bytes b ∷ behind_two xs
behind_one [] b e two second = absurd (omega arith)
behind_one (x ∷ []) b e two second = absurd (omega arith)
behind_one (x ∷ y ∷ xs) b e two second =
    let all : take (suc (suc (length xs)) - 2) xs ≡ xs = take_all _ xs (omega arith) in
    let more : take (suc (suc (length xs)) - 1) (y ∷ xs) ≡ y ∷ xs = take_all _ (y ∷ xs) (omega arith) in
    rw (second, all, more) refl

inline_step : (given more : Given) (word next : List ℕ) (words : List (List ℕ)) → bytes_eq word (codes "--inline") ≡ true → with_inline given ≡ Some more
    → options_in given (word ∷ next ∷ words) ≡ options_in more (next ∷ words)
inline_step given more word next words is step = rw (is, step) refl

limit_step : (given more : Given) (limit : Limit) (word next : List ℕ) (words : List (List ℕ)) → bytes_eq word (codes "--inline") ≡ false
    → limit_named word ≡ Some limit → with_limit given limit next ≡ Some more → options_in given (word ∷ next ∷ words) ≡ options_in more words
limit_step given more limit word next words other named step = rw (other, named, step) refl

pub inline_read : (given more : Given) (xs : List (String Global)) (a b d e : String Global) → 2 ≤ length xs → a ≡ get_or xs 0 d → b ≡ get_or xs 1 e
    → bytes_eq (string_bytes a) (codes "--inline") ≡ true → with_inline given ≡ Some more
    → options_in given (map string_bytes xs) ≡ options_in more (map string_bytes (take (length xs - 1) (drop 1 xs)))
inline_read given more xs a b d e two first second is step =
    ap (options_in given) (two_words xs a b d e two first second) ∙ inline_step given more (string_bytes a) (string_bytes b) (behind_two xs) is step ∙ ap (options_in more) (sym (behind_one xs b e two second))

pub limit_read : (given more : Given) (limit : Limit) (xs : List (String Global)) (a b d e : String Global) → 2 ≤ length xs → a ≡ get_or xs 0 d → b ≡ get_or xs 1 e
    → bytes_eq (string_bytes a) (codes "--inline") ≡ false → limit_named (string_bytes a) ≡ Some limit → with_limit given limit (string_bytes b) ≡ Some more
    → options_in given (map string_bytes xs) ≡ options_in more (behind_two xs)
limit_read given more limit xs a b d e two first second other named step =
    ap (options_in given) (two_words xs a b d e two first second) ∙ limit_step given more limit (string_bytes a) (string_bytes b) (behind_two xs) other named step
