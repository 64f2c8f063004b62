-- The bytes of written pickles, as the writers append them one by one.
use Rattle.std.proofs.Common.{◌≡◌, ℕ, ℤ, ◌+◌, List, [], ◌∷◌, ◌++◌, length, append_assoc, arith}
use Rattle.std.proofs.lemmas.List.{length-append}
use Rattle.pickle_cells.specs.Cell.{int, uint32, string, string_size, pickle}
use Rattle.pickle_cells.specs.PickleLayout.{Int, Text, item_bytes, items_bytes, pickled_bytes}
use Rattle.pickle_cells.proofs.ItemLaws.{length-int, length-counted}

pub int_rest_bytes : (old p q r : List ℕ) (number : ℤ) (rest : List ℕ) (size : ℕ) → p ≡ old ++ uint32 size → q ≡ p ++ int number → r ≡ q ++ rest → size ≡ 4 + length rest → r ≡ old ++ pickled_bytes (Int number ∷ []) rest
unfolding pickled_bytes pickle items_bytes item_bytes
int_rest_bytes old p q r number rest size i j k e =
    let long : size ≡ length (int number ++ rest) = omega (arith, length-append (int number) rest, length-int number) in
    rw (k, j, i, long) (simp append_assoc)

pub int_text_bytes : (old p q r s : List ℕ) (number : ℤ) (text tail : List ℕ) (size : ℕ) → p ≡ old ++ uint32 size → q ≡ p ++ int number → r ≡ q ++ string text → s ≡ r ++ tail → size ≡ 4 + string_size (length text) + length tail → s ≡ old ++ pickled_bytes (Int number ∷ Text text ∷ []) tail
unfolding pickled_bytes pickle items_bytes item_bytes
int_text_bytes old p q r s number text tail size i j k l e =
    let long : size ≡ length (int number ++ (string text ++ tail)) = omega (arith, length-append (int number) (string text ++ tail), length-append (string text) tail, length-int number, length-counted (length text) text) in
    rw (l, k, j, i, long) (simp append_assoc)

pub int_two_texts_bytes : (old p q r s t : List ℕ) (number : ℤ) (first second tail : List ℕ) (size : ℕ) → p ≡ old ++ uint32 size → q ≡ p ++ int number → r ≡ q ++ string first → s ≡ r ++ string second → t ≡ s ++ tail →
    size ≡ 4 + string_size (length first) + string_size (length second) + length tail → t ≡ old ++ pickled_bytes (Int number ∷ Text first ∷ Text second ∷ []) tail
unfolding pickled_bytes pickle items_bytes item_bytes
int_two_texts_bytes old p q r s t number first second tail size i j k l m e =
    let long : size ≡ length (int number ++ (string first ++ (string second ++ tail))) =
    omega (arith, length-append (int number) (string first ++ (string second ++ tail)), length-append (string first) (string second ++ tail), length-append (string second) tail, length-int number, length-counted (length first) first, length-counted (length second) second) in
    rw (m, l, k, j, i, long) (simp append_assoc)
