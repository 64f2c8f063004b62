-- Whether some word is a given one.
use Rattle.std.proofs.Common.{◌≡◌, ◌↔◌, ℕ, Bool, IsTrue, List, [], ◌∷◌, map, Contains, String, Global, string_bytes, refl, sym, ◌∙◌}
use Rattle.std.specs.Cmp.Lexicographic.{nat_list_eq_equiv}
use Rattle.std.specs.List.{list_any}
use Rattle.std.specs.Str.{bytes_eq}
use Rattle.std.proofs.lemmas.Map.Views.{Contains-from_any, list_any-from_Contains}
use Rattle.std.proofs.lemmas.Slice.Eq.{bytes_eq-Decides}

any_of : (text : List ℕ) (words : List (String Global)) → list_any (λ word. bytes_eq (string_bytes word) text) words ≡ list_any (bytes_eq text) (map string_bytes words)
any_of text [] = refl
any_of text (word ∷ words) = rw (any_of text words, nat_list_eq_equiv.symm (string_bytes word) text) refl

pub held_if_any : (text : List ℕ) (words : List (String Global)) (found : Bool) → found ≡ list_any (λ word. bytes_eq (string_bytes word) text) words
    → IsTrue found ↔ Contains (map string_bytes words) text
held_if_any text words found is =
    let any : found ≡ list_any (bytes_eq text) (map string_bytes words) = is ∙ any_of text words in (
      (λ yes'. Contains-from_any (λ x y. (bytes_eq-Decides x y).0) text (map string_bytes words) (sym any ∙ yes')),
      (λ held. any ∙ list_any-from_Contains nat_list_eq_equiv text (map string_bytes words) held),
    )
