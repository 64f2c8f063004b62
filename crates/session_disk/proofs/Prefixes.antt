-- What stripping a prefix tells of a text.
use Rattle.std.proofs.Common.{◌≡◌, ℕ, List, ◌++◌, length, take, drop, true, false, nat_eq, sym, ap, ◌∙◌}
use Rattle.std.proofs.lemmas.List.{take-append-drop}
use Rattle.std.proofs.Math.Seq.{take-append_seam}
use Rattle.std.specs.Cmp.Lexicographic.{pointwise, same_text, other_text}

module _ (name prefix : List ℕ) where
  pub rest_found : (rest : List ℕ) → pointwise nat_eq (take (length prefix) name) prefix ≡ true → rest ≡ drop (length prefix) name → name ≡ prefix ++ rest
  rest_found rest same e =
      let start = same_text (take (length prefix) name) prefix (sym same) in
      let whole = take-append-drop (length prefix) name in
      cc

  pub no_rest : (rest : List ℕ) → pointwise nat_eq (take (length prefix) name) prefix ≡ false → name ≡ prefix ++ rest → ⊥
  no_rest rest other e =
      other_text (take (length prefix) name) prefix (sym other) (ap (take (length prefix)) e ∙ take-append_seam prefix rest)
