-- Appending one piece after another.
use Rattle.std.proofs.Common.{◌≡◌, ℕ, List, ◌++◌, append_assoc, ap, ◌∙◌}

pub three_pieces : (old a b c x y : List ℕ) → x ≡ old ++ (a ++ b) → y ≡ x ++ c → y ≡ old ++ (a ++ (b ++ c))
three_pieces old a b c x y e f = f ∙ ap (λ (l : List ℕ). l ++ c) e ∙ simp append_assoc

pub five_pieces : (old a b c d e x y z : List ℕ) → x ≡ old ++ (a ++ b) → y ≡ x ++ (c ++ d) → z ≡ y ++ e → z ≡ old ++ (a ++ (b ++ (c ++ (d ++ e))))
five_pieces old a b c d e x y z p q r = r ∙ ap (λ (l : List ℕ). l ++ e) (q ∙ ap (λ (l : List ℕ). l ++ (c ++ d)) p) ∙ simp append_assoc
