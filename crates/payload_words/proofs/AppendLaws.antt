-- Appending one piece after another.
use Rattle.std.proofs.Common.{◌≡◌, ℕ, List, ◌++◌, append_assoc, ap, ◌∙◌}

pub two_pieces : (old a b x y : List ℕ) → x ≡ old ++ a → y ≡ x ++ b → y ≡ old ++ (a ++ b)
two_pieces old a b x y first second = second ∙ ap (λ (l : List ℕ). l ++ b) first ∙ append_assoc old a b

pub three_pieces : (old a b c x y z : List ℕ) → x ≡ old ++ a → y ≡ x ++ b → z ≡ y ++ c → z ≡ old ++ (a ++ (b ++ c))
three_pieces old a b c x y z first second third =
    two_pieces old a (b ++ c) x z first (two_pieces x b c y z second third)

pub five_pieces : (old a b c d e o p q r s : List ℕ) → o ≡ old ++ a → p ≡ o ++ b → q ≡ p ++ c → r ≡ q ++ d → s ≡ r ++ e → s ≡ old ++ (a ++ (b ++ (c ++ (d ++ e))))
five_pieces old a b c d e o p q r s first second third fourth fifth =
    three_pieces old a b (c ++ (d ++ e)) o p s first second (three_pieces p c d e q r s third fourth fifth)

pub six_pieces : (old a b c d e f o p q r s t : List ℕ) → o ≡ old ++ a → p ≡ o ++ b → q ≡ p ++ c → r ≡ q ++ d → s ≡ r ++ e → t ≡ s ++ f → t ≡ old ++ (a ++ (b ++ (c ++ (d ++ (e ++ f)))))
six_pieces old a b c d e f o p q r s t first second third fourth fifth sixth =
    three_pieces old a b (c ++ (d ++ (e ++ f))) o p t first second
    (two_pieces p c (d ++ (e ++ f)) q t third (three_pieces q d e f r s t fourth fifth sixth))
