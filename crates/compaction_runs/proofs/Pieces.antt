-- Commands pushed behind others, piece by piece.
use Rattle.std.proofs.Common.{◌≡◌, List, ◌++◌, ap, ◌∙◌, append_assoc}

-- one piece more
pub more : {X : Type 0} (old front out piece next : List X) → out ≡ old ++ front → next ≡ out ++ piece → next ≡ old ++ (front ++ piece)
more old front out piece next so_far last = last ∙ ap (λ l. l ++ piece) so_far ∙ append_assoc old front piece
