-- Items that were taken up to the first end: they are those that were put in front of it.
use Rattle.std.proofs.Common.{◌≡◌, false, true≢false, List, [], ◌∷◌, ◌++◌, refl, sym, ap, ◌∙◌}
use Rattle.writer_core.specs.Ends.{has_end, is_end}
use Rattle.writer_core.specs.declared.item.Item.TheVariants as item
use Rattle.script_run.specs.Families.{RunItem}

abbrev first_or : RunItem → List RunItem → RunItem
first_or none [] = none
first_or none (x ∷ xs) = x

abbrev behind_first : List RunItem → List RunItem
behind_first [] = []
behind_first (x ∷ xs) = xs

no-end-first : (x : RunItem) (xs : List RunItem) → has_end (x ∷ xs) ≡ false
    → (is_end x ≡ false) × (has_end xs ≡ false)
no-end-first (item.Session c) xs none = (refl, none)
no-end-first (item.Tabs c) xs none = (refl, none)
no-end-first item.Sync xs none = (refl, none)
no-end-first item.Compact xs none = (refl, none)
no-end-first item.End xs none = absurd (true≢false none)

not-the-end : (x : RunItem) → is_end x ≡ false → x ≡ item.End → ⊥
not-the-end x none is = true≢false (sym (ap is_end is) ∙ none)

same-items : (put took left : List RunItem) → has_end put ≡ false → has_end took ≡ false
    → put ++ item.End ∷ [] ≡ (took ++ item.End ∷ []) ++ left → took ≡ put
same-items [] [] left none_put none_took e = refl
same-items [] (y ∷ ys) left none_put none_took e =
    absurd (not-the-end y (no-end-first y ys none_took).0 (sym (ap (first_or item.End) e)))
same-items (x ∷ xs) [] left none_put none_took e =
    absurd (not-the-end x (no-end-first x xs none_put).0 (ap (first_or item.End) e))
same-items (x ∷ xs) (y ∷ ys) left none_put none_took e =
    let first : y ≡ x = sym (ap (first_or item.End) e) in
    let later = same-items xs ys left (no-end-first x xs none_put).1 (no-end-first y ys none_took).1
    (ap behind_first e) in
    ap (λ item. item ∷ ys) first ∙ ap (λ items. x ∷ items) later

-- where nothing was sent or taken before, and all that was sent is what was taken and then what is left
pub taken-all : (put took left sent_before sent taken_before taken : List RunItem) → has_end put ≡ false
    → has_end took ≡ false → sent_before ≡ [] → taken_before ≡ [] → sent ≡ sent_before ++ (put ++ item.End ∷ [])
    → taken ≡ taken_before ++ (took ++ item.End ∷ []) → sent ≡ taken ++ left → took ≡ put
taken-all put took left sent_before sent taken_before taken none_put none_took none_sent none_taken sends takes whole =
    same-items put took left none_put none_took
    (sym (ap (λ before. before ++ (put ++ item.End ∷ [])) none_sent) ∙ sym sends ∙ whole
    ∙ ap (λ all. all ++ left) (takes ∙ ap (λ before. before ++ (took ++ item.End ∷ [])) none_taken))
