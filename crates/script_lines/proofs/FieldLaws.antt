-- A text cut at its first space, as the fields that it has.
use Rattle.std.proofs.Common.{◌≡◌, ℕ, ◌<◌, Bool, true, false, cond, eqb, List, [], ◌∷◌, length, Some, None, Bor, refl, sym, ap, subst, ◌∙◌, lit<}
use Rattle.std.specs.List.{onto_first, after_first, join_with_byte, position_or_len}
use Rattle.std.proofs.lemmas.List.Splits.{slice_split_first, slice_split_none, join_with_byte-slice_split}
use Rattle.std.proofs.lemmas.List.Sums.{fails_before_first}
use Rattle.std.proofs.lemmas.Str.Pattern.{split_once_first, IsSplitOnceResult}
use Rattle.script_lines.specs.Reading.{fields_of, is_over}

-- a text with a space
pub fields-split : (text : List ℕ) (x : Bor (List ℕ) × Bor (List ℕ)) → IsSplitOnceResult 32 text (Some x) → fields_of text ≡ x.0.now ∷ fields_of x.1.now
fields-split text x h =
    let t = split_once_first 32 text (Some x) h (lit< tt) in
    slice_split_first (λ b. eqb b 32) text 0 t.0 ∙ ap (λ first. first ∷ fields_of (after_first (λ b. eqb b 32) text)) (sym t.1) ∙ ap (λ others. x.0.now ∷ fields_of others) (sym t.2)

-- a text without one
pub fields-whole : (text : List ℕ) → IsSplitOnceResult 32 text None → fields_of text ≡ text ∷ []
fields-whole text h =
    let e : position_or_len (λ b. eqb b 32) text ≡ length text = split_once_first 32 text None h (lit< tt) in
    slice_split_none (λ b. eqb b 32) text (λ i d l. fails_before_first (λ b. eqb b 32) text i d (subst (λ n. i < n) (sym e) l))

cut_over : (t : Bool) (b : ℕ) (others : List (List ℕ)) → is_over (cond t ([] ∷ others) (onto_first b others)) ≡ false
cut_over true b others = refl
cut_over false b [] = refl
cut_over false b (field ∷ others) = refl

-- a text has a field
pub is_over-fields : (text : List ℕ) → is_over (fields_of text) ≡ false
is_over-fields [] = refl
is_over-fields (b ∷ text) = cut_over (eqb b 32) b (fields_of text)

-- the fields together are the text
pub joined-fields : (text : List ℕ) → join_with_byte 32 (fields_of text) ≡ text
joined-fields text = join_with_byte-slice_split 32 text

pub ruleset over = (is_over-fields, joined-fields)
