-- A source that is read to its end, piece by piece.
use Rattle.std.proofs.Common.{◌≡◌, ℕ, ◌+◌, ◌<◌, ◌≤◌, Bool, false, List, [], ◌++◌, length, drop, Option, Some, None, Ok, Err, Vec, Global, refl, sym, ap, ◌∙◌, arith}
use Rattle.std.proofs.lemmas.List.{append-nil, length-append, drop_at}
use Rattle.session_disk.specs.declared.failure.ReadError.{ReadError}
use Rattle.session_disk.specs.declared.failure.ReadError.TheVariants.{Failed, TooLong, Memory}
use Rattle.session_disk.specs.Reading.{ReadsPiece, ReadsAll}

-- the bytes are a prefix of all that was left, and this is left now
abbrev pub ReadSoFar : Option (List ℕ) → Option (List ℕ) → List ℕ → Type 0
ReadSoFar None now bytes = now ≡ None
ReadSoFar (Some left) now bytes = (rest : List ℕ) × (now ≡ Some rest) × (left ≡ bytes ++ rest)

pub read_none : (left : Option (List ℕ)) → ReadSoFar left left []
read_none None = refl
read_none (Some left) = (left, refl, refl)

pub read_more : (left middle now : Option (List ℕ)) (bytes longer : List ℕ) (more : Bool) → ReadSoFar left middle bytes → ReadsPiece middle now bytes longer more → ReadSoFar left now longer
read_more None None now bytes longer more h k = k
read_more None (Some middle) now bytes longer more h k = absurd cc
read_more (Some left) None now bytes longer more h k = absurd (let e = h.1 in cc)
read_more (Some left) (Some middle) now bytes longer more (rest, is, split) k =
    (k.rest, k.remains, split ∙ ap (λ (x : List ℕ). bytes ++ x) (let e : rest ≡ middle = cc in e) ∙ k.moved)

pub read_all : (limit : ℕ) (left middle now : Option (List ℕ)) (bytes longer : List ℕ) → ReadSoFar left middle bytes → ReadsPiece middle now bytes longer false → (v : Vec ℕ Global) → v.items ≡ longer → ReadsAll limit left now (Ok v)
read_all limit None middle now bytes longer h k v e = tt
read_all limit (Some left) None now bytes longer h k v e = absurd (let f = h.1 in cc)
read_all limit (Some left) (Some middle) now bytes longer (rest, is, split) k v e = (
  e ∙ sym (append-nil longer) ∙ ap (λ (x : List ℕ). longer ++ x) (sym (k.ended refl)) ∙ sym k.moved ∙ ap (λ (x : List ℕ). bytes ++ x) (let f : middle ≡ rest = cc in f) ∙ sym split,
  k.remains ∙ ap Some (k.ended refl),
)

pub read_too_long : (limit : ℕ) (left now : Option (List ℕ)) (bytes : List ℕ) → ReadSoFar left now bytes → limit < length bytes → length bytes ≤ limit + 1 → ReadsAll limit left now (Err TooLong)
read_too_long limit None now bytes h long short = tt
read_too_long limit (Some left) now bytes (rest, is, split) long short =
    let n : length bytes ≡ limit + 1 = omega (arith, long, short) in
    (omega (arith, ap length split, length-append bytes rest), is ∙ ap Some (sym (ap (drop (limit + 1)) split ∙ drop_at bytes rest (limit + 1) n)))

-- another error says nothing of the bytes
pub read_failed : (limit : ℕ) (left now : Option (List ℕ)) (error : ReadError) → (error ≡ TooLong → ⊥) → ReadsAll limit left now (Err error)
read_failed limit None now error other = tt
read_failed limit (Some left) now Failed other = tt
read_failed limit (Some left) now TooLong other = absurd (other refl)
read_failed limit (Some left) now Memory other = tt
