-- Bytes that are written whole, piece by piece.
use Rattle.std.proofs.Common.{◌≡◌, ℕ, List, [], ◌++◌, length, take, drop, Option, Some, None, Ok, Err, append_assoc, refl, sym, ap, ◌∙◌, arith}
use Rattle.std.proofs.lemmas.List.{append-nil, length-append, take-append-drop, take_at}
use Rattle.session_disk.specs.declared.failure.Failed.{Failed}
use Rattle.session_disk.specs.Streams.{AddsTo}
use Rattle.session_disk.specs.Writing.{WritesAll}

-- a prefix of the bytes was written, and this rest is left
abbrev pub WrittenSoFar : Option (List ℕ) → Option (List ℕ) → List ℕ → List ℕ → Type 0
WrittenSoFar None new bytes rest = new ≡ None
WrittenSoFar (Some before) new bytes rest = (prefix : List ℕ) × (bytes ≡ prefix ++ rest) × (new ≡ Some (before ++ prefix))

pub written_none : (old : Option (List ℕ)) (bytes : List ℕ) → WrittenSoFar old old bytes bytes
written_none None bytes = refl
written_none (Some before) bytes = ([], refl, ap Some (sym (append-nil before)))

pub written_more : (old middle new : Option (List ℕ)) (bytes rest : List ℕ) (n : ℕ) → WrittenSoFar old middle bytes rest → AddsTo middle new (Ok n) rest → WrittenSoFar old new bytes (drop n rest)
written_more None None new bytes rest n h k = k
written_more None (Some middle) new bytes rest n h k = absurd cc
written_more (Some before) None new bytes rest n h k = absurd (let e = h.2 in cc)
written_more (Some before) (Some middle) new bytes rest n (prefix, split, is) k = (
  prefix ++ take n rest,
  split ∙ ap (λ (x : List ℕ). prefix ++ x) (sym (take-append-drop n rest)) ∙ sym (append_assoc prefix (take n rest) (drop n rest)),
  k ∙ ap (λ (x : List ℕ). Some (x ++ take n rest)) (let e : middle ≡ before ++ prefix = cc in e) ∙ ap Some (append_assoc before prefix (take n rest)),
)

pub written_all : (old new : Option (List ℕ)) (bytes rest : List ℕ) → WrittenSoFar old new bytes rest → rest ≡ [] → WritesAll {T = Unit {0}} old new bytes (Ok tt)
written_all None new bytes rest h e = h
written_all (Some before) new bytes rest (prefix, split, is) e =
    is ∙ ap (λ (x : List ℕ). Some (before ++ x)) (sym (split ∙ ap (λ (x : List ℕ). prefix ++ x) e ∙ append-nil prefix))

pub written_failed : (old middle new : Option (List ℕ)) (bytes rest : List ℕ) (f : Failed) → WrittenSoFar old middle bytes rest → AddsTo middle new (Err f) rest → WritesAll {T = Unit {0}} old new bytes (Err f)
written_failed None None new bytes rest f h k = k
written_failed None (Some middle) new bytes rest f h k = absurd cc
written_failed (Some before) None new bytes rest f h k = absurd (let e = h.2 in cc)
written_failed (Some before) (Some middle) new bytes rest f (prefix, split, is) k =
    let long = length-append prefix rest in
    (length prefix, omega (arith, ap length split), k ∙ is ∙ ap (λ (x : List ℕ). Some (before ++ x)) (sym (take_at prefix rest (length prefix) refl) ∙ ap (take (length prefix)) (sym split)))
