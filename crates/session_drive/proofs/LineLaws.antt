-- The lines that a run prints: each has one line feed, at its end, and none but that of a sync is one of a sync.
use Rattle.std.proofs.Common.{◌≡◌, ℕ, zero, suc, ◌/◌, ◌%◌, ◌<◌, ◌^◌, ℤ, pos, negsuc, Bool, true, false, eqb, cond}
use Rattle.std.proofs.Common.{List, [], ◌∷◌, ◌++◌, codes, decimal, false-eqb, append_assoc, refl, sym, ap, ◌∙◌, subst, arith}
use Rattle.std.specs.Fmt.{digits, digits_onto, digit_glyph, signed_decimal}
use Rattle.std.specs.List.{AllByRecursion, list_any}
use Rattle.std.proofs.lemmas.Bool.{or_parts}
use Rattle.std.proofs.lemmas.Bool.Decides.{nat_tests}
use Rattle.std.proofs.lemmas.Fmt.{decimal_injective}
use Rattle.std.proofs.lemmas.List.{append_cancel_left}
use Rattle.script_lines.specs.Lines.{Lacks}

-- bytes without a byte

pub lacks-append : (by : ℕ) (xs ys : List ℕ) → Lacks by xs → Lacks by ys → Lacks by (xs ++ ys)
lacks-append by [] ys one two = two
lacks-append by (x ∷ xs) ys one two = (one.0, lacks-append by xs ys one.1 two)

-- a text that is written out
pub lacks-text : (by : ℕ) (bytes : List ℕ) → list_any (λ b. eqb b by) bytes ≡ false → Lacks by bytes
lacks-text by [] h = tt
lacks-text by (b ∷ bytes) h =
    let parts = or_parts (eqb b by) (list_any (λ c. eqb c by) bytes) h in
    ((λ e. false-eqb b by (sym parts.0) e), lacks-text by bytes parts.1)

module _ (by : ℕ) (small : by < 45) where
  digits-lack : (k n : ℕ) (acc : List ℕ) → Lacks by acc → Lacks by (digits_onto k 10 false n acc)
  digits-lack zero n acc h = h
  digits-lack (suc k) n acc h =
      let digit : ℕ = digit_glyph false (n % 10) in
      let one : Lacks by (digit ∷ acc) = ((λ e. grind (arith, nat_tests, e, small)), h) in
      ends (digit ∷ acc) (digits_onto k 10 false (n / 10) (digit ∷ acc)) (eqb (n / 10) 0) one
      (digits-lack k (n / 10) (digit ∷ acc) one)
    where
      ends : (here later : List ℕ) (last : Bool) → Lacks by here → Lacks by later → Lacks by (cond last here later)
      ends here later true one two = one
      ends here later false one two = two

  pub decimal-lacks : (n : ℕ) → Lacks by (decimal n)
  unfolding digits
  decimal-lacks n = digits-lack 64 n [] tt

  pub signed-lacks : (z : ℤ) → Lacks by (signed_decimal z)
  signed-lacks (pos n) = decimal-lacks n
  signed-lacks (negsuc n) = ((λ e. omega (arith, e, small)), decimal-lacks (suc n))

-- Of two texts that are one, each cut at a byte: the first one ends at the same place, or before.
pub data Cuts (by : ℕ) (first rest other more : List ℕ) : Type 0 where
  Here : first ≡ other → rest ≡ more → Cuts by first rest other more
  Before : (between : List ℕ) → other ≡ first ++ by ∷ between → rest ≡ between ++ by ∷ more → Cuts by first rest other more

cuts : (by : ℕ) (first rest other more : List ℕ) → Lacks by first → first ++ by ∷ rest ≡ other ++ by ∷ more
    → Cuts by first rest other more
cuts by [] rest [] more lacks e = Here refl (let same : rest ≡ more = cc in same)
cuts by [] rest (b ∷ other) more lacks e =
    let at : by ≡ b = cc in
    Before other (ap (λ x. x ∷ other) (sym at)) (let same : rest ≡ other ++ by ∷ more = cc in same)
cuts by (x ∷ first) rest [] more lacks e = absurd (lacks.0 (let same : x ≡ by = cc in same))
cuts by (x ∷ first) rest (b ∷ other) more lacks e =
    let at : x ≡ b = cc in
    let later : first ++ by ∷ rest ≡ other ++ by ∷ more = cc in
    elim (cuts by first rest other more lacks.1 later) [
      | Here same tail ↦ Here (ap (λ y. y ∷ first) at ∙ ap (λ y. b ∷ y) same) tail
      | Before between same tail ↦ Before between (ap (λ y. y ∷ other) (sym at) ∙ ap (λ y. x ∷ y) same) tail
    ]

-- what is cut at the first place of a byte is cut there alone
cut-once : (by : ℕ) (first rest other more : List ℕ) → Lacks by first → Lacks by other
    → first ++ by ∷ rest ≡ other ++ by ∷ more → (first ≡ other) × (rest ≡ more)
cut-once by first rest other more one two e =
    elim (cuts by first rest other more one e) [
      | Here same tail ↦ (same, tail)
      | Before between same tail ↦ absurd (lacks-not first between (subst (Lacks by) same two))
    ]
  where
    lacks-not : (first between : List ℕ) → Lacks by (first ++ by ∷ between) → ⊥
    lacks-not [] between h = h.0 refl
    lacks-not (x ∷ first) between h = lacks-not first between h.1

-- a text of whole lines, each with its line feed behind it
abbrev pub joined : List (List ℕ) → List ℕ
joined [] = []
joined (line ∷ lines) = line ++ 10 ∷ joined lines

pub joined-append : (lines more : List (List ℕ)) → joined (lines ++ more) ≡ joined lines ++ joined more
joined-append [] more = refl
joined-append (line ∷ lines) more =
    ap (λ x. line ++ 10 ∷ x) (joined-append lines more) ∙ sym (append_assoc line (10 ∷ joined lines) (joined more))

-- lines of which each lacks a line feed and has P
abbrev pub AreLines : (List ℕ → Type 0) → List (List ℕ) → Type 0
AreLines P lines = AllByRecursion (λ line. Lacks 10 line × P line) lines

-- where a line stands in a text of such lines, it is one of them
module _ (P : List ℕ → Type 0) (line after : List ℕ) (own : Lacks 10 line) where
  pub line-first : (lines : List (List ℕ)) → AreLines P lines → joined lines ≡ line ++ 10 ∷ after → P line
  line-first [] all e = absurd (nothing line e)
    where
      nothing : (xs : List ℕ) → [] ≡ xs ++ 10 ∷ after → ⊥
      nothing [] e = absurd cc
      nothing (x ∷ xs) e = absurd cc
  line-first (other ∷ lines) all e =
      subst P (cut-once 10 other (joined lines) line after all.0.0 own e).0 all.0.1

  pub line-behind : (lines : List (List ℕ)) (before : List ℕ) → AreLines P lines
      → joined lines ≡ before ++ 10 ∷ (line ++ 10 ∷ after) → P line
  line-behind [] before all e = absurd (nothing before e)
    where
      nothing : (xs : List ℕ) → [] ≡ xs ++ 10 ∷ (line ++ 10 ∷ after) → ⊥
      nothing [] e = absurd cc
      nothing (x ∷ xs) e = absurd cc
  line-behind (other ∷ lines) before all e =
      elim (cuts 10 other (joined lines) before (line ++ 10 ∷ after) all.0.0 e) [
        | Here same tail ↦ line-first lines all.1 tail
        | Before between same tail ↦ line-behind lines between all.1 tail
      ]

-- the line of a sync, without its end
abbrev pub sync_text : ℕ → ℕ → List ℕ
sync_text session tabs = codes "sync " ++ (decimal session ++ (codes " " ++ decimal tabs))

pub sync-lacks : (session tabs : ℕ) → Lacks 10 (sync_text session tabs)
sync-lacks session tabs =
    lacks-append 10 (codes "sync ") _ (lacks-text 10 (codes "sync ") refl)
    (lacks-append 10 (decimal session) _ (decimal-lacks 10 (omega arith) session)
    (lacks-append 10 (codes " ") _ (lacks-text 10 (codes " ") refl) (decimal-lacks 10 (omega arith) tabs)))

-- it says its numbers
pub sync-numbers : (session tabs s t : ℕ) → session < 2 ^ 64 → tabs < 2 ^ 64 → s < 2 ^ 64 → t < 2 ^ 64
    → sync_text session tabs ≡ sync_text s t → (session ≡ s) × (tabs ≡ t)
sync-numbers session tabs s t a b p q e =
    let behind : decimal session ++ 32 ∷ decimal tabs ≡ decimal s ++ 32 ∷ decimal t =
    append_cancel_left (codes "sync ") (decimal session ++ 32 ∷ decimal tabs) (decimal s ++ 32 ∷ decimal t) e in
    let parts = cut-once 32 (decimal session) (decimal tabs) (decimal s) (decimal t)
    (decimal-lacks 32 (omega arith) session) (decimal-lacks 32 (omega arith) s) behind in
    (decimal_injective session s a p parts.0, decimal_injective tabs t b q parts.1)
