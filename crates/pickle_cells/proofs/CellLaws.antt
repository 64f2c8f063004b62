-- A cell that is read is a cell of the value that it gives, and a cell of a value is read as that value.
use Rattle.std.proofs.Common.{◌≡◌, ℕ, ◌+◌, ◌*◌, ◌%◌, ◌^◌, ◌<◌, ◌≤◌, ℤ, pos, negsuc, Bool, true, false, not, cond, eqb, ltb, List, ◌++◌, length, take, drop, Result, Ok, Err, refl, sym, ap, subst, ◌∙◌, append_assoc, arith, inl, inr}
use Rattle.std.specs.Prelude.{FitsSigned}
use Rattle.std.specs.Int.{Width, w32, w64, byte_len, from_le_bytes, to_le_bytes, cast_signed, cast_unsigned}
use borrow.Author.Gap.{read_sfits}
use Rattle.std.proofs.lemmas.Int.{to_z-of_z, of_z-to_z, ints}
use Rattle.std.proofs.lemmas.Bool.{cases_lt, ltb-false, le-ltb}
use Rattle.std.proofs.lemmas.List.{take_at, drop_at, take-append-drop, length-append, length-take, length-drop, take-take, get_or-drop, get_or-take, get_or_past}
use Rattle.std.proofs.lemmas.Nat.{le_bytes_4, le_bytes_8, from_le_bytes-to_le_bytes_4, from_le_bytes-to_le_bytes_8}
use Rattle.pickle_cells.specs.declared.fault.PickleFault.{PickleFault}
use Rattle.pickle_cells.specs.declared.fault.PickleFault.TheVariants.{Short}
use Rattle.pickle_cells.specs.Cell.{IsBytes, int, int64, uint32, uint64, padding, IsFlag, IsCounted}
use Rattle.pickle_cells.specs.CellReading.{Unread, ◌>>=◌, told, past, number_at, uint32_at, uint64_at, signed_at, int_at, int64_at, flag_at, text_at, characters_at, counted_at}

pub IsBytes-drop : (n : ℕ) (bytes : List ℕ) → IsBytes bytes → IsBytes (drop n bytes)
IsBytes-drop n bytes h i = rw get_or-drop (h (n + i))

pub IsBytes-take : (n : ℕ) (bytes : List ℕ) → IsBytes bytes → IsBytes (take n bytes)
IsBytes-take n bytes h i =
    elim (cases_lt i n) [
      | inl lt ↦ rw (get_or-take n bytes i 0 lt) (h i)
      | inr le ↦ rw (get_or_past (take n bytes) i 0 (omega (arith, length-take n bytes))) (omega arith)
    ]

-- the value of a step that did not fail
pub bind_ok : {A B : Type 0} (r : Result A PickleFault) (f : A → Result B PickleFault) (y : B) → (r >>= f) ≡ Ok y → (x : A) × (r ≡ Ok x) × (f x ≡ Ok y)
bind_ok (Ok x) f y e = (x, refl, e)
bind_ok (Err fault) f y e = absurd cc

-- a test that did not fail
pub guard_ok : {A : Type 0} (b : Bool) (fault : PickleFault) (x y : A) → cond b (Err fault) (Ok x) ≡ Ok y → (b ≡ false) × (x ≡ y)
guard_ok true fault x y e = absurd cc
guard_ok false fault x y e = (refl, cc)

abbrev done : {A : Type 0} → A → Result A PickleFault
done x = Ok x

pub ok_is : {A : Type 0} (x y : A) → done x ≡ done y → x ≡ y
ok_is x y e = cc

-- ---- what was taken from the front

pub record Taken (old : Unread) (cell : List ℕ) (new : Unread) : Type 0 where
  pub parts : old.bytes ≡ cell ++ new.bytes
  pub moved : new.place ≡ old.place + length cell

abbrev unread : ℕ → List ℕ → Unread
unread place bytes = record { place = place; bytes = bytes }

-- what is behind a cell is determined by its length
pub past-Taken : (old : Unread) (cell : List ℕ) (new : Unread) → Taken old cell new → past (length cell) old ≡ new
unfolding past
past-Taken old cell new t =
    let behind : drop (length cell) old.bytes ≡ new.bytes = ap (drop (length cell)) t.parts ∙ drop_at cell new.bytes (length cell) refl in
    ap (λ (p : ℕ). unread p (drop (length cell) old.bytes)) (sym t.moved) ∙ ap (unread new.place) behind

pub Taken-past : (n : ℕ) (old : Unread) → n ≤ length old.bytes → Taken old (take n old.bytes) (past n old)
unfolding past
Taken-past n old le = record { parts = sym (take-append-drop n old.bytes); moved = omega (arith, length-take n old.bytes) }

pub Taken-fits : (old : Unread) (cell : List ℕ) (new : Unread) → Taken old cell new → IsBytes old.bytes → IsBytes new.bytes
Taken-fits old cell new t fits =
    let behind : drop (length cell) old.bytes ≡ new.bytes = ap (drop (length cell)) t.parts ∙ drop_at cell new.bytes (length cell) refl in
    subst IsBytes behind (IsBytes-drop (length cell) old.bytes fits)

pub Taken-then : (a b c : Unread) (x y : List ℕ) → Taken a x b → Taken b y c → Taken a (x ++ y) c
Taken-then a b c x y p q = record { parts = p.parts ∙ ap (λ (t : List ℕ). x ++ t) q.parts ∙ sym (append_assoc x y c.bytes); moved = omega (arith, p.moved, q.moved, length-append x y) }

pub Taken-split : (old : Unread) (x y : List ℕ) (new : Unread) → Taken old (x ++ y) new → (middle : Unread) × Taken old x middle × Taken middle y new
Taken-split old x y new t =
    (unread (old.place + length x) (y ++ new.bytes), record { parts = t.parts ∙ append_assoc x y new.bytes; moved = refl }, record { parts = refl; moved = omega (arith, t.moved, length-append x y) })

-- ---- numbers

pub record IsWide (w : Width) (limit : ℕ) : Type 0 where
  pub len : (n : ℕ) → length (to_le_bytes w n) ≡ byte_len w
  pub back : (bytes : List ℕ) → length bytes ≡ byte_len w → IsBytes bytes → to_le_bytes w (from_le_bytes w bytes) ≡ bytes
  pub again : (n : ℕ) → n < limit → from_le_bytes w (to_le_bytes w n) ≡ n
  pub below : (bytes : List ℕ) → IsBytes bytes → from_le_bytes w bytes < limit
  pub unsigned : (n : ℕ) → n < limit → cast_unsigned w (cast_signed w n) ≡ n
  pub signed : (z : ℤ) → FitsSigned w z → cast_unsigned w z < limit

pub wide32 : IsWide w32 (2 ^ 32)
wide32 = record {
  len = λ n. refl;
  back = λ bytes len fits. le_bytes_4 bytes _ len fits refl;
  again = λ n lt. from_le_bytes-to_le_bytes_4 n lt;
  below = λ bytes fits. omega (arith, fits 0, fits 1, fits 2, fits 3);
  unsigned = λ n lt. of_z-to_z w32 n lt;
  signed = λ z fits. omega (arith, ints);
}

pub wide64 : IsWide w64 (2 ^ 64)
wide64 = record {
  len = λ n. refl;
  back = λ bytes len fits. le_bytes_8 bytes _ len fits refl;
  again = λ n lt. from_le_bytes-to_le_bytes_8 n lt;
  below = λ bytes fits. omega (arith, fits 0, fits 1, fits 2, fits 3, fits 4, fits 5, fits 6, fits 7);
  unsigned = λ n lt. of_z-to_z w64 n lt;
  signed = λ z fits. omega (arith, ints);
}

pub number_takes : (w : Width) (limit : ℕ) → IsWide w limit → (old : Unread) (n : ℕ) (new : Unread) → IsBytes old.bytes → number_at w old ≡ Ok (n, new) → Taken old (to_le_bytes w n) new × (n < limit)
unfolding number_at
number_takes w limit wide old n new fits e =
    let g = guard_ok (ltb (length old.bytes) (byte_len w)) (Short (told old.place)) (from_le_bytes w (take (byte_len w) old.bytes), past (byte_len w) old) (n, new) e in
    let long : byte_len w ≤ length old.bytes = ltb-false _ _ g.0 in
    let n-is : from_le_bytes w (take (byte_len w) old.bytes) ≡ n = ap (λ (p : ℕ × Unread). p.0) g.1 in
    let new-is : past (byte_len w) old ≡ new = ap (λ (p : ℕ × Unread). p.1) g.1 in
    let front : take (byte_len w) old.bytes ≡ to_le_bytes w n = rw (← n-is) (sym (wide.back (take (byte_len w) old.bytes) (omega (arith, length-take (byte_len w) old.bytes)) (IsBytes-take (byte_len w) old.bytes fits))) in
    let below : n < limit = subst (λ (m : ℕ). m < limit) n-is (wide.below (take (byte_len w) old.bytes) (IsBytes-take (byte_len w) old.bytes fits)) in
    (subst (λ (p : List ℕ). Taken old p new) front (subst (λ (p : Unread). Taken old (take (byte_len w) old.bytes) p) new-is (Taken-past (byte_len w) old long)), below)

pub number_again : (w : Width) (limit : ℕ) → IsWide w limit → (old : Unread) (n : ℕ) (new : Unread) → n < limit → Taken old (to_le_bytes w n) new → number_at w old ≡ Ok (n, new)
unfolding number_at
number_again w limit wide old n new lt t =
    let len = wide.len n in
    let long : ltb (length old.bytes) (byte_len w) ≡ false = le-ltb _ _ (omega (arith, ap length t.parts, length-append (to_le_bytes w n) new.bytes)) in
    let front : take (byte_len w) old.bytes ≡ to_le_bytes w n = ap (take (byte_len w)) t.parts ∙ take_at (to_le_bytes w n) new.bytes (byte_len w) len in
    let behind : past (byte_len w) old ≡ new = subst (λ (k : ℕ). past k old ≡ new) len (past-Taken old (to_le_bytes w n) new t) in
    rw (long, front, behind, wide.again n lt) refl

signed_takes : (w : Width) (limit : ℕ) → IsWide w limit → (old : Unread) (z : ℤ) (new : Unread) → IsBytes old.bytes → signed_at w old ≡ Ok (z, new) → Taken old (to_le_bytes w (cast_unsigned w z)) new × FitsSigned w z
unfolding signed_at
signed_takes w limit wide old z new fits e =
    let b = bind_ok (number_at w old) (λ n. Ok (cast_signed w n.0, n.1)) (z, new) e in
    let t = number_takes w limit wide old b.0.0 b.0.1 fits b.1 in
    let pair-is : (cast_signed w b.0.0, b.0.1) ≡ (z, new) = ok_is (cast_signed w b.0.0, b.0.1) (z, new) b.2 in
    let z-is : cast_signed w b.0.0 ≡ z = ap (λ (p : ℤ × Unread). p.0) pair-is in
    let new-is : b.0.1 ≡ new = ap (λ (p : ℤ × Unread). p.1) pair-is in
    let front : to_le_bytes w b.0.0 ≡ to_le_bytes w (cast_unsigned w z) = ap (to_le_bytes w) (sym (wide.unsigned b.0.0 t.1) ∙ ap (cast_unsigned w) z-is) in
    (subst (λ (p : List ℕ). Taken old p new) front (subst (λ (p : Unread). Taken old (to_le_bytes w b.0.0) p) new-is t.0), subst (λ (y : ℤ). FitsSigned w y) z-is (read_sfits w b.0.0))

signed_again : (w : Width) (limit : ℕ) → IsWide w limit → (old : Unread) (z : ℤ) (new : Unread) → FitsSigned w z → Taken old (to_le_bytes w (cast_unsigned w z)) new → signed_at w old ≡ Ok (z, new)
unfolding signed_at
signed_again w limit wide old z new fits t =
    rw (number_again w limit wide old (cast_unsigned w z) new (wide.signed z fits) t, to_z-of_z w z fits) refl

pub int_takes : (old : Unread) (z : ℤ) (new : Unread) → IsBytes old.bytes → int_at old ≡ Ok (z, new) → Taken old (int z) new × FitsSigned w32 z
unfolding int
int_takes = signed_takes w32 (2 ^ 32) wide32

pub int_again : (old : Unread) (z : ℤ) (new : Unread) → FitsSigned w32 z → Taken old (int z) new → int_at old ≡ Ok (z, new)
unfolding int
int_again = signed_again w32 (2 ^ 32) wide32

pub int64_takes : (old : Unread) (z : ℤ) (new : Unread) → IsBytes old.bytes → int64_at old ≡ Ok (z, new) → Taken old (int64 z) new × FitsSigned w64 z
unfolding int64
int64_takes = signed_takes w64 (2 ^ 64) wide64

pub int64_again : (old : Unread) (z : ℤ) (new : Unread) → FitsSigned w64 z → Taken old (int64 z) new → int64_at old ≡ Ok (z, new)
unfolding int64
int64_again = signed_again w64 (2 ^ 64) wide64

pub uint32_takes : (old : Unread) (n : ℕ) (new : Unread) → IsBytes old.bytes → uint32_at old ≡ Ok (n, new) → Taken old (uint32 n) new × (n < 2 ^ 32)
unfolding uint32
uint32_takes = number_takes w32 (2 ^ 32) wide32

pub uint32_again : (old : Unread) (n : ℕ) (new : Unread) → n < 2 ^ 32 → Taken old (uint32 n) new → uint32_at old ≡ Ok (n, new)
unfolding uint32
uint32_again = number_again w32 (2 ^ 32) wide32

pub uint64_takes : (old : Unread) (n : ℕ) (new : Unread) → IsBytes old.bytes → uint64_at old ≡ Ok (n, new) → Taken old (uint64 n) new × (n < 2 ^ 64)
unfolding uint64
uint64_takes = number_takes w64 (2 ^ 64) wide64

pub uint64_again : (old : Unread) (n : ℕ) (new : Unread) → n < 2 ^ 64 → Taken old (uint64 n) new → uint64_at old ≡ Ok (n, new)
unfolding uint64
uint64_again = number_again w64 (2 ^ 64) wide64

-- ---- truth values

pub flag_takes : (old : Unread) (b : Bool) (new : Unread) → IsBytes old.bytes → flag_at old ≡ Ok (b, new) → (cell : List ℕ) × IsFlag b cell × Taken old cell new
unfolding flag_at uint32
flag_takes old b new fits e =
    let r = bind_ok (uint32_at old) (λ n. Ok (not (eqb n.0 0), n.1)) (b, new) e in
    let t = number_takes w32 (2 ^ 32) wide32 old r.0.0 r.0.1 fits r.1 in
    let pair-is : (not (eqb r.0.0 0), r.0.1) ≡ (b, new) = ok_is (not (eqb r.0.0 0), r.0.1) (b, new) r.2 in
    let b-is : not (eqb r.0.0 0) ≡ b = ap (λ (p : Bool × Unread). p.0) pair-is in
    let new-is : r.0.1 ≡ new = ap (λ (p : Bool × Unread). p.1) pair-is in
    (to_le_bytes w32 r.0.0, (r.0.0, t.1, refl, sym b-is), subst (λ (p : Unread). Taken old (to_le_bytes w32 r.0.0) p) new-is t.0)

pub flag_again : (old : Unread) (b : Bool) (cell : List ℕ) (new : Unread) → IsFlag b cell → Taken old cell new → flag_at old ≡ Ok (b, new)
unfolding flag_at uint32
flag_again old b cell new is t =
    rw (number_again w32 (2 ^ 32) wide32 old is.0 new is.1 (subst (λ (p : List ℕ). Taken old p new) is.2 t), is.3) refl

-- ---- strings

-- a length that is padded is a multiple of 4
pub padded : (n : ℕ) → (n + padding n) % 4 ≡ 0
unfolding padding
padded n = omega arith

pub padding_small : (n : ℕ) → padding n ≤ 3
unfolding padding
padding_small n = omega arith

text_takes : (place size : ℕ) (old : Unread) (text : List ℕ) (new : Unread) → text_at place size old ≡ Ok (text, new) → (free : List ℕ) × (length text ≡ size) × (length free ≡ padding size) × Taken old (text ++ free) new
unfolding text_at
text_takes place size old text new e =
    let whole = size + padding size in
    let g = guard_ok (ltb (length old.bytes) whole) (Short (told place)) (take size old.bytes, past whole old) (text, new) e in
    let long : whole ≤ length old.bytes = ltb-false _ _ g.0 in
    let text-is : take size old.bytes ≡ text = ap (λ (p : List ℕ × Unread). p.0) g.1 in
    let new-is : past whole old ≡ new = ap (λ (p : List ℕ × Unread). p.1) g.1 in
    let free : List ℕ = drop size (take whole old.bytes) in
    let cut : take size old.bytes ++ free ≡ take whole old.bytes = rw (← take-take size whole old.bytes (omega arith)) (take-append-drop size (take whole old.bytes)) in
    let t : Taken old (take size old.bytes ++ free) (past whole old) = rw cut (Taken-past whole old long) in
    (free, omega (arith, ap length text-is, length-take size old.bytes), omega (arith, length-drop size (take whole old.bytes), length-take whole old.bytes), subst (λ (p : Unread). Taken old (text ++ free) p) new-is (subst (λ (p : List ℕ). Taken old (p ++ free) (past whole old)) text-is t))

text_again : (place : ℕ) (old : Unread) (text free : List ℕ) (new : Unread) → length free ≡ padding (length text) → Taken old (text ++ free) new → text_at place (length text) old ≡ Ok (text, new)
unfolding text_at
text_again place old text free new pad t =
    let size = length text in
    let whole : length (text ++ free) ≡ size + padding size = omega (arith, length-append text free) in
    let long : ltb (length old.bytes) (size + padding size) ≡ false = le-ltb _ _ (omega (arith, ap length t.parts, length-append (text ++ free) new.bytes)) in
    let front : take size old.bytes ≡ text = ap (take size) (t.parts ∙ append_assoc text free new.bytes) ∙ take_at text (free ++ new.bytes) size refl in
    let behind : past (size + padding size) old ≡ new = subst (λ (k : ℕ). past k old ≡ new) whole (past-Taken old (text ++ free) new t) in
    rw (long, front, behind) refl

characters_taken : (width : ℕ) (old : Unread) (z : ℤ) (behind : Unread) (text : List ℕ) (new : Unread) → Taken old (int z) behind → FitsSigned w32 z → characters_at width old.place (z, behind) ≡ Ok (text, new) → (cell : List ℕ) × (count : ℕ) × (length text ≡ width * count) × IsCounted count text cell × Taken old cell new
characters_taken width old (pos count) behind text new t fits e =
    let r = text_takes old.place (width * count) behind text new e in
    (int (pos count) ++ (text ++ r.0), count, r.1, (r.0, omega (arith, ints), r.2 ∙ ap padding (sym r.1), refl), Taken-then old behind new (int (pos count)) (text ++ r.0) t r.3)
characters_taken width old (negsuc below) behind text new t fits e = absurd cc

pub counted_takes : (width : ℕ) (old : Unread) (text : List ℕ) (new : Unread) → IsBytes old.bytes → counted_at width old ≡ Ok (text, new) → (cell : List ℕ) × (count : ℕ) × (length text ≡ width * count) × IsCounted count text cell × Taken old cell new
unfolding counted_at
counted_takes width old text new fits e =
    let b = bind_ok (int_at old) (characters_at width old.place) (text, new) e in
    let t = int_takes old b.0.0 b.0.1 fits b.1 in
    characters_taken width old b.0.0 b.0.1 text new t.0 t.1 b.2

pub counted_again : (width count : ℕ) (old : Unread) (text cell : List ℕ) (new : Unread) → length text ≡ width * count → IsCounted count text cell → Taken old cell new → counted_at width old ≡ Ok (text, new)
unfolding counted_at
counted_again width count old text cell new size is t =
    let both : Taken old (int (pos count) ++ (text ++ is.0)) new = subst (λ (p : List ℕ). Taken old p new) is.3 t in
    let s = Taken-split old (int (pos count)) (text ++ is.0) new both in
    rw (int_again old (pos count) s.0 (omega (arith, is.1)) s.1, ← size) (text_again old.place s.0 text is.0 new is.2 s.2)
