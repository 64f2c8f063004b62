-- Texts of 16-bit units as bytes, and back.
use Rattle.std.proofs.Common.{◌≡◌, ℕ, zero, suc, ◌+◌, ◌*◌, ◌/◌, ◌%◌, ◌^◌, ◌<◌, ◌≤◌, List, [], ◌∷◌, ◌++◌, length, get_or, take, drop, append_assoc, refl, sym, ap, ◌∙◌, arith, drop-cons}
use Rattle.std.specs.Int.{w16, to_le_bytes}
use Rattle.std.specs.List.{AllByRecursion}
use Rattle.std.proofs.lemmas.Nat.{le_bytes_2}
use Rattle.std.proofs.lemmas.List.{flat_map_more}
use Rattle.std.proofs.lemmas.Grind.{common_steps}
use Rattle.pickle_cells.specs.Cell.{unit_bytes, IsBytes}
use Rattle.pickle_cells.specs.CellReading.{units_of}

pub length-unit_bytes : (units : List ℕ) → length (unit_bytes units) ≡ 2 * length units
unfolding unit_bytes
length-unit_bytes [] = refl
length-unit_bytes (unit ∷ units) = omega (arith, length-unit_bytes units)

pub ruleset unit_lengths = (length-unit_bytes)

pub unit_bytes-none : unit_bytes [] ≡ []
unfolding unit_bytes
unit_bytes-none = refl

-- one more unit is two more bytes
pub unit_bytes-take : (units : List ℕ) (i : ℕ) (d : ℕ) → i < length units → unit_bytes (take (i + 1) units) ≡ unit_bytes (take i units) ++ to_le_bytes w16 (get_or units i d)
unfolding unit_bytes
unit_bytes-take units i d lt =
    let more : take (i + 1) units ≡ take i units ++ get_or units i d ∷ [] = grind (arith, common_steps) in
    rw more (sym (flat_map_more (to_le_bytes w16) [] (take i units) (get_or units i d)))

pub ruleset unit_steps = (unit_bytes-none, unit_bytes-take, append_assoc)

pub length-units_of : (bytes : List ℕ) → length (units_of bytes) ≡ length bytes / 2
unfolding units_of
length-units_of [] = refl
length-units_of (low ∷ []) = refl
length-units_of (low ∷ high ∷ bytes) = omega (arith, length-units_of bytes)

IsBytes-behind : (low high : ℕ) (bytes : List ℕ) → IsBytes (low ∷ high ∷ bytes) → IsBytes bytes
IsBytes-behind low high bytes h i = h (suc (suc i))

IsBytes-two : (low high : ℕ) (bytes : List ℕ) → IsBytes (low ∷ high ∷ bytes) → IsBytes (low ∷ high ∷ [])
IsBytes-two low high bytes h zero = h 0
IsBytes-two low high bytes h (suc zero) = h 1
IsBytes-two low high bytes h (suc (suc i)) = omega arith

-- the units that stand in whole pairs of bytes stand there as these bytes
pub unit_bytes-units_of : (bytes : List ℕ) → IsBytes bytes → length bytes % 2 ≡ 0 → unit_bytes (units_of bytes) ≡ bytes
unfolding unit_bytes units_of
unit_bytes-units_of [] fits even = refl
unit_bytes-units_of (low ∷ []) fits even = absurd (omega arith)
unit_bytes-units_of (low ∷ high ∷ bytes) fits even =
    let first : to_le_bytes w16 (low + high * 256) ≡ low ∷ high ∷ [] = le_bytes_2 (low ∷ high ∷ []) (low + high * 256) refl (IsBytes-two low high bytes fits) refl in
    let others = unit_bytes-units_of bytes (IsBytes-behind low high bytes fits) (omega arith) in
    rw others (ap (λ (x : List ℕ). x ++ bytes) first)

-- units are below 2 ^ 16
pub units_of-fits : (bytes : List ℕ) → IsBytes bytes → AllByRecursion (λ u. u < 2 ^ 16) (units_of bytes)
unfolding units_of
units_of-fits [] fits = tt
units_of-fits (low ∷ []) fits = tt
units_of-fits (low ∷ high ∷ bytes) fits = (omega (arith, fits 0, fits 1), units_of-fits bytes (IsBytes-behind low high bytes fits))

-- units are read back from their bytes
pub units_of-unit_bytes : (units : List ℕ) → AllByRecursion (λ u. u < 2 ^ 16) units → units_of (unit_bytes units) ≡ units
unfolding unit_bytes units_of
units_of-unit_bytes [] fits = refl
units_of-unit_bytes (unit ∷ units) fits =
    let first : unit % 256 + unit / 256 % 256 * 256 ≡ unit = omega (arith, fits.0) in
    rw (units_of-unit_bytes units fits.1, first) refl

-- two more bytes are one more unit
pub units_of-drop : (bytes : List ℕ) (i : ℕ) → 2 * i + 1 < length bytes → units_of (drop (2 * i) bytes) ≡ (get_or bytes (2 * i) 0 + get_or bytes (2 * i + 1) 0 * 256) ∷ units_of (drop (2 * (i + 1)) bytes)
unfolding units_of
units_of-drop bytes i lt =
    let first : drop (2 * i) bytes ≡ get_or bytes (2 * i) 0 ∷ drop (suc (2 * i)) bytes = drop-cons bytes (2 * i) 0 (omega arith) in
    let second : drop (suc (2 * i)) bytes ≡ get_or bytes (suc (2 * i)) 0 ∷ drop (suc (suc (2 * i))) bytes = drop-cons bytes (suc (2 * i)) 0 (omega arith) in
    let k : 2 * (i + 1) ≡ suc (suc (2 * i)) = omega arith in
    let j : 2 * i + 1 ≡ suc (2 * i) = omega arith in
    rw (first, second, k, j) refl

-- a single byte is no unit
pub units_of-short : (bytes : List ℕ) → length bytes < 2 → units_of bytes ≡ []
unfolding units_of
units_of-short [] lt = refl
units_of-short (low ∷ []) lt = refl
units_of-short (low ∷ high ∷ bytes) lt = absurd (omega arith)

-- units that are below 2 ^ 16 at each index
pub units_below : (units : List ℕ) → ((i : ℕ) → get_or units i 0 < 2 ^ 16) → AllByRecursion (λ u. u < 2 ^ 16) units
units_below [] fits = tt
units_below (unit ∷ units) fits = (fits 0, units_below units (λ i. fits (suc i)))
