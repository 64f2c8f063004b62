-- The order in which the fields behind a navigation's transition are shown: each reads where every field before it
-- has read, and what is left begins at the first that doesn't (this profile, after Chromium's
-- components/sessions/core/serialized_navigation_entry.cc).
use Rattle.std.specs.Prelude.{ℕ, zero, suc, ℤ, pos, negsuc, Bool, true, false, List, [], ◌∷◌, Option, Some, None, Result, Ok, Err, option_map}
use Rattle.pickle_cells.specs.declared.fault.PickleFault.{PickleFault}
use Rattle.pickle_cells.specs.CellReading.{Unread, ◌>>=◌, int_at, int64_at, flag_at, string_at, string16_at, units_of}
use Rattle.navigation_entry.specs.declared.more.InfoPair.{InfoPair}
use Rattle.navigation_entry.specs.declared.more.More.{More}

-- the bytes that are left, and whether every field so far has read
pub record Reading : Type 0 where
  pub reads : Bool
  pub left : List ℕ

abbrev pub begun : List ℕ → Reading
begun bytes = record { reads = true; left = bytes }

-- a value and the bytes behind it, where there is one
abbrev pub there : {A : Type 0} → Result (A × Unread) PickleFault → Option (A × List ℕ)
there (Ok x) = Some (x.0, x.1.bytes)
there (Err fault) = None

abbrev pub with_behind : {A : Type 0} → List ℕ → Result A PickleFault → Option (A × List ℕ)
with_behind behind (Ok x) = Some (x, behind)
with_behind behind (Err fault) = None

-- the value with which bytes begin, by a reading of items
abbrev pub front : {A : Type 0} → (Unread → Result (A × Unread) PickleFault) → List ℕ → Option (A × List ℕ)
front read bytes = there (read (record { place = 0; bytes = bytes }))

abbrev pub goes_on : {A : Type 0} → Bool → List ℕ → Option (A × List ℕ) → Option A × Reading
goes_on false left found = (None, record { reads = false; left = left })
goes_on true left None = (None, record { reads = false; left = left })
goes_on true left (Some x) = (Some x.0, record { reads = true; left = x.1 })

-- the next field
unfoldable pub next : {A : Type 0} → (Unread → Result (A × Unread) PickleFault) → Reading → Option A × Reading
next read fields = goes_on fields.reads fields.left (front read fields.left)

-- a pair of strings
unfoldable pub pair_at : Unread → Result (InfoPair × Unread) PickleFault
pair_at unread = string_at unread >>= λ key. string_at key.1 >>= λ value. Ok (record { key = key.0; value = value.0 }, value.1)

abbrev pub with_first : Option (InfoPair × List ℕ) → List ℕ → (List ℕ → List InfoPair × List ℕ) → List InfoPair × List ℕ
with_first None left others = ([], left)
with_first (Some x) left others = (x.0 ∷ (others x.1).0, (others x.1).1)

-- so many pairs, up to the first that doesn't read, and what is left from there
unfoldable pub pairs_at : ℕ → List ℕ → List InfoPair × List ℕ
pairs_at zero bytes = ([], bytes)
pairs_at (suc count) bytes = with_first (front pair_at bytes) bytes (pairs_at count)

abbrev pub counted_pairs : List ℕ → Option ℤ × Reading → List InfoPair × List ℕ
counted_pairs left (None, fields) = ([], left)
counted_pairs left (Some (pos count), fields) = pairs_at count fields.left
counted_pairs left (Some (negsuc below), fields) = ([], left)

-- the count of pairs, which isn't negative, and the pairs
unfoldable pub info_at : Reading → List InfoPair × List ℕ
info_at fields = counted_pairs fields.left (next int_at fields)

unfoldable pub more : List ℕ → More
more bytes =
    let mask = next int_at (begun bytes) in
    let referrer = next string_at mask.1 in
    let old_policy = next int_at referrer.1 in
    let original = next string_at old_policy.1 in
    let overriding = next flag_at original.1 in
    let time = next int64_at overriding.1 in
    let terms = next string16_at time.1 in
    let status = next int_at terms.1 in
    let policy = next int_at status.1 in
    let info = info_at policy.1 in
    record {
      type_mask = mask.0;
      referrer = referrer.0;
      old_policy = old_policy.0;
      original = original.0;
      overriding = overriding.0;
      time = time.0;
      terms = option_map units_of terms.0;
      status = status.0;
      policy = policy.0;
      info = info.0;
      left = info.1;
    }
