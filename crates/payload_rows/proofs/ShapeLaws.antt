-- The shapes of payloads of fixed length, by the numbers that are read at their offsets.
use Rattle.std.proofs.Common.{◌≡◌, ℕ, ℤ, Bool, List, [], ◌∷◌, ◌++◌, length, append_assoc}
use Rattle.std.proofs.lemmas.List.{append-nil}
use Rattle.pickle_cells.specs.Layout.{Int, Int64, Uint64, Flag, Free}
use Rattle.payload_rows.specs.declared.kind.FieldKind.TheVariants.{Int as IntField, Int64 as Int64Field, Uint64 as Uint64Field, Flag as FlagField, Free as FreeField}
use Rattle.payload_rows.specs.FixedReading.{int_at, int64_at, uint64_at, flag_at}
use Rattle.payload_rows.specs.PayloadLayout.{Fixed, IsLaidOut}
use Rattle.payload_rows.proofs.FieldLaws.{AreBytes, fields_found}

pub flag_read : (payload : List ℕ) (b : Bool) → AreBytes payload → length payload ≡ 1 → b ≡ flag_at 0 payload → IsLaidOut (Fixed (Flag b ∷ [])) payload
unfolding IsLaidOut
flag_read payload b range size e = rw e (fields_found (FlagField ∷ []) payload range size)

pub int_read : (payload : List ℕ) (a : ℤ) → AreBytes payload → length payload ≡ 4 → a ≡ int_at 0 payload → IsLaidOut (Fixed (Int a ∷ [])) payload
unfolding IsLaidOut
int_read payload a range size e = rw e (fields_found (IntField ∷ []) payload range size)

pub two_ints_read : (payload : List ℕ) (a b : ℤ) → AreBytes payload → length payload ≡ 8 → a ≡ int_at 0 payload → b ≡ int_at 4 payload → IsLaidOut (Fixed (Int a ∷ Int b ∷ [])) payload
unfolding IsLaidOut
two_ints_read payload a b range size e f = rw (e, f) (fields_found (IntField ∷ IntField ∷ []) payload range size)

pub int_flag_read : (payload : List ℕ) (a : ℤ) (b : Bool) → AreBytes payload → length payload ≡ 8 → a ≡ int_at 0 payload → b ≡ flag_at 4 payload → IsLaidOut (Fixed (Int a ∷ Flag b ∷ Free 3 ∷ [])) payload
unfolding IsLaidOut
int_flag_read payload a b range size e f = rw (e, f) (fields_found (IntField ∷ FlagField ∷ FreeField 3 ∷ []) payload range size)

pub three_ints_read : (payload : List ℕ) (a b c : ℤ) → AreBytes payload → length payload ≡ 12 → a ≡ int_at 0 payload → b ≡ int_at 4 payload → c ≡ int_at 8 payload → IsLaidOut (Fixed (Int a ∷ Int b ∷ Int c ∷ [])) payload
unfolding IsLaidOut
three_ints_read payload a b c range size e f g = rw (e, f, g) (fields_found (IntField ∷ IntField ∷ IntField ∷ []) payload range size)

pub six_ints_read : (payload : List ℕ) (a b c d e f : ℤ) → AreBytes payload → length payload ≡ 24 → a ≡ int_at 0 payload → b ≡ int_at 4 payload → c ≡ int_at 8 payload → d ≡ int_at 12 payload → e ≡ int_at 16 payload → f ≡ int_at 20 payload →
    IsLaidOut (Fixed (Int a ∷ Int b ∷ Int c ∷ Int d ∷ Int e ∷ Int f ∷ [])) payload
unfolding IsLaidOut
six_ints_read payload a b c d e f range size p q r s t u =
    rw (p, q, r, s, t, u) (fields_found (IntField ∷ IntField ∷ IntField ∷ IntField ∷ IntField ∷ IntField ∷ []) payload range size)

pub int_time_read : (payload : List ℕ) (a t : ℤ) → AreBytes payload → length payload ≡ 16 → a ≡ int_at 0 payload → t ≡ int64_at 8 payload → IsLaidOut (Fixed (Int a ∷ Free 4 ∷ Int64 t ∷ [])) payload
unfolding IsLaidOut
int_time_read payload a t range size e f = rw (e, f) (fields_found (IntField ∷ FreeField 4 ∷ Int64Field ∷ []) payload range size)

pub two_ints_time_read : (payload : List ℕ) (a b t : ℤ) → AreBytes payload → length payload ≡ 16 → a ≡ int_at 0 payload → b ≡ int_at 4 payload → t ≡ int64_at 8 payload → IsLaidOut (Fixed (Int a ∷ Int b ∷ Int64 t ∷ [])) payload
unfolding IsLaidOut
two_ints_time_read payload a b t range size e f g = rw (e, f, g) (fields_found (IntField ∷ IntField ∷ Int64Field ∷ []) payload range size)

pub group_read : (payload : List ℕ) (a : ℤ) (high low : ℕ) (b : Bool) → AreBytes payload → length payload ≡ 32 → a ≡ int_at 0 payload → high ≡ uint64_at 8 payload → low ≡ uint64_at 16 payload → b ≡ flag_at 24 payload →
    IsLaidOut (Fixed (Int a ∷ Free 4 ∷ Uint64 high ∷ Uint64 low ∷ Flag b ∷ Free 7 ∷ [])) payload
unfolding IsLaidOut
group_read payload a high low b range size e f g h =
    rw (e, f, g, h) (fields_found (IntField ∷ FreeField 4 ∷ Uint64Field ∷ Uint64Field ∷ FlagField ∷ FreeField 7 ∷ []) payload range size)

-- six pieces, appended one by one, stand one after another
pub six_pieces : (old o p q r s t a b c d e f : List ℕ) → o ≡ old ++ a → p ≡ o ++ b → q ≡ p ++ c → r ≡ q ++ d → s ≡ r ++ e → t ≡ s ++ f → t ≡ old ++ (a ++ (b ++ (c ++ (d ++ (e ++ (f ++ []))))))
six_pieces old o p q r s t a b c d e f i j k l m n = rw (n, m, l, k, j, i) (simp (append_assoc, append-nil))
