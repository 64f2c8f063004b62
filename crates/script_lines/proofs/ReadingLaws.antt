-- What the tests of a whole line tell of its reading.
use Rattle.std.proofs.Common.{◌≡◌, ℕ, true, false, List, inl, inr}
use Rattle.std.specs.Str.{IsUtf8, is_utf8}
use Rattle.std.proofs.lemmas.Bool.{cases_Bool}
use Rattle.std.proofs.lemmas.Str.{IsUtf8-from_is_utf8, is_utf8-from_IsUtf8}

pub utf8_passes : (line : List ℕ) → IsUtf8 line → is_utf8 line ≡ true
utf8_passes line h = is_utf8-from_IsUtf8 line h

pub utf8_fails : (line : List ℕ) → ¬ (IsUtf8 line) → is_utf8 line ≡ false
utf8_fails line h = elim (cases_Bool (is_utf8 line)) [ inl yes' ↦ absurd (h (IsUtf8-from_is_utf8 line yes')) | inr no' ↦ no' ]

pub ruleset utf8_tests = (utf8_passes, utf8_fails)
