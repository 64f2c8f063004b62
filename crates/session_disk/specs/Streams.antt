-- What a read takes from a source and a write adds to a sink, where these tell their bytes. One that
-- doesn't tell them never begins to.
use Rattle.std.specs.Prelude.{◌≡◌, ℕ, ◌≤◌, List, [], ◌++◌, length, take, drop, Option, Some, None, Result, MatchResult}
use Rattle.session_disk.specs.declared.failure.Failed.{Failed}

-- n bytes of the text are at the start of the buffer, and none only where there are none
pub record IsRead (text : List ℕ) (n : ℕ) (buffer : List ℕ) : Type 0 where
  pub within : n ≤ length text
  pub bytes : take n buffer ≡ take n text
  pub ended : n ≡ 0 → text ≡ []

-- the bytes that were read have gone from what is left; a failed read takes none
abbrev pub TakesFrom : Option (List ℕ) → Option (List ℕ) → Result ℕ Failed → List ℕ → Type 0
TakesFrom None new result buffer = new ≡ None
TakesFrom (Some text) new result buffer =
    MatchResult result (λ n. IsRead text n buffer × (new ≡ Some (drop n text))) (λ _. new ≡ Some text)

-- the bytes that went out stand at the end of what is written; a failed write adds none
abbrev pub AddsTo : Option (List ℕ) → Option (List ℕ) → Result ℕ Failed → List ℕ → Type 0
AddsTo None new result bytes = new ≡ None
AddsTo (Some before) new result bytes =
    MatchResult result (λ n. new ≡ Some (before ++ take n bytes)) (λ _. new ≡ Some before)
