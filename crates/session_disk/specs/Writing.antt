-- What writing all of some bytes adds to a sink.
use Rattle.std.specs.Prelude.{◌≡◌, ℕ, ◌≤◌, List, ◌++◌, length, take, Option, None, Some, Result, Ok, Err}
use Rattle.session_disk.specs.declared.failure.Failed.{Failed}

-- all of them after Ok, some prefix of them after a failure
abbrev pub WritesAll : {T : Type 0} → Option (List ℕ) → Option (List ℕ) → List ℕ → Result T Failed → Type 0
WritesAll None new bytes result = new ≡ None
WritesAll (Some before) new bytes (Ok x) = new ≡ Some (before ++ bytes)
WritesAll (Some before) new bytes (Err e) = (n : ℕ) × (n ≤ length bytes) × (new ≡ Some (before ++ take n bytes))
