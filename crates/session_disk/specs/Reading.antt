-- What reading a source to its end takes from it.
use Rattle.std.specs.Prelude.{◌≡◌, ℕ, ◌+◌, ◌<◌, ◌≤◌, Bool, true, false, List, [], ◌++◌, length, drop, Option, None, Some, Result, Ok, Err, IsErrOf, Vec}
use Rattle.std.specs.Global.{Global}
use Rattle.session_disk.specs.Causes.{Rose}
use Rattle.session_disk.specs.declared.failure.ReadError.{ReadError}
use Rattle.session_disk.specs.declared.failure.ReadError.TheVariants.{Failed, TooLong}

-- the source failed only where its count rose
pub record ReadHasCause {T : Type 0} (before now : ℕ) (result : Result T ReadError) : Type 0 where
  pub later : before ≤ now
  pub failed : IsErrOf result Failed → Rose before now

-- the bytes got longer by at most so many, by at least one exactly where there was more
pub record Lengthens (bytes longer : List ℕ) (most : ℕ) (more : Bool) : Type 0 where
  pub bounded : length longer ≤ length bytes + most
  pub grown : more ≡ true → length bytes < length longer
  pub same : more ≡ false → length longer ≤ length bytes

-- a piece moved from the start of what is left to the end of the bytes; none only where nothing is left
pub record MovesPiece (left bytes longer : List ℕ) (new : Option (List ℕ)) (more : Bool) : Type 0 where
  pub rest : List ℕ
  pub remains : new ≡ Some rest
  pub moved : bytes ++ left ≡ longer ++ rest
  pub ended : more ≡ false → rest ≡ []

abbrev pub ReadsPiece : Option (List ℕ) → Option (List ℕ) → List ℕ → List ℕ → Bool → Type 0
ReadsPiece None new bytes longer more = new ≡ None
ReadsPiece (Some left) new bytes longer more = MovesPiece left bytes longer new more

-- After Ok the bytes are all that was left, and nothing is left. A source that is too long had more than the limit, and
-- that many and one more are read.
abbrev pub ReadsAll : ℕ → Option (List ℕ) → Option (List ℕ) → Result (Vec ℕ Global) ReadError → Type 0
ReadsAll limit None new result = Unit {0}
ReadsAll limit (Some left) new (Ok bytes) = (bytes.items ≡ left) × (new ≡ Some [])
ReadsAll limit (Some left) new (Err TooLong) = (limit < length left) × (new ≡ Some (drop (limit + 1) left))
ReadsAll limit (Some left) new (Err error) = Unit {0}
