-- One field takes one command at most.
use Rattle.std.proofs.Common.{◌≤◌, ℤ, Bool, true, false, cond, [], ◌∷◌, length, Option, Some, None, arith}
use Rattle.std.specs.Ordering.{int_eq}
use Rattle.compaction_runs.specs.FieldCommands.{given, flagged, unusual}

pub few-given : {A C : Type 0} (command : A → C) (o : Option A) → length (given command o) ≤ 1
few-given command None = omega arith
few-given command (Some x) = omega arith

pub few-flagged : {C : Type 0} (command : C) (flag : Bool) → length (flagged command flag) ≤ 1
few-flagged command true = omega arith
few-flagged command false = omega arith

pub few-unusual : {C : Type 0} (usual : ℤ) (command : ℤ → C) (z : ℤ) → length (unusual usual command z) ≤ 1
few-unusual usual command z = elim (int_eq z usual) as (λ b. length (cond b [] (command z ∷ [])) ≤ 1) [ true ↦ omega arith | false ↦ omega arith ]
