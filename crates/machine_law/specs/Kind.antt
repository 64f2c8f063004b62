-- A kind of machine as plain functions: what its commands do to a state, how a state is restated as commands, and how
-- commands are written and read. A family of session files has one.
use Rattle.std.specs.Prelude.{◌≡◌, ℕ, ◌≤◌, Bool, true, List, [], ◌∷◌, length}
use Rattle.std.specs.List.{AllByRecursion}

-- the most bytes of a payload
abbrev pub payload_limit : ℕ
payload_limit = 65534

-- the id of the initial-state marker
abbrev pub marker_id : ℕ
marker_id = 255

pub record Kind (S C : Type 0) : Type 1 where
  -- the state before any command
  pub start : S
  -- the state after one
  pub step : S → C → S
  -- the commands that restate a state, and the most of them
  pub compaction : S → List C
  pub weight : S → ℕ
  -- the commands after which a state shows the same and nothing else
  pub tidying : S → List C
  -- what is written for a command
  pub id : C → ℕ
  pub payload : C → List ℕ
  -- an id and bytes are a command's
  pub Payload : ℕ → C → List ℕ → Type 0
  -- the first of two commands changes nothing that the second doesn't
  pub covers : C → C → Bool

module _ {S C : Type 0} (kind : Kind S C) where
  -- the state after commands in order
  abbrev pub fold : S → List C → S
  fold state [] = state
  fold state (command ∷ commands) = fold (kind.step state command) commands

  -- the initial-state marker: the command with its id and no payload
  abbrev pub IsMarker : C → Type 0
  IsMarker command = kind.Payload marker_id command []

-- What holds of every kind, over states and commands that are values of a machine.
pub record IsLawful {S C : Type 0} (kind : Kind S C) (IsState : S → Type 0) (IsCommand : C → Type 0) : Type 0 where
  -- a compaction folds to the very state, and isn't longer than its weight; no marker is in it
  pub folds_back : (state : S) → IsState state → fold kind kind.start (kind.compaction state) ≡ state
  pub at_most : (state : S) → IsState state → length (kind.compaction state) ≤ kind.weight state
  pub unmarked : (state : S) → IsState state → AllByRecursion (λ command. IsMarker kind command → ⊥) (kind.compaction state)
  -- one command at most has an id and a payload
  pub only : (id : ℕ) (payload : List ℕ) (command other : C) → kind.Payload id command payload → kind.Payload id other payload → other ≡ command
  -- there is a marker, and it changes no state
  pub has_marker : (command : C) × IsMarker kind command
  pub marker : (state : S) (command : C) → IsMarker kind command → kind.step state command ≡ state
  -- a command that is covered needn't be there, whatever the state is
  pub covered : (state : S) (first second : C) → kind.covers first second ≡ true
      → kind.step (kind.step state first) second ≡ kind.step state second
