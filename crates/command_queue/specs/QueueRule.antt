-- What was sent is what was taken and then what the queue holds. One pass at most may put, and it has the list of what
-- was sent; one at most may take, and it has the list of what was taken.
use Rattle.std.specs.Prelude.{◌≡◌, ℕ, Bool, true, List, [], ◌∷◌, ◌++◌, drop, length}
use mathlib.Core.Option.{some}
use lib.ListN.{get_elem?}
use Rattle.command_queue.specs.declared.queue_rule.Log.{Log}

module _ {T : Type 0} where
  -- what is seen of a pass: its rights to put and to take, what was sent by it and what was taken by it
  abbrev pub log : Bool → Bool → List T → List T → Log T
  log puts takes sent taken = record { puts = puts; takes = takes; sent = sent; taken = taken }

  -- a pass that may put is the issuer's and has what was sent; one that may take is the writer's and has what was taken
  abbrev pub Fits : ℕ → ℕ → List T → List T → ℕ → Log T → Type 0
  Fits issuer writer sent taken pass v = (v.puts ≡ true → (pass ≡ issuer) × (v.sent ≡ sent))
      × (v.takes ≡ true → (pass ≡ writer) × (v.taken ≡ taken))

  -- the items of a queue are what was sent and not taken, in order, and each pass fits
  abbrev pub Ordered : List T → List (Log T) → Type 0
  Ordered items views = (issuer : ℕ) × (writer : ℕ) × (sent : List T) × (taken : List T) × (sent ≡ taken ++ items)
      × ((pass : ℕ) (v : Log T) → get_elem? views pass ≡ some v → Fits issuer writer sent taken pass v)

  -- what was sent and not taken, by a pass with both lists
  abbrev pub left_of : Log T → List T
  left_of v = drop (length v.taken) v.sent

  -- the item goes to the end of what was taken, and was the first of what was sent and not taken
  abbrev pub TakesFirst : Log T → T → Log T → Type 0
  TakesFirst v x w = (w ≡ log v.puts v.takes v.sent (v.taken ++ x ∷ []))
      × ((items : List T) × (v.sent ≡ v.taken ++ x ∷ items))
