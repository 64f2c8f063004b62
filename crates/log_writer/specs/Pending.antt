-- Where the last frame that waits may begin. This stands apart from what waits, since the buffer's invariant names it.
use Rattle.std.specs.Prelude.{ℕ, ◌<◌, Option, IfSome}
use Rattle.log_writer.specs.declared.pending.LastFrame.{LastFrame}

-- the last frame begins within so many bytes
abbrev pub IsLastWithin : {C : Type 0} → ℕ → Option (LastFrame C) → Type 0
IsLastWithin whole last = IfSome last (λ frame. frame.place < whole)
