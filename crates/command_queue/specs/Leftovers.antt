-- What is left of a queue that was closed, known by the joined pass.
use Rattle.std.specs.Prelude.{◌≡◌, true, List, ◌++◌}
use Rattle.crossbeam_channel.specs.Claims.{view, IsSeatAt}
use Rattle.crossbeam_channel.specs.Ends.{receives_on}
use Rattle.command_queue.specs.QueueRule.{left_of}
use Rattle.command_queue.specs.declared.queue.Leftover.TheInside.{Inside}

module _ {T : Type 0} where
  -- what was sent and not taken
  abbrev pub rest_of : Inside T → List T
  rest_of l = left_of (view l.pass)

  -- the pass is of this queue and has both rights, and what was taken is a beginning of what was sent
  abbrev pub IsRest : Inside T → Type 0
  IsRest l = IsSeatAt (receives_on l.receiver) l.pass
      × ((view l.pass).puts ≡ true) × ((view l.pass).takes ≡ true)
      × ((view l.pass).sent ≡ (view l.pass).taken ++ rest_of l)
