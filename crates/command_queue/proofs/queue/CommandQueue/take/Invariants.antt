use Rattle.std.proofs.Common.{◌≡◌, true}
use Rattle.crossbeam_channel.specs.Claims.{view, IsSeatAt}
use Rattle.crossbeam_channel.specs.Ends.{sends_on, receives_on}
use Rattle.command_queue.proofs.queue.CommandQueue.take.Given as goal

abbrev pub invariant-loop : goal.invariant-loop
invariant-loop g l = IsSeatAt (sends_on l.self.sender) l.pass × IsSeatAt (receives_on l.self.receiver) l.pass
    × (view l.pass ≡ view l.fn.pass.pass) × ((view l.pass).takes ≡ true)
