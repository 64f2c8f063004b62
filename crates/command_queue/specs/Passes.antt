-- The passes of a queue: which queue one is of, and what was sent or taken by it.
use Rattle.std.specs.Prelude.{◌≡◌, true, List}
use Rattle.crossbeam_channel.specs.Claims.{view, IsSeatAt}
use Rattle.crossbeam_channel.specs.Ends.{sends_on, receives_on}
use Rattle.command_queue.specs.declared.queue.CommandQueue.{CommandQueue}
use Rattle.command_queue.specs.declared.queue.IssuerPass.{IssuerPass}
use Rattle.command_queue.specs.declared.queue.WriterPass.{WriterPass}

module _ {T : Type 0} where
  -- what was sent by this pass, the oldest first
  abbrev pub sent : IssuerPass T → List T
  sent p = (view p.pass).sent

  -- what was taken by this pass, the oldest first
  abbrev pub taken : WriterPass T → List T
  taken p = (view p.pass).taken

  -- a pass of this queue that may put
  pub record IsIssuerOf (q : CommandQueue T) (p : IssuerPass T) : Type 0 where
    pub sends : IsSeatAt (sends_on q.sender) p.pass
    pub receives : IsSeatAt (receives_on q.receiver) p.pass
    pub puts : (view p.pass).puts ≡ true

  -- a pass of this queue that may take
  pub record IsWriterOf (q : CommandQueue T) (p : WriterPass T) : Type 0 where
    pub sends : IsSeatAt (sends_on q.sender) p.pass
    pub receives : IsSeatAt (receives_on q.receiver) p.pass
    pub takes : (view p.pass).takes ≡ true
