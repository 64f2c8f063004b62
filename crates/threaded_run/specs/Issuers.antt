-- The issuer of a run: of which queue and board it is, what it put, and what it saw.
use Rattle.std.specs.Prelude.{◌≡◌, ◌≤◌, List, ◌++◌}
use Rattle.command_queue.specs.declared.board.AckBoard.{AckBoard}
use Rattle.command_queue.specs.declared.board.IssuerSeat.{IssuerSeat}
use Rattle.command_queue.specs.declared.queue.CommandQueue.{CommandQueue}
use Rattle.command_queue.specs.Passes.{IsIssuerOf, sent}
use Rattle.command_queue.specs.Seats.{IsIssuerSeatOf, seen}
use Rattle.script_run.specs.Families.{RunItem}
use Rattle.threaded_run.specs.declared.putting.Issuer.{Issuer}

-- its pass and its seat are of this queue and this board
pub record IsIssuer (queue : CommandQueue RunItem) (board : AckBoard) (issuer : Issuer) : Type 0 where
  pub pass : IsIssuerOf queue issuer.pass
  pub seat : IsIssuerSeatOf board issuer.seat

-- these items went to the end of what was sent, and nothing was seen
pub record Puts (queue : CommandQueue RunItem) (items : List RunItem) (old new : Issuer) : Type 0 where
  pub pass : IsIssuerOf queue new.pass
  pub sends : sent new.pass ≡ sent old.pass ++ items
  pub seat : new.seat ≡ old.seat

-- the seat saw that the writer has ended
pub record HasLooked (seat : IssuerSeat) : Type 0 where
  pub saw : 1 ≤ (seen seat).ended
