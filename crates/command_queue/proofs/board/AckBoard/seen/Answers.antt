use Rattle.std.proofs.Common.{arith}
use Rattle.command_queue.proofs.BoardLaws.{looks}
use Rattle.command_queue.proofs.board.AckBoard.seen.Goals as goal

pub load-requires : goal.load-requires
load-requires c = let r = c.requires.seat in let three = r.shape.0 in (r.table, omega arith, looks _ _ _ _ r.looks)
