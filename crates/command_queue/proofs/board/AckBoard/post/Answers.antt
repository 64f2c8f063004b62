use Rattle.std.proofs.Common.{arith}
use Rattle.command_queue.proofs.BoardLaws.{posts}
use Rattle.command_queue.proofs.board.AckBoard.post.Goals as goal

pub fetch_max-requires : goal.fetch_max-requires
fetch_max-requires c = let r = c.requires.seat in let three = r.shape.0 in
    (r.table, omega arith, posts _ _ _ _ _ r.posts)
