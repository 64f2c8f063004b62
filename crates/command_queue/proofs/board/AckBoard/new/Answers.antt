use Rattle.std.proofs.Common.{rules}
use Rattle.command_queue.proofs.BoardLaws.{splits}
use Rattle.command_queue.proofs.board.AckBoard.new.Goals as goal

pub split_seat-other-requires : goal.split_seat-other-requires
split_seat-other-requires c = (search rules, search rules, splits _ _ (search rules) (search rules))
