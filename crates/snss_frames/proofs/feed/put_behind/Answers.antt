use Rattle.std.proofs.Common.{arith}
use Rattle.snss_frames.proofs.FeedLaws.{held_behind}
use Rattle.snss_frames.proofs.feed.put_behind.Goals as goal

pub returns-clause-held : goal.returns-clause-held
returns-clause-held c =
    held_behind _ _ _ _ _ _ _ (omega (arith, c.make_room-start.ensures)) c.make_room-start.ensures.held c.copy_from_slice.ensures.after
