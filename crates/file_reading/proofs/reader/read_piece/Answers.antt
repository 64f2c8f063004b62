use Rattle.std.proofs.Common.{arith}
use Rattle.file_reading.proofs.ReaderLaws.{held_more}
use Rattle.file_reading.proofs.reader.read_piece.Goals as goal

pub returns-clause-held : goal.returns-clause-held
returns-clause-held g c = λ modelled.
    held_more _ _ _ c.args.feed.now _ _ _ _ (c.requires.held modelled) c.feed.ensures.count (omega (arith, c.in_ok-count.ensures.bound, c.read_at.auto.into))
    (rw c.offset-offset.ensures at (c.in_ok-count.ensures.bytes modelled)) c.feed.ensures.held
