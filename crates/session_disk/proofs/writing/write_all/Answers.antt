use Rattle.session_disk.proofs.WritingLaws.{written_failed}
use Rattle.session_disk.proofs.writing.write_all.Goals as goal

pub returns-in-Err-clause-bytes : goal.returns-in-Err-clause-bytes
returns-in-Err-clause-bytes g c =
    written_failed (g.K.Sink.written c.args.sink.now) (g.K.Sink.written c.loop-rest.sink) _ c.args.bytes.now c.loop-rest.rest.now c.in-Err.failed c.loop-rest.invariant.written c.in-Err.ensures.bytes
