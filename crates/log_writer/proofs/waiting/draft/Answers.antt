use Rattle.std.proofs.Common.{length, ap, arith}
use Rattle.std.proofs.lemmas.List.{length-append}
use Rattle.snss_frames.specs.Frame.{frame_bytes}
use Rattle.fresh_files.specs.Fresh.{frame_of}
use Rattle.snss_frames.proofs.FrameLaws.{length-frame}
use Rattle.log_writer.proofs.waiting.draft.Goals as goal

pub returns-clause-size : goal.returns-clause-size
returns-clause-size g c =
    let grown = ap length c.in_ok-push_frame.ensures.ok in
    let kept = ap length c.truncate.ensures.items in
    let size = length-frame (g.M.Machine.kind.id c.args.command.now) (g.M.Machine.kind.payload c.args.command.now) in
    omega (arith, c.len.ensures, grown, kept, size, length-append c.truncate.new.self.items (frame_bytes (frame_of g.M.Machine.kind c.args.command.now)), c.args.pending.now.within)
