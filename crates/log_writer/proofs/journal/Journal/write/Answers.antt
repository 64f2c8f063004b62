use Rattle.std.proofs.Common.{◌++◌, ℕ, [], ◌∷◌, length, Result, Ok, refl, sym, ap, ◌∙◌, subst, arith}
use Rattle.std.proofs.lemmas.List.{length-append}
use Rattle.snss_frames.specs.Frame.{frame_bytes}
use Rattle.snss_frames.proofs.FrameLaws.{length-frame}
use Rattle.fresh_files.specs.Fresh.{frame_of}
use Rattle.fresh_files.proofs.CommandLaws.{machine_of}
use Rattle.log_writer.specs.Journals.{JournalAdvances}
use Rattle.log_writer.specs.Answers.{writes}
use Rattle.log_writer.specs.Steps.{Takes}
use Rattle.log_writer.specs.Waiting.{Waiting, waiting_in, taken_at}
use Rattle.log_writer.specs.declared.journal.Extent.{Extent}
use Rattle.log_writer.specs.declared.fault.JournalFault.{JournalFault}
use Rattle.log_writer.proofs.RefusalLaws.{room_remains}
use Rattle.log_writer.proofs.SparedLaws.{stays}
use Rattle.log_writer.proofs.PlaceLaws.{taken_in}
use Rattle.log_writer.proofs.TakenLaws.{advances_taken}
use Rattle.log_writer.proofs.WaitingLaws.{waiting_length}
use Rattle.log_writer.proofs.ForeignLaws.{follows_stands, remains_stands}
use Rattle.log_writer.proofs.journal.Journal.write.Goals as goal

pub accept-requires-clause-drafted : goal.accept-requires-clause-drafted
accept-requires-clause-drafted g c =
    let pending = c.make_room.new.self.pending in
    let kind = g.M.Machine.kind in
    let grown = ap length c.in-Ok.ensures.fits.drafted.bytes in
    omega (
      arith,
      grown,
      length-append (waiting_in pending).bytes (frame_bytes (frame_of kind c.args.command)),
      length-frame (kind.id c.args.command) (kind.payload c.args.command),
      waiting_length pending,
    )

pub returns-in-Ok-take-clause-follows : goal.returns-in-Ok-take-clause-follows
returns-in-Ok-take-clause-follows g c = λ modelled none first q a r.
    let kind = g.M.Machine.kind in
    let new = c.make_room.new.self in
    let w = waiting_in new.pending in
    let drafted = c.in-Ok.ensures.fits.drafted in
    let room = c.in-Ok.ensures.room modelled none first q a r in
    let within = (stays kind _ _ w room.rest first q room.runs c.args.command).within in
    let taken = taken_in kind w (waiting_in c.accept.new.self) c.args.command c.in-Ok.room.place new.pending.whole new.pending.bytes.items drafted.bytes (sym (waiting_length new.pending))
    (omega (arith, within, drafted.place, waiting_length new.pending)) c.accept.ensures.bytes c.accept.ensures.last
    ∙ ap (λ (n : ℕ). taken_at kind n c.args.command w) drafted.place in
    let steps = subst (λ (e : Extent). Takes kind new.present c.take.new.present e c.args.command) drafted.extent c.in-Ok-take.ensures.ok in
    subst (λ (x : Waiting _). JournalAdvances kind (g.D.SessionDisk.history c.args.self.now.disk).now (g.D.SessionDisk.history new.disk).now c.take.new.present x a (writes c.args.self.now c.args.command a) first (q ++ c.args.command ∷ [])) (sym taken)
    (advances_taken kind _ _ new.present w a _ first q c.args.command c.take.new.present (machine_of kind g.M.Machine.lawful) room c.in-Ok.ensures.written steps)

pub returns-in-Ok-take-clause-foreign : goal.returns-in-Ok-take-clause-foreign
returns-in-Ok-take-clause-foreign g c = λ modelled none first q a r.
    let ok : Result (Unit {0}) JournalFault = Ok tt in
    follows_stands g.M.Machine.kind (g.D.SessionDisk.history c.args.self.now.disk) _ c.make_room.new.self.failed c.take.new.present (waiting_in c.accept.new.self) a _ first q (c.args.command ∷ []) ok
    (returns-in-Ok-take-clause-follows g c modelled none first q a r) (c.make_room.ensures.crash modelled none first q a r)

pub returns-in-Err-take-clause-follows : goal.returns-in-Err-take-clause-follows
returns-in-Err-take-clause-follows g c = λ modelled none first q a r.
    room_remains g.M.Machine.kind _ _ _ _ a _ c.args.command first q (c.in-Ok.ensures.room modelled none first q a r) _ _ _ _ c.in-Ok.ensures.answers.1 refl c.in-Err-take.ensures.err refl

pub returns-in-Err-take-clause-foreign : goal.returns-in-Err-take-clause-foreign
returns-in-Err-take-clause-foreign g c = λ modelled none first q a r works.
    remains_stands g.M.Machine.kind (g.D.SessionDisk.history c.args.self.now.disk) _ c.make_room.new.self.failed first q _ _ works
    (returns-in-Err-take-clause-follows g c modelled none first q a r) (c.make_room.ensures.crash modelled none first q a r)

pub returns-in-Err-clause-foreign : goal.returns-in-Err-clause-foreign
returns-in-Err-clause-foreign g c = λ modelled none first q a r works.
    remains_stands g.M.Machine.kind (g.D.SessionDisk.history c.args.self.now.disk) _ c.make_room.new.self.failed first q _ _ works
    (c.in-Err.ensures.room modelled none first q a r) (c.make_room.ensures.crash modelled none first q a r)
