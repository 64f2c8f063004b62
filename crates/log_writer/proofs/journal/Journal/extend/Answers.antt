use Rattle.std.proofs.Common.{ℕ, take, refl, ap, ◌∙◌, arith}
use Rattle.session_disk.specs.Moments.{after_append}
use Rattle.log_writer.specs.Waiting.{waiting_in, behind}
use Rattle.log_writer.specs.declared.journal.Extent.{Extent}
use Rattle.log_writer.proofs.RefusalLaws.{remains_same, append_refused}
use Rattle.log_writer.proofs.RoomLaws.{has_room_for, has_room_appended}
use Rattle.log_writer.proofs.ForeignLaws.{now_left, appended_left}
use Rattle.log_writer.proofs.journal.Journal.extend.Goals as goal

pub returns-then-needed-self-clause-room : goal.returns-then-needed-self-clause-room
returns-then-needed-self-clause-room g c = λ modelled none first q a r. remains_same g.M.Machine.kind _ _ _ a first q r _ _ _ _ c.requires.works refl refl refl

pub returns-then-needed-self-clause-crash : goal.returns-then-needed-self-clause-crash
returns-then-needed-self-clause-crash g c = λ modelled none first q a r. now_left g.M.Machine.kind _ _ _ a first q r

pub returns-then-room-le-PENDING_ROOM-clause-room : goal.returns-then-room-le-PENDING_ROOM-clause-room
returns-then-room-le-PENDING_ROOM-clause-room g c = λ modelled none first q a r.
    has_room_for g.M.Machine.kind _ _ _ a first q r c.args.command.now _
    (omega (arith, c.if-needed-self.false, ap (λ (e : Extent). e.length) c.requires.drafted.extent, c.requires.drafted.size))
    (omega (arith, c.if-room-le-PENDING_ROOM.true, c.requires.drafted.place, c.requires.drafted.size))

pub returns-then-room-le-PENDING_ROOM-clause-crash : goal.returns-then-room-le-PENDING_ROOM-clause-crash
returns-then-room-le-PENDING_ROOM-clause-crash g c = λ modelled none first q a r. now_left g.M.Machine.kind _ _ _ a first q r

pub returns-in-Err-clause-room : goal.returns-in-Err-clause-room
returns-in-Err-clause-room g c = λ modelled none first q a r.
    append_refused g.M.Machine.kind _ _ _ a first q r c.args.room.place _ c.in-Err.error _ (g.D.SessionDisk.history c.args.self.now.disk) _ _ c.first_of-self.ensures refl (c.append.ensures.told modelled)
    (ap waiting_in c.in-Err.ensures.err) (c.in-Err.ensures.memory modelled) (c.append.ensures.crash modelled)

pub returns-in-Err-clause-crash : goal.returns-in-Err-clause-crash
returns-in-Err-clause-crash g c = λ modelled none first q a r. appended_left g.M.Machine.kind _ _ _ a first q r c.args.room.place (c.append.ensures.crash modelled)

pub returns-clause-room : goal.returns-clause-room
returns-clause-room g c = λ modelled none first q a r.
    let now = (g.D.SessionDisk.history c.args.self.now.disk).now in
    let w = waiting_in c.args.self.now.pending in
    has_room_appended g.M.Machine.kind _ _ _ a first q r c.args.command.now _
    (omega (arith, c.if-needed-self.false, ap (λ (e : Extent). e.length) c.requires.drafted.extent, c.requires.drafted.size))
    (omega (arith, c.if-room-le-PENDING_ROOM.false, c.requires.drafted.place, c.requires.drafted.size)) _ _
    (c.in_default.ensures.ok modelled ∙ ap (λ (n : ℕ). after_append c.args.self.now.present.stamp (take n w.bytes) now) c.requires.drafted.place)
    (c.in_default.ensures.left ∙ ap (λ (n : ℕ). behind n w) c.requires.drafted.place)

pub returns-clause-crash : goal.returns-clause-crash
returns-clause-crash g c = λ modelled none first q a r. appended_left g.M.Machine.kind _ _ _ a first q r c.args.room.place (c.append.ensures.crash modelled)
