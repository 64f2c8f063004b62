use Rattle.std.proofs.Common.{true, false, refl, sym, ◌∙◌}
use Rattle.log_writer.proofs.RefusalLaws.{room_refused, remains_same}
use Rattle.log_writer.proofs.RoomLaws.{makes_room_as}
use Rattle.log_writer.proofs.DueLaws.{due_same, drafted_due, written_due, written_not_due}
use Rattle.log_writer.proofs.WaitingLaws.{runs_as}
use Rattle.log_writer.proofs.ForeignLaws.{now_left}
use Rattle.log_writer.proofs.journal.Journal.make_room.Goals as goal

pub returns-in_err-size-clause-room : goal.returns-in_err-size-clause-room
returns-in_err-size-clause-room g c = λ modelled none first q a r.
    room_refused g.M.Machine.kind _ _ _ _ _ a _ c.args.command.now first q c.from_residual.result c.from_residual.ensures.0
    (remains_same g.M.Machine.kind _ _ _ a first q r _ _ _ _ none refl refl c.draft.ensures.waiting)

pub returns-in_err-size-clause-crash : goal.returns-in_err-size-clause-crash
returns-in_err-size-clause-crash g c = λ modelled none first q a r. now_left g.M.Machine.kind _ _ _ a first q r

pub returns-then-is_due-clause-room : goal.returns-then-is_due-clause-room
returns-then-is_due-clause-room g c = λ modelled none first q a r.
    let limits = c.args.self.now.limits in
    let due = drafted_due g.M.Machine.kind limits c.args.self.now.present c.args.self.now.pending c.draft.new.pending c.args.command.now c.place_for-place.result c.behind-extent.result c.in_ok-size.size c.is_due.result true
    c.draft.ensures.waiting c.draft.ensures.whole c.place_for-place.ensures c.behind-extent.ensures c.in_ok-size.ensures.size c.is_due.ensures c.if-is_due.true in
    let same = due_same g.M.Machine.kind limits _ _ _ a first q r c.args.command.now in
    makes_room_as g.M.Machine.kind _ _ _ _ _ a _ _ first q c.args.command.now c.restate.result (written_due g.M.Machine.kind limits.every limits.max_file a c.args.command.now (sym same ∙ due))
    (c.restate.ensures.room modelled none first q a (runs_as g.M.Machine.kind _ _ _ _ a first q c.draft.ensures.waiting r))

pub returns-then-is_due-clause-crash : goal.returns-then-is_due-clause-crash
returns-then-is_due-clause-crash g c = λ modelled none first q a r.
    c.restate.ensures.crash modelled none first q a (runs_as g.M.Machine.kind _ _ _ _ a first q c.draft.ensures.waiting r)

pub returns-else-is_due-clause-room : goal.returns-else-is_due-clause-room
returns-else-is_due-clause-room g c = λ modelled none first q a r.
    let limits = c.args.self.now.limits in
    let due = drafted_due g.M.Machine.kind limits c.args.self.now.present c.args.self.now.pending c.draft.new.pending c.args.command.now c.place_for-place.result c.behind-extent.result c.in_ok-size.size c.is_due.result false
    c.draft.ensures.waiting c.draft.ensures.whole c.place_for-place.ensures c.behind-extent.ensures c.in_ok-size.ensures.size c.is_due.ensures c.if-is_due.false in
    let same = due_same g.M.Machine.kind limits _ _ _ a first q r c.args.command.now in
    makes_room_as g.M.Machine.kind _ _ _ _ _ a _ _ first q c.args.command.now c.extend.result (written_not_due g.M.Machine.kind limits.every limits.max_file a c.args.command.now (sym same ∙ due))
    (c.extend.ensures.room modelled none first q a (runs_as g.M.Machine.kind _ _ _ _ a first q c.draft.ensures.waiting r))

pub returns-else-is_due-clause-crash : goal.returns-else-is_due-clause-crash
returns-else-is_due-clause-crash g c = λ modelled none first q a r.
    c.extend.ensures.crash modelled none first q a (runs_as g.M.Machine.kind _ _ _ _ a first q c.draft.ensures.waiting r)
