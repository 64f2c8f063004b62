use Rattle.std.proofs.Common.{◌≡◌, ◌++◌, length, drop, refl, sym, ap, ◌∙◌, arith}
use Rattle.std.proofs.lemmas.List.{drop_at}
use Rattle.snss_frames.specs.Frame.{frame_bytes}
use Rattle.fresh_files.specs.Fresh.{frame_of, fresh}
use Rattle.log_writer.specs.Waiting.{Waiting, waiting_in, place_in}
use Rattle.log_writer.specs.Steps.{extent_before}
use Rattle.log_writer.specs.declared.journal.Extent.{Extent}
use Rattle.log_writer.specs.declared.limits.Limits.{Limits}
use Rattle.log_writer.proofs.RefusalLaws.{room_refused, remains_same}
use Rattle.log_writer.proofs.RoomLaws.{has_room_restated}
use Rattle.log_writer.proofs.WaitingLaws.{waiting_length}
use Rattle.log_writer.proofs.ForeignLaws.{now_left}
use Rattle.log_writer.proofs.journal.Journal.restate.Goals as goal

pub returns-in_err-bytes-clause-room : goal.returns-in_err-bytes-clause-room
returns-in_err-bytes-clause-room g c = λ modelled none first q a r.
    room_refused g.M.Machine.kind _ _ _ _ _ a _ c.args.command.now first q c.from_residual.result c.from_residual.ensures.0 (remains_same g.M.Machine.kind _ _ _ a first q r _ _ _ _ c.requires.works refl refl refl)

pub returns-in_err-bytes-clause-crash : goal.returns-in_err-bytes-clause-crash
returns-in_err-bytes-clause-crash g c = λ modelled none first q a r. now_left g.M.Machine.kind _ _ _ a first q r

pub returns-then-needed-self-clause-room : goal.returns-then-needed-self-clause-room
returns-then-needed-self-clause-room g c = λ modelled none first q a r. remains_same g.M.Machine.kind _ _ _ a first q r _ _ _ _ c.requires.works refl refl refl

pub returns-then-needed-self-clause-crash : goal.returns-then-needed-self-clause-crash
returns-then-needed-self-clause-crash g c = λ modelled none first q a r. now_left g.M.Machine.kind _ _ _ a first q r

pub returns-in_err-replace-clause-room : goal.returns-in_err-replace-clause-room
returns-in_err-replace-clause-room g c = λ modelled none first q a r.
    room_refused g.M.Machine.kind _ _ _ _ _ a _ c.args.command.now first q c.from_residual-in_err-replace.result c.from_residual-in_err-replace.ensures.0 (c.in_err-replace.ensures.follows modelled none first q a r)

pub returns-clause-fits : goal.returns-clause-fits
returns-clause-fits g c =
    let new = c.replace.new.self in
    let command = c.args.command.now in
    let frame = frame_bytes (frame_of g.M.Machine.kind command) in
    let empty = c.in_ok-replace.ensures.empty in
    let whole = c.args.self.now.pending.whole in
    let behind : drop whole ((waiting_in c.args.self.now.pending).bytes ++ frame) ≡ frame =
    drop_at (waiting_in c.args.self.now.pending).bytes frame whole (waiting_length c.args.self.now.pending) in
    let every = ap (λ (l : Limits). l.every) c.replace.ensures.later.limits in
    let most = ap (λ (l : Limits). l.max_file) c.replace.ensures.later.limits in
    let prefix = ap length c.deref.ensures.value in
    record {
      drafted = record {
        bytes = c.in_ok-replace.ensures.drafted ∙ ap (drop whole) c.requires.drafted ∙ behind ∙ ap (λ (w : Waiting _). w.bytes ++ frame) (sym empty);
        place = sym (ap (λ (w : Waiting _). place_in g.M.Machine.kind w command) empty);
        extent = c.behind-extent.ensures ∙ sym (ap (λ (w : Waiting _). extent_before g.M.Machine.kind new.present w command) empty);
        size = c.requires.size;
      };
      few = omega (arith, ap (λ (e : Extent). e.after) c.behind-extent.ensures, c.in_ok-replace.ensures.restated.after, every, c.args.self.now.limits.some);
      short = omega (arith, ap (λ (e : Extent). e.length) c.behind-extent.ensures, c.in_ok-replace.ensures.restated.whole, most, prefix, c.len.ensures, c.in_ok-bytes.bytes.ok, c.if-needed-self.false);
    }

pub returns-clause-room : goal.returns-clause-room
returns-clause-room g c = λ modelled none first q a r.
    let prefix : c.len.result ≡ length (fresh g.M.Machine.kind c.args.self.now.present.state) = omega (arith, c.len.ensures, c.in_ok-bytes.bytes.ok, ap length c.in_ok-bytes.ensures.bytes) in
    let same = ap (λ (s : g.row.M-State.Denot). length (fresh g.M.Machine.kind s)) r.holds.state in
    has_room_restated g.M.Machine.kind _ _ _ _ a first q c.args.command.now (c.in_ok-replace.ensures.follows modelled none first q a r) _
    (omega (arith, c.if-needed-self.false, c.requires.size, prefix, same))
