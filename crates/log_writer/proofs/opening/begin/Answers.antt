use Rattle.std.proofs.Common.{[], ◌∙◌, length, refl, ap, arith}
use Rattle.session_disk.specs.Histories.{History}
use Rattle.log_writer.proofs.OpenLaws.{read_refused, rotation_refused, opening_length, opening_rests, opening_ok}
use Rattle.log_writer.proofs.ForeignLaws.{waits_left, opening_left, foreign_stands}
use Rattle.log_writer.proofs.opening.begin.Goals as goal

pub returns-in_err-state-clause-length : goal.returns-in_err-state-clause-length
returns-in_err-state-clause-length g c = λ modelled s ready. read_refused _ _ c.from_residual.result c.in_err-state.field-0.0 c.from_residual.ensures.0 c.from_residual.ensures.1

pub returns-in_err-state-clause-crash : goal.returns-in_err-state-clause-crash
returns-in_err-state-clause-crash g c = λ modelled s ready. waits_left g.M.Machine.kind g.M.Machine.is_state g.M.Machine.is_command g.M.Machine.lawful (g.D.SessionDisk.history c.args.disk.now).now s ready _ _ refl c.recover.ensures.unchanged

pub returns-in_err-bytes-clause-crash : goal.returns-in_err-bytes-clause-crash
returns-in_err-bytes-clause-crash g c = λ modelled s ready. waits_left g.M.Machine.kind g.M.Machine.is_state g.M.Machine.is_command g.M.Machine.lawful (g.D.SessionDisk.history c.args.disk.now).now s ready _ _ refl c.recover.ensures.unchanged

pub returns-then-needed-limits-clause-crash : goal.returns-then-needed-limits-clause-crash
returns-then-needed-limits-clause-crash g c = λ modelled s ready. waits_left g.M.Machine.kind g.M.Machine.is_state g.M.Machine.is_command g.M.Machine.lawful (g.D.SessionDisk.history c.args.disk.now).now s ready _ _ refl c.recover.ensures.unchanged

pub returns-then-needed-limits-clause-length : goal.returns-then-needed-limits-clause-length
returns-then-needed-limits-clause-length g c = λ modelled s ready.
    let size = opening_length g.M.Machine.kind g.M.Machine.is_state g.M.Machine.is_command g.M.Machine.lawful (g.D.SessionDisk.history c.args.disk.now).now s ready c.in_ok-state.field-0.state (c.in_ok-state.ensures.state modelled) c.known_state.ensures c.in_ok-bytes.ensures.written c.in_ok-bytes.bytes.items c.in_ok-bytes.ensures.bytes in
    (omega (arith, c.len-needed.ensures, c.in_ok-bytes.bytes.ok, size), omega (arith, c.if-needed-limits.true, c.len-needed.ensures, c.in_ok-bytes.bytes.ok, size))

pub returns-in_err-stamp-clause-length : goal.returns-in_err-stamp-clause-length
returns-in_err-stamp-clause-length g c = λ modelled s ready.
    let size = opening_length g.M.Machine.kind g.M.Machine.is_state g.M.Machine.is_command g.M.Machine.lawful (g.D.SessionDisk.history c.args.disk.now).now s ready c.in_ok-state.field-0.state (c.in_ok-state.ensures.state modelled) c.known_state.ensures c.in_ok-bytes.ensures.written c.in_ok-bytes.bytes.items c.in_ok-bytes.ensures.bytes in
    rotation_refused _ _ c.from_residual-in_err-stamp.result c.in_err-stamp.field-0.0 (omega (arith, c.if-needed-limits.false, c.len-needed.ensures, c.in_ok-bytes.bytes.ok, size)) c.from_residual-in_err-stamp.ensures.1

pub returns-clause-length : goal.returns-clause-length
returns-clause-length g c = λ modelled s ready.
    let size = opening_length g.M.Machine.kind g.M.Machine.is_state g.M.Machine.is_command g.M.Machine.lawful (g.D.SessionDisk.history c.args.disk.now).now s ready c.in_ok-state.field-0.state (c.in_ok-state.ensures.state modelled) c.known_state.ensures c.in_ok-bytes.ensures.written c.in_ok-bytes.bytes.items c.in_ok-bytes.ensures.bytes in
    omega (arith, c.if-needed-limits.false, c.len-needed.ensures, c.in_ok-bytes.bytes.ok, size)

pub returns-in_err-stamp-clause-crash : goal.returns-in_err-stamp-clause-crash
returns-in_err-stamp-clause-crash g c = λ modelled s ready.
    opening_left g.M.Machine.kind g.M.Machine.is_state g.M.Machine.is_command g.M.Machine.lawful (g.D.SessionDisk.history c.args.disk.now).now s ready c.in_ok-state.field-0.state (c.in_ok-state.ensures.state modelled) c.known_state.ensures c.in_ok-bytes.ensures.written c.deref.result.now (c.deref.ensures.value ∙ c.in_ok-bytes.ensures.bytes) _ _ _ refl c.recover.ensures.unchanged
    (c.rotate.ensures.crash modelled)

pub returns-clause-crash : goal.returns-clause-crash
returns-clause-crash g c = λ modelled s ready.
    opening_left g.M.Machine.kind g.M.Machine.is_state g.M.Machine.is_command g.M.Machine.lawful (g.D.SessionDisk.history c.args.disk.now).now s ready c.in_ok-state.field-0.state (c.in_ok-state.ensures.state modelled) c.known_state.ensures c.in_ok-bytes.ensures.written c.deref.result.now (c.deref.ensures.value ∙ c.in_ok-bytes.ensures.bytes) _ _ _ refl c.recover.ensures.unchanged
    (c.rotate.ensures.crash modelled)

pub returns-clause-ok : goal.returns-clause-ok
returns-clause-ok g c = λ modelled s ready.
    let size = ap length c.deref.ensures.value in
    let advances = opening_ok g.M.Machine.kind g.M.Machine.is_state g.M.Machine.is_command g.M.Machine.lawful (g.D.SessionDisk.history c.args.disk.now).now s ready c.in_ok-state.field-0.state (c.in_ok-state.ensures.state modelled) c.known_state.ensures c.in_ok-bytes.ensures.written c.deref.result.now (c.deref.ensures.value ∙ c.in_ok-bytes.ensures.bytes) _ _ _ (ap (λ (h : History). h.now) c.recover.ensures.unchanged)
    (c.in_ok-stamp.ensures.ok modelled).above (c.in_ok-stamp.ensures.ok modelled).done _ _ (omega (arith, c.len-needed.ensures, c.in_ok-bytes.bytes.ok, size)) c.if-needed-limits.false in
    record {
      advances = advances;
      rest = opening_rests g.M.Machine.kind g.M.Machine.is_state g.M.Machine.is_command g.M.Machine.lawful (g.D.SessionDisk.history c.args.disk.now).now s ready c.in_ok-state.field-0.state (c.in_ok-state.ensures.state modelled) c.known_state.ensures c.in_ok-bytes.ensures.written c.deref.result.now (c.deref.ensures.value ∙ c.in_ok-bytes.ensures.bytes) _ _ _ (ap (λ (h : History). h.now) c.recover.ensures.unchanged)
          (c.in_ok-stamp.ensures.ok modelled).above (c.in_ok-stamp.ensures.ok modelled).done;
      foreign = foreign_stands g.M.Machine.kind (g.D.SessionDisk.history c.args.disk.now) _ s [] _ _ _ advances.runs.holds (returns-clause-crash g c modelled s ready);
    }
