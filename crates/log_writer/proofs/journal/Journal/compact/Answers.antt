use Rattle.std.proofs.Common.{length, refl, sym, ap, arith}
use Rattle.fresh_files.specs.Fresh.{fresh}
use Rattle.log_writer.proofs.RefusalLaws.{within_limit, follows_refused, remains_same}
use Rattle.log_writer.proofs.RefusalLaws.{follows_as}
use Rattle.log_writer.proofs.ForeignLaws.{follows_stands, now_left}
use Rattle.log_writer.proofs.journal.Journal.compact.Goals as goal

pub returns-in_err-bytes-clause-follows : goal.returns-in_err-bytes-clause-follows
returns-in_err-bytes-clause-follows g c = λ modelled none first q a r.
    follows_refused g.M.Machine.kind _ _ _ _ _ a _ first q _ c.from_residual.result c.from_residual.ensures.0 (remains_same g.M.Machine.kind _ _ _ a first q r _ _ _ _ none refl refl refl)

pub returns-in_err-bytes-clause-crash : goal.returns-in_err-bytes-clause-crash
returns-in_err-bytes-clause-crash g c = λ modelled none first q a r. now_left g.M.Machine.kind _ _ _ a first q r

pub returns-then-needed-self-clause-follows : goal.returns-then-needed-self-clause-follows
returns-then-needed-self-clause-follows g c = λ modelled none first q a r. remains_same g.M.Machine.kind _ _ _ a first q r _ _ _ _ none refl refl refl

pub returns-then-needed-self-clause-crash : goal.returns-then-needed-self-clause-crash
returns-then-needed-self-clause-crash g c = λ modelled none first q a r. now_left g.M.Machine.kind _ _ _ a first q r

pub returns-clause-follows : goal.returns-clause-follows
returns-clause-follows g c = λ modelled none first q a r.
    let same = ap (λ (s : g.row.M-State.Denot). length (fresh g.M.Machine.kind s)) r.holds.state in
    let size = ap length c.in_ok-bytes.ensures.bytes in
    follows_as g.M.Machine.kind _ _ _ _ _ a _ _ first q _ c.replace.result
    (sym (within_limit g.M.Machine.kind _ _ _ (omega (arith, c.if-needed-self.false, c.len-needed.ensures, c.in_ok-bytes.bytes.ok, size, same))))
    (c.replace.ensures.follows modelled none first q a r)

pub returns-clause-crash : goal.returns-clause-crash
returns-clause-crash g c = λ modelled none first q a r. c.replace.ensures.crash modelled none first q a r

pub returns-clause-foreign : goal.returns-clause-foreign
returns-clause-foreign g c = λ modelled none first q a r.
    follows_stands g.M.Machine.kind (g.D.SessionDisk.history c.args.self.now.disk) _ _ _ _ a _ first q _ c.replace.result
    (returns-clause-follows g c modelled none first q a r) (returns-clause-crash g c modelled none first q a r)
