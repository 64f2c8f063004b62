use Rattle.fresh_files.proofs.CommandLaws.{machine_of}
use Rattle.log_writer.proofs.SyncLaws.{synced_follows, synced_rests, synced_refused}
use Rattle.log_writer.proofs.ForeignLaws.{foreign_stands, remains_stands, synced_left}
use Rattle.log_writer.proofs.journal.Journal.sync.Goals as goal

pub returns-in-Ok-clause-follows : goal.returns-in-Ok-clause-follows
returns-in-Ok-clause-follows g c = λ modelled none first q a r.
    synced_follows g.M.Machine.kind (machine_of g.M.Machine.kind g.M.Machine.lawful) _ _ _ a first q r _ _ (c.in-Ok.ensures.ok modelled) c.in-Ok.ensures.empty

pub returns-in-Ok-clause-at_rest : goal.returns-in-Ok-clause-at_rest
returns-in-Ok-clause-at_rest g c = λ modelled none first q a r.
    synced_rests g.M.Machine.kind (machine_of g.M.Machine.kind g.M.Machine.lawful) _ _ _ a first q r _ (c.in-Ok.ensures.ok modelled)

pub returns-in-Ok-clause-crash : goal.returns-in-Ok-clause-crash
returns-in-Ok-clause-crash g c = λ modelled none first q a r.
    synced_left g.M.Machine.kind _ _ _ a first q r (machine_of g.M.Machine.kind g.M.Machine.lawful) (c.make_safe.ensures.crash modelled)

pub returns-in-Err-clause-follows : goal.returns-in-Err-clause-follows
returns-in-Err-clause-follows g c = λ modelled none first q a r.
    synced_refused g.M.Machine.kind (machine_of g.M.Machine.kind g.M.Machine.lawful) _ _ _ a first q r _ c.in-Err.error _ _ _ _ c.first_of-self.ensures
    (c.in-Err.ensures.untold modelled) (c.in-Err.ensures.memory modelled) (c.make_safe.ensures.crash modelled)

pub returns-in-Err-clause-crash : goal.returns-in-Err-clause-crash
returns-in-Err-clause-crash g c = λ modelled none first q a r.
    synced_left g.M.Machine.kind _ _ _ a first q r (machine_of g.M.Machine.kind g.M.Machine.lawful) (c.make_safe.ensures.crash modelled)

pub returns-in-Ok-clause-foreign : goal.returns-in-Ok-clause-foreign
returns-in-Ok-clause-foreign g c = λ modelled none first q a r.
    let advances = returns-in-Ok-clause-follows g c modelled none first q a r in
    λ works. foreign_stands g.M.Machine.kind (g.D.SessionDisk.history c.args.self.now.disk) _ first q _ _ _ advances.runs.holds (returns-in-Ok-clause-crash g c modelled none first q a r)

pub returns-in-Err-clause-foreign : goal.returns-in-Err-clause-foreign
returns-in-Err-clause-foreign g c = λ modelled none first q a r works.
    remains_stands g.M.Machine.kind (g.D.SessionDisk.history c.args.self.now.disk) _ _ first q _ _ works
    (returns-in-Err-clause-follows g c modelled none first q a r) (returns-in-Err-clause-crash g c modelled none first q a r)
