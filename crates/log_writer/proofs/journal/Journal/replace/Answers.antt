use Rattle.std.proofs.Common.{◌≡◌, ◌∙◌, ℕ, Err, refl, sym, ap, subst}
use Rattle.session_disk.specs.Histories.{History}
use Rattle.fresh_files.specs.declared.rotation.RotationFault.{RotationFault}
use Rattle.fresh_files.specs.Rotation.{MakesNothing}
use Rattle.log_writer.proofs.RefusalLaws.{remains_same}
use Rattle.log_writer.proofs.WaitingLaws.{behind_whole}
use Rattle.log_writer.proofs.ReplaceLaws.{replaced_ok, removed_older, replaced_stops}
use Rattle.log_writer.proofs.ForeignLaws.{replaced_left}
use Rattle.log_writer.proofs.journal.Journal.replace.Goals as goal

made_none : (modelled : Type 0) (why known : RotationFault) → why ≡ known → MakesNothing {T = ℕ} modelled (Err known) → MakesNothing {T = ℕ} modelled (Err why)
made_none modelled why known e h = subst (λ (f : RotationFault). MakesNothing {T = ℕ} modelled (Err f)) (sym e) h

pub returns-in-Ok-clause-follows : goal.returns-in-Ok-clause-follows
returns-in-Ok-clause-follows g c = λ modelled none first q a r.
    replaced_ok g.M.Machine.kind g.M.Machine.is_state g.M.Machine.is_command g.M.Machine.lawful _ _ _ a first q r c.known_state.ensures c.requires.written c.args.bytes.now c.requires.bytes _ _ _ _
    (c.in-Ok.ensures.ok modelled).above (c.in-Ok.ensures.ok modelled).done (record { state = refl; count = refl; told = refl; after = refl; whole = refl }) refl (c.leave.ensures.waiting ∙ behind_whole c.args.self.now.pending)

pub returns-in-Ok-clause-crash : goal.returns-in-Ok-clause-crash
returns-in-Ok-clause-crash g c = λ modelled none first q a r.
    replaced_left g.M.Machine.kind _ _ _ a first q r g.M.Machine.lawful c.known_state.ensures c.requires.written c.args.bytes.now c.requires.bytes
    (c.rotate.ensures.crash modelled (removed_older g.M.Machine.kind g.M.Machine.is_state g.M.Machine.is_command g.M.Machine.lawful _ _ _ a first q r c.known_state.ensures c.requires.written c.args.bytes.now c.requires.bytes))

pub returns-in-Err-LastStamp-clause-crash : goal.returns-in-Err-LastStamp-clause-crash
returns-in-Err-LastStamp-clause-crash g c = λ modelled none first q a r.
    replaced_left g.M.Machine.kind _ _ _ a first q r g.M.Machine.lawful c.known_state.ensures c.requires.written c.args.bytes.now c.requires.bytes
    (c.rotate.ensures.crash modelled (removed_older g.M.Machine.kind g.M.Machine.is_state g.M.Machine.is_command g.M.Machine.lawful _ _ _ a first q r c.known_state.ensures c.requires.written c.args.bytes.now c.requires.bytes))

pub returns-in-Err-MemoryBefore-clause-crash : goal.returns-in-Err-MemoryBefore-clause-crash
returns-in-Err-MemoryBefore-clause-crash g c = λ modelled none first q a r.
    replaced_left g.M.Machine.kind _ _ _ a first q r g.M.Machine.lawful c.known_state.ensures c.requires.written c.args.bytes.now c.requires.bytes
    (c.rotate.ensures.crash modelled (removed_older g.M.Machine.kind g.M.Machine.is_state g.M.Machine.is_command g.M.Machine.lawful _ _ _ a first q r c.known_state.ensures c.requires.written c.args.bytes.now c.requires.bytes))

pub returns-in-Err-MemoryAfter-clause-crash : goal.returns-in-Err-MemoryAfter-clause-crash
returns-in-Err-MemoryAfter-clause-crash g c = λ modelled none first q a r.
    replaced_left g.M.Machine.kind _ _ _ a first q r g.M.Machine.lawful c.known_state.ensures c.requires.written c.args.bytes.now c.requires.bytes
    (c.rotate.ensures.crash modelled (removed_older g.M.Machine.kind g.M.Machine.is_state g.M.Machine.is_command g.M.Machine.lawful _ _ _ a first q r c.known_state.ensures c.requires.written c.args.bytes.now c.requires.bytes))

pub returns-in-Err-Disk-clause-crash : goal.returns-in-Err-Disk-clause-crash
returns-in-Err-Disk-clause-crash g c = λ modelled none first q a r.
    replaced_left g.M.Machine.kind _ _ _ a first q r g.M.Machine.lawful c.known_state.ensures c.requires.written c.args.bytes.now c.requires.bytes
    (c.rotate.ensures.crash modelled (removed_older g.M.Machine.kind g.M.Machine.is_state g.M.Machine.is_command g.M.Machine.lawful _ _ _ a first q r c.known_state.ensures c.requires.written c.args.bytes.now c.requires.bytes))

pub returns-in-Err-LastStamp-clause-follows : goal.returns-in-Err-LastStamp-clause-follows
returns-in-Err-LastStamp-clause-follows g c = λ modelled none first q a r.
    remains_same g.M.Machine.kind _ _ _ a first q r _ _ _ _ c.requires.works
    (ap (λ (h : History). h.now) (c.in-Err-LastStamp.ensures.unchanged (made_none g.D.SessionDisk.modelled c.in-Err-LastStamp.field-0 _ c.in-Err-LastStamp.field-0-is tt))) refl refl

pub returns-in-Err-MemoryBefore-clause-follows : goal.returns-in-Err-MemoryBefore-clause-follows
returns-in-Err-MemoryBefore-clause-follows g c = λ modelled none first q a r.
    remains_same g.M.Machine.kind _ _ _ a first q r _ _ _ _ c.requires.works
    (ap (λ (h : History). h.now) (c.in-Err-MemoryBefore.ensures.unchanged (made_none g.D.SessionDisk.modelled c.in-Err-MemoryBefore.field-0 _ c.in-Err-MemoryBefore.field-0-is modelled))) refl refl

pub returns-in-Err-MemoryAfter-clause-follows : goal.returns-in-Err-MemoryAfter-clause-follows
returns-in-Err-MemoryAfter-clause-follows g c = λ modelled none first q a r.
    replaced_stops g.M.Machine.kind g.M.Machine.is_state g.M.Machine.is_command g.M.Machine.lawful _ _ _ a first q r c.known_state.ensures c.requires.written c.args.bytes.now c.requires.bytes _ _ refl (c.rotate.ensures.told modelled)
    (c.rotate.ensures.crash modelled (removed_older g.M.Machine.kind g.M.Machine.is_state g.M.Machine.is_command g.M.Machine.lawful _ _ _ a first q r c.known_state.ensures c.requires.written c.args.bytes.now c.requires.bytes))

pub returns-in-Err-Disk-clause-follows : goal.returns-in-Err-Disk-clause-follows
returns-in-Err-Disk-clause-follows g c = λ modelled none first q a r.
    replaced_stops g.M.Machine.kind g.M.Machine.is_state g.M.Machine.is_command g.M.Machine.lawful _ _ _ a first q r c.known_state.ensures c.requires.written c.args.bytes.now c.requires.bytes _ _ refl (c.rotate.ensures.told modelled)
    (c.rotate.ensures.crash modelled (removed_older g.M.Machine.kind g.M.Machine.is_state g.M.Machine.is_command g.M.Machine.lawful _ _ _ a first q r c.known_state.ensures c.requires.written c.args.bytes.now c.requires.bytes))
