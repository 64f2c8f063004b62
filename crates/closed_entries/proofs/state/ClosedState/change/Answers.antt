use Rattle.closed_entries.specs.LastItem.{on_last}
use Rattle.closed_entries.specs.Parts.{changed_entry}
use Rattle.closed_entries.specs.States.{State, IsState}
use Rattle.closed_entries.proofs.StateLaws.{either, keeps-change}
use Rattle.closed_entries.proofs.state.ClosedState.change.Goals as goal

pub invariant_of-self : goal.invariant_of-self
invariant_of-self c =
    let s : State = record { entries = c.self.inside.entries; open_entry = c.self.inside.open_entry; awaited = c.self.inside.awaited } in
    let ok = rw c.as_mut_vec.ensures.value at c.newest.ensures.ok in
    let err = rw c.as_mut_vec.ensures.value at c.newest.ensures.err in
    either (λ entries. IsState (record s { entries = entries })) c.newest.result c.newest.new.entries.items (on_last (changed_entry c.args.command.now) s.entries) s.entries ok err
    (keeps-change c.args.command.now s c.requires c.of_change.ensures c.self.invariant) c.self.invariant
