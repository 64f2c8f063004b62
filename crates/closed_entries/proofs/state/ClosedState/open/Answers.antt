use Rattle.closed_entries.specs.States.{State}
use Rattle.closed_entries.proofs.StateLaws.{keeps-opened}
use Rattle.closed_entries.proofs.state.ClosedState.open.Goals as goal

pub invariant_of-self-2 : goal.invariant_of-self-2
invariant_of-self-2 c =
    let s : State = record { entries = c.self.inside.entries; open_entry = c.self.inside.open_entry; awaited = c.self.inside.awaited } in
    rw (c.in_ok-push.ensures.ok, c.as_mut_vec.ensures.value) (keeps-opened c.args.entry c.args.awaited s c.requires.entry c.requires.room c.self.invariant)
