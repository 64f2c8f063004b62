use Rattle.std.proofs.Common.{◌<◌, arith}
use Rattle.std.proofs.lemmas.Bool.Decides.{nat_tests}
use Rattle.closed_entries.specs.States.{State}
use Rattle.closed_entries.proofs.StateLaws.{keeps-joined}
use Rattle.closed_entries.proofs.state.ClosedState.select.Goals as goal

pub invariant_of-self-2 : goal.invariant_of-self-2
invariant_of-self-2 c =
    let s : State = record { entries = c.self.inside.entries; open_entry = c.self.inside.open_entry; awaited = c.self.inside.awaited } in
    let some : 0 < s.awaited = grind (arith, nat_tests) in
    rw (c.in_ok-join.ensures.ok, c.as_mut_vec.ensures.value) (keeps-joined c.args.tab s c.requires some c.self.invariant)
