use Rattle.std.proofs.Common.{sym, ◌∙◌}
use Rattle.command_queue.proofs.QueueLaws.{takes_first, totals, next_whole, next_left}
use Rattle.command_queue.proofs.queue.Leftover.next.Goals.{in-Ok, in-Err}
use Rattle.command_queue.proofs.queue.Leftover.next.Goals as goal

pub try_recv_as-requires-clause-rule : goal.try_recv_as-requires-clause-rule
try_recv_as-requires-clause-rule g c =
    (takes_first _ _ c.self.invariant.1 c.self.invariant.2, totals _ _ c.self.invariant.1 c.self.invariant.2)

pub invariant_of-self : goal.invariant_of-self
invariant_of-self g c =
    let i = c.self.invariant in
    let n = next_whole _ _ _ i.1 i.2 i.3 c.try_recv_as.ensures.rule in
    (c.try_recv_as.ensures.channel.0, n.0, n.1, n.2)

pub returns-clause-some : goal.returns-clause-some
returns-clause-some g c = elim c.match-try_recv_as.branch [
  | in-Ok w ↦ rw w.result-is (sym c.self.view_is ∙ (next_left _ _ _ w.in-Ok.ensures.rule).0)
  | in-Err w ↦ rw w.result-is tt
]
