use Rattle.std.proofs.Common.{rules, ◌≡◌, ◌-◌, take, drop, ap, ◌∙◌}
use Rattle.log_writer.specs.Waiting.{last_behind}
use Rattle.log_writer.proofs.WaitingLaws.{behind_left}
use Rattle.log_writer.proofs.pending.Pending.leave.Goals as goal

pub returns-clause-waiting : goal.returns-clause-waiting
returns-clause-waiting g c =
    let rest : c.drop-drain.new.self.0.items ≡ drop c.args.place c.args.self.now.bytes.items = search rules in
    behind_left c.args.self.now c.args.place _ c.requires (ap (take (c.args.self.now.whole - c.args.place)) rest) (c.last_behind.ensures ∙ ap (last_behind c.args.place) c.take.ensures.value)
