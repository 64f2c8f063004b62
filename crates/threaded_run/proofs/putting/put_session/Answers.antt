use Rattle.compactor.specs.session.SessionKind.{IsCommand}
use Rattle.std.proofs.Common.{◌∙◌}
use Rattle.writer_core.specs.declared.item.Item.TheVariants as item
use Rattle.threaded_run.proofs.PuttingLaws.{all-commands-put, command-put, no-command-put}
use Rattle.threaded_run.proofs.putting.put_session.Goals as goal

pub loop-command-init : goal.loop-command-init
loop-command-init g c =
    let e = c.into_iter-command-iterator.ensures.into_iter_gives in
    no-command-put c.args.queue.now item.Session IsCommand c.args.commands.items c.args.issuer
    c.into_iter-command-iterator.result e.0 (e.1 ∙ c.args.commands.ok.0) c.requires.commands c.requires.pass

pub loop-command-preserved : goal.loop-command-preserved
loop-command-preserved g c =
    command-put c.args.queue.now item.Session IsCommand c.args.commands.items c.args.issuer c.loop-command.command-iterator
    c.next.new.self c.in-Some.command c.loop-command.issuer c.put-issuer.result c.in-Some.ensures.steps c.loop-command.invariant
    c.put-issuer.ensures

pub returns : goal.returns
returns g c =
    all-commands-put c.args.queue.now item.Session IsCommand c.args.commands.items c.args.issuer
    c.loop-command.command-iterator c.loop-command.issuer c.in-None.ensures.steps.0 c.loop-command.invariant
