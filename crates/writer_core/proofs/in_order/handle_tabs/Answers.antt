use Rattle.std.proofs.Common.{◌∙◌}
use Rattle.writer_core.specs.declared.item.Item.TheVariants as item
use Rattle.writer_core.proofs.InOrderLaws.{commands_left, one_command_more, stops_at_command, no_command_left}
use Rattle.writer_core.proofs.in_order.handle_tabs.Goals as goal

pub loop-command-init : goal.loop-command-init
loop-command-init g c =
    let e = c.into_iter-command-iterator.ensures.into_iter_gives in
    commands_left item.Tabs g.T.Machine.is_command c.args.commands.items c.into_iter-command-iterator.result c.args.writers.now e.0 (e.1 ∙ c.args.commands.ok.0) c.requires.commands c.requires.session_works c.requires.tabs_work

pub loop-command-preserved : goal.loop-command-preserved
loop-command-preserved g c =
    one_command_more item.Tabs g.T.Machine.is_command c.args.commands.items c.loop-command.command-iterator c.next.new.self c.in-Some.command c.args.writers.now c.loop-command.writers c.handle.new.writers c.in-Some.ensures.steps c.loop-command.invariant
    c.handle.result c.handle.ensures.session c.handle.ensures.tabs c.in_ok-handle.field-0 c.in_ok-handle.was

pub returns-in_err-handle : goal.returns-in_err-handle
returns-in_err-handle g c =
    stops_at_command item.Tabs g.T.Machine.is_command c.args.commands.items c.loop-command.command-iterator c.next.new.self c.in-Some.command c.args.writers.now c.loop-command.writers c.handle.new.writers c.in-Some.ensures.steps c.loop-command.invariant
    c.handle.result c.handle.ensures.session c.handle.ensures.tabs c.in_err-handle.field-0.0 c.from_residual.result c.in_err-handle.was c.from_residual.ensures.1

pub returns : goal.returns
returns g c =
    no_command_left item.Tabs g.T.Machine.is_command c.args.commands.items c.loop-command.command-iterator c.args.writers.now c.loop-command.writers c.in-None.ensures.steps.0 c.loop-command.invariant
