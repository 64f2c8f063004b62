use Rattle.std.proofs.Common.{ap}
use Rattle.window_state.specs.declared.view_parts.View.{View}
use Rattle.script_run.proofs.CountLaws.{few_tabs}
use Rattle.script_run.proofs.starting.begin.Goals as goal

pub shown_counts-counts-requires : goal.shown_counts-counts-requires
shown_counts-counts-requires g c =
    few_tabs c.state-session.result.now c.in-Ok.view.windows c.known.ensures (ap (λ (v : View). v.windows)
    c.in-Ok.ensures)
