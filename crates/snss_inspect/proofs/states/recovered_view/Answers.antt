use Rattle.std.proofs.Common.{ap, ◌∙◌}
use Rattle.window_state.specs.Views.{view}
use Rattle.file_rotation.proofs.ChoiceLaws.{recovers_one}
use Rattle.compactor.specs.session.SessionKind.{session_kind}
use Rattle.compactor.specs.session.Laws.SessionLaws.{session_lawful}
use Rattle.snss_inspect.proofs.states.recovered_view.Goals as goal

pub returns-clause-view : goal.returns-clause-view
returns-clause-view g c = λ modelled state recovers.
    c.in_ok-view.ensures ∙ ap view (recovers_one session_kind _ _ session_lawful _ _ state (c.in_ok-recovered.ensures.state modelled) recovers)
