use Rattle.std.proofs.Common.{ap, ◌∙◌}
use Rattle.closed_entries.specs.Shown.{shown}
use Rattle.file_rotation.proofs.ChoiceLaws.{recovers_one}
use Rattle.tabs_compactor.specs.TabsKind.{tabs_kind}
use Rattle.tabs_compactor.specs.Laws.TabsLaws.{tabs_lawful}
use Rattle.snss_inspect.proofs.states.recovered_entries.Goals as goal

pub returns-clause-entries : goal.returns-clause-entries
returns-clause-entries g c = λ modelled state recovers.
    c.in_ok-entries.ensures ∙ ap shown (recovers_one tabs_kind _ _ tabs_lawful _ _ state (c.in_ok-recovered.ensures.state modelled) recovers)
