use Rattle.std.proofs.Common.{sym, subst}
use Rattle.machine_law.specs.Kind.{fold}
use Rattle.tabs_compactor.specs.TabsKind.{tabs_kind}
use Rattle.script_run.specs.Closed.{HoldsClosed}
use Rattle.script_run.proofs.ClosedLaws.{few-fold}
use Rattle.script_run.proofs.acting.act.Goals as goal

pub returns-in-Ok-clause-closed : goal.returns-in-Ok-clause-closed
returns-in-Ok-clause-closed c = λ s h.
    let to = c.in-Ok.ensures.closed s h.awaits_none h.entries h.few in
    subst (λ commands. HoldsClosed (fold tabs_kind s commands) c.act.new.self) (sym c.into_vec-in-Ok.ensures) (record {
      awaits_none = to.1;
      entries = to.0;
      few = few-fold s c.in-Ok.field-0.tabs h.few;
    })
