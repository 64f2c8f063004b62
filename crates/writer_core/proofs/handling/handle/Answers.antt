use Rattle.std.proofs.Common.{Ok, Err, subst}
use Rattle.writer_core.specs.Handling.{Does}
use Rattle.writer_core.specs.declared.item.Job.{Job}
use Rattle.writer_core.proofs.handling.handle.Goals as goal

pub returns-in-Err-clause-session : goal.returns-in-Err-clause-session
returns-in-Err-clause-session g c =
    let e = c.in-Err.ensures in
    subst (λ (todo : Job g.row.S-Command.Denot). Does {T = Unit {0}} todo c.args.writers.now.session c.work.new.journal (Err c.in-Err.fault)) c.jobs-session.ensures.session
    (record { later = e.later; answers = e.answers; works = e.works; syncs = e.syncs; keeps_told = e.keeps_told; tells = e.tells; counts = e.counts })

pub returns-in-Ok-clause-session : goal.returns-in-Ok-clause-session
returns-in-Ok-clause-session g c =
    let e = c.in_default.ensures in
    subst (λ (todo : Job g.row.S-Command.Denot). Does {T = Unit {0}} todo c.args.writers.now.session c.work.new.journal (Ok tt)) c.jobs-session.ensures.session
    (record { later = e.later; answers = e.answers; works = e.works; syncs = e.syncs; keeps_told = e.keeps_told; tells = e.tells; counts = e.counts })

pub returns-in-Ok-clause-tabs : goal.returns-in-Ok-clause-tabs
returns-in-Ok-clause-tabs g c =
    let e = c.in-Ok.ensures in
    subst (λ (todo : Job g.row.T-Command.Denot). Does {T = Unit {0}} todo c.args.writers.now.tabs c.work-2.new.journal (Ok tt)) c.jobs-session.ensures.tabs
    (record { later = e.later; answers = e.answers; works = e.works; syncs = e.syncs; keeps_told = e.keeps_told; tells = e.tells; counts = e.counts })

pub returns-in-Err-work-clause-session : goal.returns-in-Err-work-clause-session
returns-in-Err-work-clause-session g c =
    let e = c.in_default.ensures in
    subst (λ (todo : Job g.row.S-Command.Denot). Does {T = Unit {0}} todo c.args.writers.now.session c.work.new.journal (Ok tt)) c.jobs-session.ensures.session
    (record { later = e.later; answers = e.answers; works = e.works; syncs = e.syncs; keeps_told = e.keeps_told; tells = e.tells; counts = e.counts })

pub returns-in-Err-work-clause-tabs : goal.returns-in-Err-work-clause-tabs
returns-in-Err-work-clause-tabs g c =
    let e = c.in-Err-work.ensures in
    subst (λ (todo : Job g.row.T-Command.Denot). Does {T = Unit {0}} todo c.args.writers.now.tabs c.work-2.new.journal (Err c.in-Err-work.fault)) c.jobs-session.ensures.tabs
    (record { later = e.later; answers = e.answers; works = e.works; syncs = e.syncs; keeps_told = e.keeps_told; tells = e.tells; counts = e.counts })
