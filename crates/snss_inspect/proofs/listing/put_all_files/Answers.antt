use Rattle.std.proofs.Common.{[]}
use Rattle.snss_inspect.specs.Verdicts.{images}
use Rattle.snss_inspect.proofs.AnswerLaws.{list_first, list_stopped, list_all}
use Rattle.snss_inspect.proofs.listing.put_all_files.Goals as goal

pub returns-in-Err-clause-report : goal.returns-in-Err-clause-report
returns-in-Err-clause-report g c = λ modelled v is. list_first (images g.D.SessionDisk.history c.args.session.now c.args.tabs.now) v _ _ _ [] is (c.in-Err.ensures.report modelled)

pub returns-in-Ok-put_files-clause-report : goal.returns-in-Ok-put_files-clause-report
returns-in-Ok-put_files-clause-report g c = λ modelled v is.
    list_all (images g.D.SessionDisk.history c.args.session.now c.args.tabs.now) v _ _ _ _ is _ _ (c.in-Ok.ensures.report modelled) (c.in-Ok-put_files.ensures.report modelled)

pub returns-in-Err-put_files-clause-report : goal.returns-in-Err-put_files-clause-report
returns-in-Err-put_files-clause-report g c = λ modelled v is.
    list_stopped (images g.D.SessionDisk.history c.args.session.now c.args.tabs.now) v _ _ _ _ is _ (c.in-Ok.ensures.report modelled) (c.in-Err-put_files.ensures.report modelled)
