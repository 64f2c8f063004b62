use Rattle.fresh_files.proofs.LayLaws.{settled, create_leaves, append_leaves, sync_leaves, settle_leaves, laid_whole}
use Rattle.fresh_files.proofs.lay.lay_fresh.Goals as goal

pub returns-in-Err-Failed-clause-crash : goal.returns-in-Err-Failed-clause-crash
returns-in-Err-Failed-clause-crash g c = λ modelled older.
    create_leaves c.args.stamp c.args.bytes.now _ (c.requires.above modelled) older (c.in-Err-Failed.ensures.changes modelled)

pub returns-in_err-append-clause-crash : goal.returns-in_err-append-clause-crash
returns-in_err-append-clause-crash g c = λ modelled older.
    append_leaves c.args.stamp c.args.bytes.now _ (c.requires.above modelled) older
    (c.in-Ok.ensures.changes modelled) (c.in_err-append.ensures.changes modelled)

pub returns-in_err-sync-clause-crash : goal.returns-in_err-sync-clause-crash
returns-in_err-sync-clause-crash g c = λ modelled older.
    sync_leaves c.args.stamp c.args.bytes.now _ (c.requires.above modelled) older
    (c.in-Ok.ensures.changes modelled) (c.in_ok-append.ensures.changes modelled) (c.in_err-sync.ensures.changes modelled)

pub returns-in_err-settle-clause-crash : goal.returns-in_err-settle-clause-crash
returns-in_err-settle-clause-crash g c = λ modelled older.
    settle_leaves c.args.stamp c.args.bytes.now _ (c.requires.above modelled) older
    (c.in-Ok.ensures.changes modelled) (c.in_ok-append.ensures.changes modelled) (c.in_ok-sync.ensures.changes modelled) (c.in_err-settle.ensures.changes modelled)

pub returns-clause-crash : goal.returns-clause-crash
returns-clause-crash g c = λ modelled older.
    settle_leaves c.args.stamp c.args.bytes.now _ (c.requires.above modelled) older
    (c.in-Ok.ensures.changes modelled) (c.in_ok-append.ensures.changes modelled) (c.in_ok-sync.ensures.changes modelled) (c.in_ok-settle.ensures.changes modelled)

pub returns-clause-ok : goal.returns-clause-ok
returns-clause-ok g c = λ modelled.
    settled c.args.stamp c.args.bytes.now _
    (c.in-Ok.ensures.changes modelled) (c.in_ok-append.ensures.changes modelled) (c.in_ok-sync.ensures.changes modelled) (c.in_ok-settle.ensures.changes modelled)

pub returns-clause-whole : goal.returns-clause-whole
returns-clause-whole g c = λ modelled.
    laid_whole c.args.stamp c.args.bytes.now (g.D.SessionDisk.history c.args.disk.now).now _ (returns-clause-ok g c modelled)
