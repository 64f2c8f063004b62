use Rattle.fresh_files.proofs.RotateLaws.{lay_leaves, clear_leaves}
use Rattle.fresh_files.proofs.rotation.replace.Goals as goal

pub returns-in_err-lay_fresh-clause-crash : goal.returns-in_err-lay_fresh-clause-crash
returns-in_err-lay_fresh-clause-crash g c = λ modelled older.
    lay_leaves _ c.args.stamp _ (c.requires.above modelled) older (c.in_err-lay_fresh.ensures.crash modelled older)

pub returns-in_err-clear_older-clause-crash : goal.returns-in_err-clear_older-clause-crash
returns-in_err-clear_older-clause-crash g c = λ modelled older.
    clear_leaves _ c.args.stamp _ (c.requires.above modelled) older
    (c.in_ok-lay_fresh.ensures.crash modelled older) (c.in_ok-lay_fresh.ensures.ok modelled) (c.clear_older.ensures.crash modelled)

pub returns-clause-crash : goal.returns-clause-crash
returns-clause-crash g c = λ modelled older.
    clear_leaves _ c.args.stamp _ (c.requires.above modelled) older
    (c.in_ok-lay_fresh.ensures.crash modelled older) (c.in_ok-lay_fresh.ensures.ok modelled) (c.clear_older.ensures.crash modelled)
