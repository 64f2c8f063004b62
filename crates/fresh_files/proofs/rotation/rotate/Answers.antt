use Rattle.fresh_files.proofs.RotateLaws.{rotation_leaves}
use Rattle.fresh_files.proofs.rotation.rotate.Goals as goal

pub returns-in_err-replace-clause-crash : goal.returns-in_err-replace-clause-crash
returns-in_err-replace-clause-crash g c = λ modelled older.
    rotation_leaves _ _ _ c.in_ok-stamp.stamp c.args.bytes.now c.in_ok-stamp.ensures.unchanged (c.in_ok-stamp.ensures.fresh modelled) older (c.replace.ensures.crash modelled)

pub returns-clause-crash : goal.returns-clause-crash
returns-clause-crash g c = λ modelled older.
    rotation_leaves _ _ _ c.in_ok-stamp.stamp c.args.bytes.now c.in_ok-stamp.ensures.unchanged (c.in_ok-stamp.ensures.fresh modelled) older (c.replace.ensures.crash modelled)
