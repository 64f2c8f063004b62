use Rattle.std.proofs.Common.{sym, ap, ◌∙◌}
use Rattle.file_reading.specs.declared.head.FileHead.TheVariants.{Known}
use Rattle.file_rotation.proofs.FileLaws.{lawful_one, lawful_three}
use Rattle.file_rotation.proofs.choice.lawful_version.Goals as goal

pub returns-in-Known-One-clause-found : goal.returns-in-Known-One-clause-found
returns-in-Known-One-clause-found g c = λ modelled.
    let head = c.in_ok-read_head.ensures in
    lawful_one _ (rw c.in-Known-One.is at (head.range modelled)) (sym (head.head modelled) ∙ c.in-Known-One.is ∙ ap Known c.in-Known-One.field-0-is)

pub returns-then-branch-clause-found : goal.returns-then-branch-clause-found
returns-then-branch-clause-found g c = λ modelled.
    let head = c.in_ok-read_head.ensures in
    lawful_three _ _ (rw c.in-Known-Three.is at (head.range modelled)) (sym (head.head modelled) ∙ c.in-Known-Three.is ∙ ap Known c.in-Known-Three.field-0-is)
    (rw head.unchanged at (c.in_ok-is_marked-in-Known-Three.ensures.marked modelled)) c.if-branch.true
