use Rattle.std.proofs.Common.{sym, ap, ◌∙◌}
use Rattle.file_reading.specs.declared.head.FileHead.TheVariants.{Known}
use Rattle.file_reports.proofs.FileReadingLaws.{marked_kind}
use Rattle.file_reports.proofs.kind.FileKind.of.Goals as goal

pub returns-in_ok-marked-in-Known-Three-clause-kind : goal.returns-in_ok-marked-in-Known-Three-clause-kind
returns-in_ok-marked-in-Known-Three-clause-kind g c = λ modelled reading is.
    let head = c.in_ok-length.ensures in
    marked_kind _ reading _ (sym (head.head modelled) ∙ c.in-Known-Three.is ∙ ap Known c.in-Known-Three.field-0-is) is (rw head.unchanged at (c.in_ok-marked-in-Known-Three.ensures.marked modelled))
