use Rattle.session_drive.proofs.GeneratedLaws.{script_generated}
use Rattle.session_drive.proofs.reading.script_of.Goals as goal

pub returns-in-Ok-generated-clause-comes : goal.returns-in-Ok-generated-clause-comes
returns-in-Ok-generated-clause-comes g c =
    script_generated c.args.origin _ c.in-Generated.x c.in-Generated.count c.in-Ok-generated.text.items c.in-Generated.is c.requires c.in-Ok-generated.ensures
