use Rattle.std.proofs.Common.{◌∙◌}
use Rattle.session_disk.proofs.Meaning.{has_standing}
use Rattle.session_disk.proofs.memory.file_list.has.Goals as goal

pub returns : goal.returns
returns c = c.is_some.ensures ∙ has_standing c.args.files.now c.args.stamp c.get.result c.get.ensures
