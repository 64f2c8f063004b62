-- The row that is told is the one of the command that is made.
use Rattle.std.proofs.Common.{◌≡◌}
use Rattle.payload_rows.specs.Contents.{Laid, layout_of, content}
use Rattle.session_commands.proofs.TableLaws.{tells_shape, same_row}
use Rattle.session_commands.proofs.command.SessionCommand.copy.Goals as goal

pub from_fields-requires : goal.from_fields-requires
from_fields-requires c =
    let laid : content c.row-id.result.1 ≡ Laid (layout_of c.in-Some.fields) = rw c.in-Some.is at c.in_ok-fields.ensures in
    tells_shape c.args.self.now c.row-id.result.0 (content c.row-id.result.1) (layout_of c.in-Some.fields) c.row-id.ensures laid

pub returns : goal.returns
returns c =
    let laid : content c.row-id.result.1 ≡ Laid (layout_of c.in-Some.fields) = rw c.in-Some.is at c.in_ok-fields.ensures in
    same_row c.args.self.now c.from_fields.result c.row-id.result.0 (content c.row-id.result.1) (layout_of c.in-Some.fields) c.row-id.ensures laid c.from_fields.ensures
