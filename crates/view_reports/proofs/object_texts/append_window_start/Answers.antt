use Rattle.std.proofs.Common.{rules, ◌≡◌, ◌++◌, codes, decimal}
use Rattle.std.specs.Fmt.{signed_decimal}
use Rattle.view_reports.proofs.PieceLaws.{five_pieces}
use Rattle.view_reports.proofs.object_texts.append_window_start.Goals as goal

pub returns : goal.returns
returns c =
    let id : c.append_id.new.waiting.items ≡ c.args.waiting.now.items ++ (codes "{\"id\":" ++ signed_decimal c.args.id) = search rules in
    let selected : c.append_number.new.waiting.items ≡ c.append_id.new.waiting.items ++ (codes ",\"selected\":" ++ decimal c.args.selected) = search rules in
    five_pieces c.args.waiting.now.items (codes "{\"id\":") (signed_decimal c.args.id) (codes ",\"selected\":") (decimal c.args.selected) (codes ",\"tabs\":") _ _ _ id selected c.in_ok-extend_from_slice.ensures.items
