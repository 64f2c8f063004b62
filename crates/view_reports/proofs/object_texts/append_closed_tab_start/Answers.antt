use Rattle.std.proofs.Common.{rules, ◌≡◌, ◌++◌, codes}
use Rattle.std.specs.Fmt.{signed_decimal}
use Rattle.view_reports.proofs.PieceLaws.{three_pieces}
use Rattle.view_reports.proofs.object_texts.append_closed_tab_start.Goals as goal

pub returns : goal.returns
returns c =
    let id : c.append_id.new.waiting.items ≡ c.args.waiting.now.items ++ (codes "{\"id\":" ++ signed_decimal c.args.id) = search rules in
    three_pieces c.args.waiting.now.items (codes "{\"id\":") (signed_decimal c.args.id) (codes ",\"kind\":\"tab\",\"pages\":") _ _ id c.in_ok-extend_from_slice.ensures.items
