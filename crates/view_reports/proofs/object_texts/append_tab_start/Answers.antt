use Rattle.std.proofs.Common.{rules, ◌≡◌, ◌++◌, codes, decimal}
use Rattle.std.specs.Fmt.{signed_decimal}
use Rattle.view_reports.proofs.PieceLaws.{five_pieces}
use Rattle.view_reports.proofs.object_texts.append_tab_start.Goals as goal

pub returns : goal.returns
returns c =
    let id : c.append_id.new.waiting.items ≡ c.append_number.new.waiting.items ++ (codes ",\"id\":" ++ signed_decimal c.args.id) = search rules in
    five_pieces c.args.waiting.now.items (codes "{\"current\":") (decimal c.args.current) (codes ",\"id\":") (signed_decimal c.args.id) (codes ",\"pages\":") _ _ _ c.in_ok-append_number.ensures id c.in_ok-extend_from_slice.ensures.items
