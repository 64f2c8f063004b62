use Rattle.view_reports.proofs.ShownTextLaws.{quotable_is_text}
use Rattle.view_reports.proofs.page.text_of.Goals as goal

pub unwrap-requires : goal.unwrap-requires
unwrap-requires c = c.from_utf8.ensures.succeeds (quotable_is_text c.args.shown.items c.requires)
