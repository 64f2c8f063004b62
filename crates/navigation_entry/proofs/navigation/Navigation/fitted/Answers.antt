use Rattle.std.proofs.Common.{length}
use Rattle.navigation_entry.proofs.FittingLaws.{fitted_short}
use Rattle.navigation_entry.proofs.navigation.Navigation.fitted.Goals as goal

pub invariant_of-result : goal.invariant_of-result
invariant_of-result c = record {
  whole = c.requires.whole;
  short = fitted_short c.args.url c.args.title c.args.page_state _ _ _ c.kept_blob-url.new.sum c.kept_text-title.new.sum (length c.args.rest) c.requires.few
      c.kept_blob-url.ensures.field c.kept_blob-url.ensures.sum c.kept_text-title.ensures.field c.kept_text-title.ensures.sum c.kept_blob-page_state.ensures.field;
}
