use Rattle.navigation_entry.proofs.NavigationLaws.{own_fits}
use Rattle.navigation_entry.proofs.reference.NavigationRef.own.Goals as goal

pub invariant_of-result : goal.invariant_of-result
invariant_of-result c =
    let r = c.args.self.now in
    let fits = own_fits r.url.now r.title.now r.page_state.now r.rest.now c.in_ok-url.url c.in_ok-title.title c.in_ok-page_state.page_state c.in_ok-rest.rest
    c.in_ok-url.ensures c.in_ok-title.ensures.units c.in_ok-page_state.ensures c.in_ok-rest.ensures r.even r.whole r.short in
    record { whole = fits.0; short = fits.1 }
