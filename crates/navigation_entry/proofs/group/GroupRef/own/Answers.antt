use Rattle.navigation_entry.proofs.GroupLaws.{own_group_fits}
use Rattle.navigation_entry.proofs.group.GroupRef.own.Goals as goal

pub invariant_of-result : goal.invariant_of-result
invariant_of-result c =
    let r = c.args.self.now in
    let fits = own_group_fits r.title.now r.rest.now c.in_ok-title.title c.in_ok-rest.rest c.in_ok-title.ensures.units c.in_ok-rest.ensures r.even r.whole r.short in
    record { whole = fits.0; short = fits.1 }
