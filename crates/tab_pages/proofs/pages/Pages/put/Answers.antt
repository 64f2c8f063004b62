use Rattle.std.proofs.Common.{pos, arith}
use Rattle.tab_pages.specs.PartLists.{joined}
use Rattle.tab_pages.proofs.PageLaws.{rising-put}
use Rattle.tab_pages.proofs.pages.Pages.put.Goals as goal

pub invariant_of-self : goal.invariant_of-self
invariant_of-self c =
    let rising = rising-put (pos 0) c.args.index c.args.navigation (joined c.self.inside.parts.items) c.requires c.self.invariant in
    grind arith
