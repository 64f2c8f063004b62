use Rattle.std.proofs.Common.{arith}
use Rattle.navigation_entry.proofs.NavigationLaws.{reads_found, reads_only}
use Rattle.navigation_entry.proofs.reading.read_navigation.Goals as goal

pub returns-clause-found : goal.returns-clause-found
returns-clause-found c = reads_found c.args.payload.now c.parts.result (λ i. omega (arith, c.type_inv.payload i)) c.parts.ensures

pub returns-clause-only : goal.returns-clause-only
returns-clause-only c = reads_only c.args.payload.now c.parts.result c.requires c.parts.ensures
