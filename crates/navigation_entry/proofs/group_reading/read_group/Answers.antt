use Rattle.std.proofs.Common.{arith}
use Rattle.navigation_entry.proofs.GroupLaws.{group_found, group_only}
use Rattle.navigation_entry.proofs.group_reading.read_group.Goals as goal

pub returns-clause-found : goal.returns-clause-found
returns-clause-found c = group_found c.args.payload.now c.group_parts.result (λ i. omega (arith, c.type_inv.payload i)) c.group_parts.ensures

pub returns-clause-only : goal.returns-clause-only
returns-clause-only c = group_only c.args.payload.now c.group_parts.result c.requires c.group_parts.ensures
