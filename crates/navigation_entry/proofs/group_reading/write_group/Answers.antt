use Rattle.std.proofs.Common.{◌^◌, ◌<◌, rules}
use Rattle.navigation_entry.proofs.GroupLaws.{put_group_as, group_is}
use Rattle.navigation_entry.proofs.group_reading.write_group.Goals as goal

pub returns : goal.returns
returns c =
    let g = c.args.group.now in
    let high : g.high < 2 ^ 64 = search rules in
    let low : g.low < 2 ^ 64 = search rules in
    let colour : g.colour < 2 ^ 32 = search rules in
    let written = put_group_as g.high g.low g.title g.colour g.rest _ _ _ _ _ _ _ _ c.finish.result.items c.units-title.ensures c.as_slice-rest.ensures
    c.in_ok-writer.ensures c.in_ok-put_uint64.ensures.written c.in_ok-put_uint64-2.ensures.written c.in_ok-put_units.ensures.written c.in_ok-put_uint32.ensures.written c.in_ok-put_rest.ensures.written c.finish.ensures in
    let is = group_is g.high g.low g.title g.colour g.rest c.finish.result.items high low colour (λ i. rw (← c.units-title.ensures) (search rules)) g.whole g.short written in
    record { written = written; again = is.0; short = is.1 }
