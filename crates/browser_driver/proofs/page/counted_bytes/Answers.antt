use Rattle.std.proofs.Common.{arith}
use Rattle.browser_driver.proofs.PageLaws.{one-more, all-there}
use Rattle.browser_driver.proofs.page.counted_bytes.Goals as goal

pub loop-place-preserved : goal.loop-place-preserved
loop-place-preserved c =
    one-more c.args.len c.loop-place.place c.loop-place.bytes.items c.push.new.self.items c.loop-place-test.true
    c.in_ok-push.ensures.items c.loop-place.invariant

pub returns : goal.returns
returns c =
    all-there c.args.len c.loop-place.place c.loop-place.bytes.items (omega arith) c.loop-place.invariant
