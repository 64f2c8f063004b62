use Rattle.std.proofs.Common.{◌≡◌, Some, None, sym}
use Rattle.navigation_entry.specs.Display.{front, pair_at, pairs_at}
use Rattle.navigation_entry.proofs.PairLaws.{pairs_go_on, pairs_stop, pairs_end}
use Rattle.navigation_entry.proofs.fields.pairs_of.Goals as goal

pub returns-in-None : goal.returns-in-None
returns-in-None c =
    let none : front pair_at c.loop.left.now ≡ None = sym (rw c.in-None.is at c.in_ok-pair.ensures) in
    pairs_stop c.loop.pairs.items c.args.count c.loop.counter c.loop.left.now (pairs_at c.args.count c.args.bytes.now) c.loop-test.true none c.loop.invariant

pub loop-preserved : goal.loop-preserved
loop-preserved c =
    let found : front pair_at c.loop.left.now ≡ Some (c.in-Some.pair, c.in-Some.behind.now) = sym (rw c.in-Some.is at c.in_ok-pair.ensures) in
    rw c.in_ok-push-in-Some.ensures.items (pairs_go_on c.loop.pairs.items c.args.count c.loop.counter c.loop.left.now c.in-Some.pair c.in-Some.behind.now (pairs_at c.args.count c.args.bytes.now) c.loop-test.true found c.loop.invariant)

pub returns : goal.returns
returns c = pairs_end c.loop.pairs.items c.args.count c.loop.counter c.loop.left.now (pairs_at c.args.count c.args.bytes.now) c.loop-test.false c.loop.invariant
