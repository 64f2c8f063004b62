use Rattle.std.proofs.Common.{rules, refl, arith, ◌+◌, length}
use Rattle.snss_frames.proofs.FeedLaws.{feed_past}
use Rattle.snss_frames.proofs.feed.FrameFeed.next.Goals as goal

pub returns : goal.returns
returns c =
    let f = c.self.inside in
    let n = 3 + length c.in_ok-frame.frame.payload.now in
    let left = feed_past f.start f.held f.at n f.buffer.items _ c.self.view_is (omega (arith, c.in_ok-frame.ensures.within, c.self.invariant)) in
    ((refl, (λ _. tt), left), search rules)
