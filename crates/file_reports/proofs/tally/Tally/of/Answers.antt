use Rattle.std.proofs.Common.{rules, refl, arith, ◌∙◌}
use Rattle.file_reports.proofs.WalkLaws.{ahead_more, ahead_none, ending_read, ends_at}
use Rattle.file_reports.proofs.TallyLaws.{MakesUp, makes_more, makes_all, raw_more}
use Rattle.file_reports.proofs.tally.Tally.of.Goals as goal

pub loop-reader-preserved : goal.loop-reader-preserved
loop-reader-preserved g c =
    let l = c.loop-reader.invariant in
    let on = c.next.follows.holds-at-none in
    let moved = rw (c.in_ok-frame.was, c.in-Some.is) at on.moved in
    rw (c.with-tally.ensures, rw c.in-Some.is at c.in_ok-frame.ensures.offset) (record {
      stamp = on.stamp ∙ l.stamp;
      reading = rw (l.stamp, l.unchanged) at on.reading;
      unchanged = c.next.ensures.unchanged ∙ l.unchanged;
      later = search rules;
      ahead = λ modelled. rw moved (ahead_more (MakesUp c.args.family c.loop-reader.tally c.loop-reader.reader.feed.at) (MakesUp c.args.family _ _) _ _ _ _
          (rw (l.stamp, l.unchanged, c.in-Some.is) at (c.in_ok-frame.ensures.first modelled)) refl (makes_more _ _ _ _) (l.ahead modelled));
      few = omega (arith, l.few, moved);
      fewer = raw_more _ _ _ l.fewer;
    })

pub returns-clause-counts : goal.returns-clause-counts
returns-clause-counts g c = λ modelled frames rest reads.
    let l = c.loop-reader.invariant in
    let on = c.next.follows.holds-at-none in
    let none = rw (l.stamp, l.unchanged, c.in_default.is) at (c.in_ok-frame.ensures.first modelled) in
    let ends = (rw (l.stamp, l.unchanged, c.in_ok-frame.was, c.in_default.is) at (on.ended modelled)) refl in
    let ending = ending_read _ _ _ _ (rw (c.in_ok-frame.was, c.in_default.is) at on.moved).0 ends c.ending.ensures in
    let done = ahead_none (MakesUp c.args.family c.loop-reader.tally c.loop-reader.reader.feed.at) _ _ none (l.ahead modelled) frames rest reads in
    (makes_all _ _ _ frames done.0, ends_at _ _ _ rest frames ending done)
