use Rattle.std.proofs.Common.{◌∙◌, refl, rules}
use Rattle.file_rotation.proofs.FoldLaws.{folded_first, folded_more, replayed_all, marked_all}
use Rattle.file_rotation.proofs.recovery.replay.Goals as goal

pub loop-reader-init : goal.loop-reader-init
loop-reader-init g c = record {
  stamp = search rules;
  reading = c.in_ok-reader.ensures.reading;
  unchanged = search rules;
  later = search rules;
  folded = λ modelled. folded_first g.M.Machine.kind _ _ _ (c.requires.headed modelled) c.in_ok-reader.ensures.first.1 c.in_ok-state.ensures;
}

pub loop-reader-preserved : goal.loop-reader-preserved
loop-reader-preserved g c =
    let l = c.loop-reader.invariant in
    let on = c.next.follows.holds-at-none in
    record {
      stamp = on.stamp ∙ l.stamp;
      reading = rw (l.stamp, l.unchanged) at on.reading;
      unchanged = c.next.ensures.unchanged ∙ l.unchanged;
      later = search rules;
      folded = λ modelled. folded_more g.M.Machine.kind _ _ _ _ _ _ _ _ _ _ _ (l.folded modelled) (rw (l.stamp, l.unchanged, c.in-Some.is) at (c.in_ok-frame.ensures.first modelled)) (rw (c.in_ok-frame.was, c.in-Some.is) at on.moved)
          c.in_ok-command.ensures.found c.in_ok-apply.ensures.ok (search rules) c.any_marker-is_marked.ensures;
    }

pub returns-clause-replays : goal.returns-clause-replays
returns-clause-replays g c = λ modelled.
    let l = c.loop-reader.invariant in
    let on = c.next.follows.holds-at-none in
    replayed_all g.M.Machine.kind _ _ _ _ _ _ _ (l.folded modelled) (rw (c.in_ok-frame.was, c.in_default.is) at on.moved).0 ((rw (l.stamp, l.unchanged, c.in_ok-frame.was, c.in_default.is) at (on.ended modelled)) refl) c.ending.ensures

pub returns-clause-marked : goal.returns-clause-marked
returns-clause-marked g c = λ modelled.
    let l = c.loop-reader.invariant in
    marked_all g.M.Machine.kind _ _ _ _ _ (l.folded modelled) (rw (l.stamp, l.unchanged, c.in_default.is) at (c.in_ok-frame.ensures.first modelled))
