use Rattle.std.proofs.Common.{◌∷◌, [], ◌++◌, ◌∙◌, refl, rules}
use Rattle.snss_frames.specs.Frame.{marker}
use Rattle.file_rotation.proofs.WalkLaws.{passed_more, reads_unmarked, contains_here, lacks_more}
use Rattle.file_rotation.proofs.choice.is_marked.Goals as goal

pub loop-reader-preserved : goal.loop-reader-preserved
loop-reader-preserved g c =
    let l = c.loop-reader.invariant in
    let on = c.next.follows.holds-at-none in
    record {
      stamp = on.stamp ∙ l.stamp;
      reading = rw (l.stamp, l.unchanged) at on.reading;
      unchanged = c.next.ensures.unchanged ∙ l.unchanged;
      later = search rules;
      passed = λ modelled.
          let passed = l.passed modelled in (
            passed.0 ++ record { id = c.in-Some.frame.id; payload = c.in-Some.frame.payload.now } ∷ [],
            passed_more _ _ _ _ _ passed.1 (rw (l.stamp, l.unchanged, c.in-Some.is) at (c.in_ok-frame.ensures.first modelled)) (rw (c.in_ok-frame.was, c.in-Some.is) at on.moved),
            lacks_more _ _ marker passed.2 (λ e. let yes' = c.if-is_marker.ensures.1 e in cc),
          );
    }

pub returns-then-is_marker-clause-marked : goal.returns-then-is_marker-clause-marked
returns-then-is_marker-clause-marked g c = λ modelled frames rest reads.
    let l = c.loop-reader.invariant in
    let passed = l.passed modelled in
    let first = rw (l.stamp, l.unchanged, c.in-Some.is) at (c.in_ok-frame.ensures.first modelled) in
    (λ _. rw (c.if-is_marker.ensures.0 refl) at (contains_here _ _ passed.0 _ frames rest passed.1 first reads), λ _. refl)

pub returns-clause-marked : goal.returns-clause-marked
returns-clause-marked g c = λ modelled frames rest reads.
    let l = c.loop-reader.invariant in
    let passed = l.passed modelled in
    let none = rw (l.stamp, l.unchanged, c.in_default.is) at (c.in_ok-frame.ensures.first modelled) in
    (λ h. cc, λ h. absurd (reads_unmarked _ _ passed.0 marker frames rest passed.1 none passed.2 reads h))
