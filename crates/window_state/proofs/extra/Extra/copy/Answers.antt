use Rattle.std.specs.Map.Iter.{deref_pair}
use Rattle.std.proofs.lemmas.Map.Iter.{rest_more}
use Rattle.window_state.proofs.ExtraLaws.{copied-next}
use Rattle.window_state.proofs.extra.Extra.copy.Goals as goal

pub loop-key-preserved-in_ok-insert : goal.loop-key-preserved-in_ok-insert
loop-key-preserved-in_ok-insert c =
    let left = rest_more deref_pair c.loop-key.key-iterator c.next.new.self c.next.result (c.in-Some.key, c.in-Some.value) c.in-Some.is c.next.ensures.steps in
    record {
      so_far = copied-next c.loop-key.pairs.entries c.loop-key.key-iterator c.next.new.self c.self.inside.pairs.entries c.insert.new.self.entries c.in-Some.key.now c.in-Some.value.now c.in_ok-key.key c.in_ok-value.value c.loop-key.invariant.so_far left c.self.invariant c.in_ok-key.ensures c.in_ok-value.ensures c.in_ok-insert.ensures.entries;
      unique = c.insert.ensures.unique;
    }

pub loop-key-preserved : goal.loop-key-preserved
loop-key-preserved c =
    let left = rest_more deref_pair c.loop-key.key-iterator c.next.new.self c.next.result (c.in-Some.key, c.in-Some.value) c.in-Some.is c.next.ensures.steps in
    record {
      so_far = copied-next c.loop-key.pairs.entries c.loop-key.key-iterator c.next.new.self c.self.inside.pairs.entries c.insert.new.self.entries c.in-Some.key.now c.in-Some.value.now c.in_ok-key.key c.in_ok-value.value c.loop-key.invariant.so_far left c.self.invariant c.in_ok-key.ensures c.in_ok-value.ensures c.in_ok-insert.ensures.entries;
      unique = c.insert.ensures.unique;
    }
