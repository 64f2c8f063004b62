use Rattle.std.proofs.Common.{◌≡◌, ◌++◌, nat_eq}
use Rattle.std.specs.Cmp.Lexicographic.{pointwise}
use Rattle.indexmap.specs.IndexMap.{IsUnique}
use Rattle.window_state.proofs.extra.Extra.copy.Given as goal

abbrev pub invariant-loop-key : goal.invariant-loop-key
invariant-loop-key l = record {
  so_far : l.pairs.entries ++ l.key-iterator ≡ l.self-inside.pairs.entries;
  unique : IsUnique (pointwise nat_eq) l.pairs;
}
