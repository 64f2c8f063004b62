use Rattle.std.proofs.Common.{◌≡◌, ◌++◌, flat_map, take}
use Rattle.tabs_compactor.specs.Compaction.{entry_commands}
use Rattle.tabs_compactor.proofs.compaction.push_whole.Given as goal

abbrev pub invariant-loop-entry : goal.invariant-loop-entry
invariant-loop-entry l = l.out.items ≡ l.fn.out.items ++ flat_map (entry_commands 0) (take l.entry-index l.entries)
