use Rattle.std.proofs.Common.{◌≡◌, ◌++◌, flat_map}
use Rattle.compactor.specs.session.Compaction.{window_commands}
use Rattle.compactor.proofs.session.compaction.push_windows.Given as goal

-- what was pushed, and the commands of the windows that are left
abbrev pub invariant-loop-window : goal.invariant-loop-window
invariant-loop-window l = l.out.items ++ flat_map window_commands l.window-iterator ≡ l.fn.out.items ++ flat_map window_commands l.windows
