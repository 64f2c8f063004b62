use Rattle.std.proofs.Common.{◌≡◌, take}
use Rattle.closed_entries.proofs.closed_window.copy_tabs.Given as goal

abbrev pub invariant-loop-tab : goal.invariant-loop-tab
invariant-loop-tab l = l.copied.items ≡ take l.tab-index l.tabs
