use Rattle.std.proofs.Common.{rules}
use Rattle.std.specs.Vec.{vec_len}
use Rattle.std.proofs.lemmas.Result.{on_ok_weaker}
use Rattle.closed_entries.specs.Parts.{changed_tab}
use Rattle.closed_entries.proofs.LastItemLaws.{set-last}
use Rattle.closed_entries.proofs.changes.of_last_tab.Goals as goal

pub returns-in-Some-clause-ok : goal.returns-in-Some-clause-ok
returns-in-Some-clause-ok c =
    let tabs = c.args.tabs.now in
    on_ok_weaker c.of_tab.result (set-last (changed_tab c.args.command.now) tabs.items (vec_len tabs) c.in-Some.tab.now c.of_tab.new.tab (search rules) (search rules) (search rules)) c.of_tab.ensures.ok
