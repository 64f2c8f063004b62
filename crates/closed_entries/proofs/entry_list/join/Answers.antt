use Rattle.std.proofs.Common.{rules}
use Rattle.std.specs.Vec.{vec_len}
use Rattle.std.proofs.lemmas.Result.{on_ok_weaker}
use Rattle.closed_entries.specs.Changes.{with_more, with_window}
use Rattle.closed_entries.proofs.LastItemLaws.{set-last}
use Rattle.closed_entries.proofs.entry_list.join.Goals as goal

pub returns-in-Some-clause-ok : goal.returns-in-Some-clause-ok
returns-in-Some-clause-ok c =
    let entries = c.args.entries.now in
    on_ok_weaker c.push_tab.result (set-last (with_window (with_more c.args.tab)) entries.items (vec_len entries) c.in-Some.entry.now c.push_tab.new.entry (search rules) (search rules) (search rules)) c.push_tab.ensures.ok
