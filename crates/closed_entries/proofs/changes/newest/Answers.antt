use Rattle.std.proofs.Common.{rules}
use Rattle.std.specs.Vec.{vec_len}
use Rattle.std.proofs.lemmas.Result.{on_ok_weaker}
use Rattle.closed_entries.specs.Parts.{changed_entry}
use Rattle.closed_entries.proofs.LastItemLaws.{set-last}
use Rattle.closed_entries.proofs.changes.newest.Goals as goal

pub returns-in-Some-clause-ok : goal.returns-in-Some-clause-ok
returns-in-Some-clause-ok c =
    let entries = c.args.entries.now in
    on_ok_weaker c.of_entry.result (set-last (changed_entry c.args.command.now) entries.items (vec_len entries) c.in-Some.entry.now c.of_entry.new.entry (search rules) (search rules) (search rules)) c.of_entry.ensures.ok
