use Rattle.std.proofs.Common.{◌++◌, ◌∷◌, [], ap, sym, subst, ◌∙◌}
use Rattle.std.proofs.lemmas.Result.{on_ok_weaker}
use Rattle.std.specs.List.{AllByRecursion}
use Rattle.closed_entries.specs.LastItem.{HoldsOfLast}
use Rattle.closed_entries.specs.States.{HasRoom, IsEntry}
use Rattle.compaction_runs.proofs.Appended.{all-here}
use Rattle.compaction_runs.proofs.Pieces.{more}
use Rattle.tabs_compactor.specs.Compaction.{entries_commands}
use Rattle.tabs_compactor.proofs.LastEntryLaws.{all-before, commands-last, last-here}
use Rattle.tabs_compactor.proofs.compaction.push_entries.Goals as goal

pub push_whole-requires : goal.push_whole-requires
push_whole-requires c = all-before IsEntry c.in-Some.before.now (c.in-Some.last.now ∷ []) (subst (AllByRecursion IsEntry) c.in-Some.ensures.cases.0 c.requires.each)

pub push_entry-requires-clause-each : goal.push_entry-requires-clause-each
push_entry-requires-clause-each c = all-here IsEntry c.in-Some.before.now [] c.in-Some.last.now (subst (AllByRecursion IsEntry) c.in-Some.ensures.cases.0 c.requires.each)

pub push_entry-requires-clause-room : goal.push_entry-requires-clause-room
push_entry-requires-clause-room c some = last-here (HasRoom c.args.awaited) c.in-Some.before.now c.in-Some.last.now (subst (HoldsOfLast (HasRoom c.args.awaited)) c.in-Some.ensures.cases.0 (c.requires.room some))

pub returns : goal.returns
returns c =
    let old = c.args.out.now.items in
    let joined = ap (entries_commands c.args.awaited) c.in-Some.ensures.cases.0 ∙ commands-last c.args.awaited c.in-Some.before.now c.in-Some.last.now in
    on_ok_weaker c.push_entry.result (λ last. more old _ _ _ _ c.in_ok-push_whole.ensures last ∙ ap (λ l. old ++ l) (sym joined)) c.push_entry.ensures
