use Rattle.std.proofs.Common.{◌≡◌, List, [], ◌++◌, sym, ap, subst, ◌∙◌, arith}
use Rattle.std.specs.List.{AllByRecursion}
use Rattle.machine_law.specs.Kind.{fold}
use Rattle.compaction_runs.proofs.CommandLaws.{weaker}
use Rattle.tab_restore_commands.specs.declared.command.TabsCommand.{TabsCommand}
use Rattle.tabs_compactor.specs.Compaction.{entry_commands}
use Rattle.tabs_compactor.specs.TabsKind.{tabs_kind, IsCommand}
use Rattle.tabs_compactor.specs.Laws.EntryRuns.{entry-closed}
use Rattle.tabs_compactor.specs.Laws.Plain.{IsPlain, plain_entry}
use Rattle.tabs_compactor.proofs.entry.entry_commands.Goals as goal

-- the list began without commands
pushed : (out old commands : List TabsCommand) → old ≡ [] → out ≡ old ++ commands → out ≡ commands
pushed out old commands none is = is ∙ ap (λ list. list ++ commands) none

pub returns-clause-sound : goal.returns-clause-sound
returns-clause-sound c =
    let entry = c.args.entry.now in
    let is = pushed _ _ (entry_commands 0 entry) c.in_ok-commands.ensures.items c.in_ok-push_entry.ensures in
    subst (AllByRecursion IsCommand) (sym is)
    (weaker IsPlain IsCommand (λ command plain. record { sound = plain.sound; ranged = plain.ranged }) (entry_commands 0 entry)
    (plain_entry 0 entry (λ some. absurd (omega arith)) c.requires))

pub returns-clause-closes : goal.returns-clause-closes
returns-clause-closes c s waits few =
    let entry = c.args.entry.now in
    let is = pushed _ _ (entry_commands 0 entry) c.in_ok-commands.ensures.items c.in_ok-push_entry.ensures in
    ap (fold tabs_kind s) is ∙ entry-closed s entry waits few c.requires
