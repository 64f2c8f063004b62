-- The items that a line's work puts, and that the end is not among them.
use Rattle.std.proofs.Common.{◌≡◌, Bool, true, false, true≢false, List, [], ◌∷◌, ◌++◌, map, refl, ap, ◌∙◌}
use Rattle.session_commands.specs.declared.command.SessionCommand.{SessionCommand}
use Rattle.tab_restore_commands.specs.declared.command.TabsCommand.{TabsCommand}
use Rattle.writer_core.specs.Ends.{has_end}
use Rattle.writer_core.specs.declared.item.Item.TheVariants as item
use Rattle.script_run.specs.Acting.{compaction_steps, work_steps}
use Rattle.script_run.specs.Families.{RunItem}
use Rattle.script_run.specs.Steps.{items_of}
use Rattle.script_run.specs.declared.asking.Work.{Work}
use Rattle.script_run.proofs.AskedLaws.{steps_of_session, steps_of_tabs}
use Rattle.script_run.proofs.StepLaws.{items-append, items-handled}
use Rattle.threaded_run.specs.Issuing.{compaction_items, work_items}

items-compaction : (compacts : Bool) → items_of (compaction_steps compacts) ≡ compaction_items compacts
items-compaction true = refl
items-compaction false = refl

-- what the work of a line puts is what its steps handle
pub items-work : (work : Work) → items_of (work_steps work) ≡ work_items work
items-work work =
    let session = steps_of_session work.session.items in
    let tabs = steps_of_tabs work.tabs.items in
    let compaction = compaction_steps work.compacts in
    let later : items_of (tabs ++ compaction) ≡ map item.Tabs work.tabs.items ++ compaction_items work.compacts =
    items-append tabs compaction
    ∙ ap (λ items. items ++ items_of compaction) (items-handled item.Tabs work.tabs.items)
    ∙ ap (λ items. map item.Tabs work.tabs.items ++ items) (items-compaction work.compacts) in
    items-append session (tabs ++ compaction)
    ∙ ap (λ items. items ++ items_of (tabs ++ compaction)) (items-handled item.Session work.session.items)
    ∙ ap (λ items. map item.Session work.session.items ++ items) later

pub no-end-then : (items more : List RunItem) → has_end items ≡ false → has_end more ≡ false
    → has_end (items ++ more) ≡ false
no-end-then [] more none later = later
no-end-then (item.Session c ∷ items) more none later = no-end-then items more none later
no-end-then (item.Tabs c ∷ items) more none later = no-end-then items more none later
no-end-then (item.Sync ∷ items) more none later = no-end-then items more none later
no-end-then (item.Compact ∷ items) more none later = no-end-then items more none later
no-end-then (item.End ∷ items) more none later = absurd (true≢false none)

no-end-session : (commands : List SessionCommand)
    → has_end {A = SessionCommand} {B = TabsCommand} (map item.Session commands) ≡ false
no-end-session [] = refl
no-end-session (c ∷ commands) = no-end-session commands

no-end-tabs : (commands : List TabsCommand)
    → has_end {A = SessionCommand} {B = TabsCommand} (map item.Tabs commands) ≡ false
no-end-tabs [] = refl
no-end-tabs (c ∷ commands) = no-end-tabs commands

no-end-compaction : (compacts : Bool) → has_end (compaction_items compacts) ≡ false
no-end-compaction true = refl
no-end-compaction false = refl

pub no-end-work : (work : Work) → has_end (work_items work) ≡ false
no-end-work work =
    no-end-then (map item.Session work.session.items)
    (map item.Tabs work.tabs.items ++ compaction_items work.compacts) (no-end-session work.session.items)
    (no-end-then (map item.Tabs work.tabs.items) (compaction_items work.compacts) (no-end-tabs work.tabs.items)
    (no-end-compaction work.compacts))
