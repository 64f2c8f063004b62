-- A sync behind other items.
use Rattle.std.proofs.Common.{◌≡◌, ◌<◌, ◌^◌, List, [], ◌∷◌, ◌++◌, length, map, Ok, append_assoc, sym, ap, ◌∙◌, subst, arith}
use Rattle.std.proofs.lemmas.List.{length-append, map-append}
use Rattle.machine_law.specs.declared.machine.Machine as machine
use Rattle.session_disk.specs.declared.disk.SessionDisk as disk
use Rattle.log_writer.specs.declared.journal.Journal.{Journal}
use Rattle.writer_core.specs.Course.{options}
use Rattle.writer_core.specs.Handling.{Does}
use Rattle.writer_core.specs.InOrder.{AllDone, DoesAll}
use Rattle.writer_core.specs.Jobs.{session_job, tabs_job}
use Rattle.writer_core.specs.Synced.{BothSynced, Synced}
use Rattle.writer_core.specs.Working.{HoldsCommands}
use Rattle.writer_core.specs.declared.handling.Writers.{Writers}
use Rattle.writer_core.specs.declared.item.Item.{Item}
use Rattle.writer_core.specs.declared.item.Item.TheVariants as item
use Rattle.writer_core.specs.declared.item.Job.{Job}
use Rattle.writer_core.specs.declared.item.Job.TheVariants as job

module _ {M D S C : Type 0} {m : machine.Ghosts M S C} {d : disk.Ghosts D} where
  synced_one : (old new : Journal M D S C m d) → Does {T = Unit {0}} job.Sync old new (Ok tt) → Synced (job.Sync ∷ []) old new
  synced_one old new does = record {
    holds = λ modelled b done same few on. does.syncs modelled b done (omega (arith, few, length-append done (job.Sync ∷ []))) on;
    told = does.tells;
  }

  synced_then : {T : Type 0} (x : T) (jobs more : List (Job C)) (old mid new : Journal M D S C m d) → DoesAll jobs old mid (Ok x) → Synced more mid new → Synced (jobs ++ more) old new
  synced_then x jobs more old mid new one two = record {
    holds = λ modelled b done same few on.
        let parts : (done ++ jobs) ++ more ≡ done ++ (jobs ++ more) = append_assoc done jobs more in
        let few_first : length (done ++ jobs) < 2 ^ 61 = omega (arith, few, length-append done (jobs ++ more), length-append jobs more, length-append done jobs) in
        let few_all : length ((done ++ jobs) ++ more) < 2 ^ 61 = subst (λ (all : List (Job C)). length all < 2 ^ 61) (sym parts) few in
        subst (λ (all : List (Job C)). HoldsCommands m.kind b (d.history new.disk) all) parts
        (two.holds modelled b (done ++ jobs) (same ∙ ap options (sym one.later.limits)) few_all (one.works modelled b done same few_first on));
    told = two.told;
  }

module _ {M N D S A T B : Type 0} {m : machine.Ghosts M S A} {n : machine.Ghosts N T B} {d : disk.Ghosts D} where
  pub both_synced_one : (old new : Writers M N D S A T B m n d) → Does {T = Unit {0}} job.Sync old.session new.session (Ok tt) → Does {T = Unit {0}} job.Sync old.tabs new.tabs (Ok tt) → BothSynced (item.Sync ∷ []) old new
  both_synced_one old new session tabs = record {
    session = synced_one old.session new.session session;
    tabs = synced_one old.tabs new.tabs tabs;
  }

  pub both_synced_then : (items more : List (Item A B)) (old mid new : Writers M N D S A T B m n d) → AllDone items old mid → BothSynced more mid new → BothSynced (items ++ more) old new
  both_synced_then items more old mid new one two = record {
    session = subst (λ (jobs : List (Job A)). Synced jobs old.session new.session) (sym (map-append session_job items more))
        (synced_then tt (map session_job items) (map session_job more) old.session mid.session new.session one.session two.session);
    tabs = subst (λ (jobs : List (Job B)). Synced jobs old.tabs new.tabs) (sym (map-append tabs_job items more))
        (synced_then tt (map tabs_job items) (map tabs_job more) old.tabs mid.tabs new.tabs one.tabs two.tabs);
  }
