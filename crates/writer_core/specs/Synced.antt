-- What stands behind a list of items of which the last is a sync, when all were done.
use Rattle.std.specs.Prelude.{◌≡◌, ◌<◌, ◌^◌, List, ◌++◌, length, map}
use Rattle.machine_law.specs.declared.machine.Machine as machine
use Rattle.session_disk.specs.declared.disk.SessionDisk as disk
use Rattle.log_writer.specs.declared.journal.Journal.{Journal}
use Rattle.writer_core.specs.Course.{options}
use Rattle.writer_core.specs.Jobs.{session_job, tabs_job}
use Rattle.writer_core.specs.Working.{Beginning, GoesOn, HoldsCommands}
use Rattle.writer_core.specs.declared.handling.Writers.{Writers}
use Rattle.writer_core.specs.declared.item.Item.{Item}
use Rattle.writer_core.specs.declared.item.Job.{Job}

module _ {M D S C : Type 0} {m : machine.Ghosts M S C} {d : disk.Ghosts D} where
  -- On a modelled disk, wherever the run began, whatever was done before, and in all no more than any run has: the disk
  -- holds the commands.
  abbrev pub HoldsAll : List (Job C) → Journal M D S C m d → Journal M D S C m d → Type 0
  HoldsAll jobs old new = d.modelled → (b : Beginning S) (done : List (Job C)) → b.options ≡ options old.limits →
      length (done ++ jobs) < 2 ^ 61 → GoesOn b old done →
      HoldsCommands m.kind b (d.history new.disk) (done ++ jobs)

  -- what a journal is that did these jobs
  pub record Synced (jobs : List (Job C)) (old new : Journal M D S C m d) : Type 0 where
    pub holds : HoldsAll jobs old new
    pub told : new.present.told ≡ new.present.count

module _ {M N D S A T B : Type 0} {m : machine.Ghosts M S A} {n : machine.Ghosts N T B} {d : disk.Ghosts D} where
  pub record BothSynced (items : List (Item A B)) (old new : Writers M N D S A T B m n d) : Type 0 where
    pub session : Synced (map session_job items) old.session new.session
    pub tabs : Synced (map tabs_job items) old.tabs new.tabs
