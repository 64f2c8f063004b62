-- What follows a segment: the line of its sync and the text that is left, or the end of the run.
use Rattle.std.specs.Prelude.{◌≡◌, ℕ, List, [], ◌∷◌, None, Result, Ok, Err}
use Rattle.session_disk.specs.declared.disk.SessionDisk as disk
use Rattle.script_run.specs.declared.halt.Halt.{Halt}
use Rattle.script_run.specs.declared.lines.Next.{Next}
use Rattle.script_run.specs.declared.lines.Next.TheVariants as next
use Rattle.script_run.specs.declared.run_state.RunState.{RunState}
use Rattle.script_run.specs.declared.segments.Ended.{Ended}
use Rattle.script_run.specs.declared.segments.Ended.TheVariants as ended
use Rattle.script_run.specs.Doing.{StepsDone, StepsHalted, Sunk}
use Rattle.script_run.specs.Steps.{Say}
use Rattle.script_run.specs.Whole.{Ran, RunsOver}

module _ {D : Type 0} {d : disk.Ghosts D} where
  -- both journals write on, and all that they took is told
  pub record AreSynced (writers : RunsOver D d) : Type 0 where
    pub session_works : writers.session.failed ≡ None
    pub tabs_work : writers.tabs.failed ≡ None
    pub session_told : writers.session.present.told ≡ writers.session.present.count
    pub tabs_told : writers.tabs.present.told ≡ writers.tabs.present.count

  -- behind a line of a sync, with so many lines read and this text left
  abbrev pub FollowsSync : RunState D d → ℕ → List ℕ → Sunk → Sunk → RunState D d → Next → Type 0
  FollowsSync old count others before after new (next.Lines rest) =
      (rest.now ≡ others) × (new ≡ record old { number = count })
      × StepsDone (Say ∷ []) old.writers new.writers before after
  FollowsSync old count others before after new (next.Over (Ok refused)) = ⊥
  FollowsSync old count others before after new (next.Over (Err why)) =
      (new ≡ old) × StepsHalted (Say ∷ []) old.writers new.writers before after why

  -- nothing is written, and the run is over with this
  abbrev pub IsOver : RunState D d → Ran → Sunk → Sunk → RunState D d → Next → Type 0
  IsOver old ran before after new following = (new ≡ old) × (after ≡ before) × (following ≡ next.Over ran)

  -- behind a segment that was written so
  abbrev pub Follows : RunState D d → Result Ended Halt → Sunk → Sunk → RunState D d → Next → Type 0
  Follows old (Ok (ended.Sync count others)) before after new following =
      FollowsSync old count others.now before after new following
  Follows old (Ok (ended.Script refused)) before after new following =
      IsOver old (Ok refused) before after new following
  Follows old (Err why) before after new following = IsOver old (Err why) before after new following
