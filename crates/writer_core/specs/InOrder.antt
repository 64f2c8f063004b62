-- What a list of items makes of both journals: all are done, or those up to the first that a journal refused.
use Rattle.std.specs.Prelude.{◌≡◌, ◌<◌, ◌^◌, List, [], ◌∷◌, ◌++◌, length, map, Result, Ok, Err}
use Rattle.machine_law.specs.declared.machine.Machine as machine
use Rattle.session_disk.specs.declared.disk.SessionDisk as disk
use Rattle.session_disk.specs.declared.family.Family.TheVariants.{Session, Tabs}
use Rattle.log_writer.specs.Account.{Account}
use Rattle.log_writer.specs.Answers.{Lasts}
use Rattle.log_writer.specs.declared.journal.Journal.{Journal}
use Rattle.log_writer.specs.declared.fault.JournalFault.{JournalFault}
use Rattle.writer_core.specs.Course.{Goes, options}
use Rattle.writer_core.specs.Handling.{Turn, Done, Refused, Skipped, turn_of}
use Rattle.writer_core.specs.Jobs.{commands, session_job, tabs_job}
use Rattle.writer_core.specs.Telling.{IsCounted, KeepsTold}
use Rattle.writer_core.specs.Working.{Beginning, GoesOn, IssueAnswers, Works, course}
use Rattle.writer_core.specs.declared.handling.Stopped.{Stopped}
use Rattle.writer_core.specs.declared.handling.Writers.{Writers}
use Rattle.writer_core.specs.declared.item.Item.{Item}
use Rattle.writer_core.specs.declared.item.Job.{Job}

module _ {M D S C : Type 0} {m : machine.Ghosts M S C} {d : disk.Ghosts D} where
  -- what jobs one after another make of a journal
  pub record DoesAll {T : Type 0} (jobs : List (Job C)) (old new : Journal M D S C m d) (result : Result T JournalFault)
      : Type 0 where
    pub later : Lasts old new
    pub answers : IssueAnswers (length (commands jobs)) old new result
    pub works : Works jobs old new result
    pub keeps_told : KeepsTold old new result
    pub counted : IsCounted old.present → IsCounted new.present

  -- On a modelled disk, wherever the run began, whatever was done before, and in all no more than any run has: these
  -- jobs stop nothing, as the account says.
  abbrev pub GoesThrough : List (Job C) → Journal M D S C m d → Type 0
  GoesThrough jobs old = d.modelled → (b : Beginning S) (done : List (Job C)) → b.options ≡ options old.limits →
      length (done ++ jobs) < 2 ^ 61 → GoesOn b old done →
      (account : Account S C) × (course m.kind b (done ++ jobs) ≡ Goes account)

  -- A journal's turn at the last of some jobs: it did all of them, refused the last one, or wasn't called for it.
  abbrev pub TurnsLast : List (Job C) → Job C → Journal M D S C m d → Journal M D S C m d → Turn → Type 0
  TurnsLast before last old new Done = DoesAll {T = Unit {0}} (before ++ last ∷ []) old new (Ok tt)
  TurnsLast before last old new (Refused why) = DoesAll {T = Unit {0}} (before ++ last ∷ []) old new (Err why)
  TurnsLast before last old new Skipped = DoesAll {T = Unit {0}} before old new (Ok tt)

  -- what jobs make of a journal where the last of them was refused by it or by the other family's
  pub record StopsIn (before : List (Job C)) (last : Job C) (old new : Journal M D S C m d) (turn : Turn)
      : Type 0 where
    pub goes : GoesThrough before old
    pub turns : TurnsLast before last old new turn

module _ {M N D S A T B : Type 0} {m : machine.Ghosts M S A} {n : machine.Ghosts N T B} {d : disk.Ghosts D} where
  -- both journals did all items, and work on
  pub record AllDone (items : List (Item A B)) (old new : Writers M N D S A T B m n d) : Type 0 where
    pub session : DoesAll {T = Unit {0}} (map session_job items) old.session new.session (Ok tt)
    pub tabs : DoesAll {T = Unit {0}} (map tabs_job items) old.tabs new.tabs (Ok tt)

  -- both journals did the items before one that was refused, and nothing of those after it
  pub record StopsAt (items : List (Item A B)) (old new : Writers M N D S A T B m n d) (stopped : Stopped)
      : Type 0 where
    pub before : List (Item A B)
    pub item : Item A B
    pub rest : List (Item A B)
    pub parts : before ++ item ∷ rest ≡ items
    pub session : StopsIn (map session_job before) (session_job item) old.session new.session
        (turn_of {T = Unit {0}} Session (Err stopped))
    pub tabs : StopsIn (map tabs_job before) (tabs_job item) old.tabs new.tabs
        (turn_of {T = Unit {0}} Tabs (Err stopped))

  -- what a list of items, handled in order up to the first refusal, makes of both journals
  abbrev pub HandlesAll : {X : Type 0} → List (Item A B) → Writers M N D S A T B m n d → Writers M N D S A T B m n d →
      Result X Stopped → Type 0
  HandlesAll items old new (Ok x) = AllDone items old new
  HandlesAll items old new (Err stopped) = StopsAt items old new stopped
