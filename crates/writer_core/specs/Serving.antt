-- A worker's report, one turn of it, and all turns up to the end.
use Rattle.std.specs.Prelude.{◌≡◌, ℕ, ◌≤◌, Bool, true, false, List, [], ◌∷◌, ◌++◌, Option, None, Some, Result, Ok, Err}
use Rattle.machine_law.specs.declared.machine.Machine as machine
use Rattle.session_disk.specs.declared.disk.SessionDisk as disk
use Rattle.session_disk.specs.declared.family.Family.TheVariants.{Session, Tabs}
use Rattle.log_writer.specs.declared.journal.Journal.{Journal}
use Rattle.command_queue.specs.declared.board.AckBoard.{AckBoard}
use Rattle.command_queue.specs.declared.board.Posted.{Posted}
use Rattle.command_queue.specs.declared.board.WriterSeat.{WriterSeat}
use Rattle.command_queue.specs.declared.queue.CommandQueue.{CommandQueue}
use Rattle.command_queue.specs.declared.queue.WriterPass.{WriterPass}
use Rattle.command_queue.specs.Passes.{IsWriterOf, taken}
use Rattle.command_queue.specs.Seats.{IsWriterSeatOf, posted}
use Rattle.writer_core.specs.Ends.{is_end, has_end, has_sync}
use Rattle.writer_core.specs.Handling.{Turns, turn_of}
use Rattle.writer_core.specs.InOrder.{HandlesAll}
use Rattle.writer_core.specs.Jobs.{session_job, tabs_job}
use Rattle.writer_core.specs.Synced.{BothSynced}
use Rattle.writer_core.specs.Telling.{IsCounted}
use Rattle.writer_core.specs.declared.handling.Stopped.{Stopped}
use Rattle.writer_core.specs.declared.handling.Writers.{Writers}
use Rattle.writer_core.specs.declared.item.Item.{Item}
use Rattle.writer_core.specs.declared.item.Item.TheVariants as item
use Rattle.writer_core.specs.declared.serving.Report.{Report}

-- what handling answers where it stopped so, or didn't
abbrev pub answer : Option Stopped → Result (Unit {0}) Stopped
answer None = Ok tt
answer (Some stopped) = Err stopped

-- the word that says that there is a refusal
abbrev pub ended_by : Option Stopped → ℕ
ended_by None = 0
ended_by (Some stopped) = 1

-- No more is said of a journal than it told, and it told no more than it took.
pub record IsAcknowledged {M D S C : Type 0} {m : machine.Ghosts M S C} {d : disk.Ghosts D} (j : Journal M D S C m d)
    (n : ℕ) : Type 0 where
  pub within : n ≤ j.present.told
  pub counted : IsCounted j.present

module _ {M N D S A T B : Type 0} {m : machine.Ghosts M S A} {n : machine.Ghosts N T B} {d : disk.Ghosts D} where
  -- the numbers of both journals, and the word of the end
  abbrev pub told_by_both : Writers M N D S A T B m n d → ℕ → Posted
  told_by_both writers ended =
      record { session = writers.session.present.told; tabs = writers.tabs.present.told; ended = ended }

  -- What stands on the board behind an item that was handled or refused: a sync raises both numbers to what the
  -- journals told, a refusal raises the word of the end, and nothing else changes.
  abbrev pub posted_after : Item A B → Option Stopped → Writers M N D S A T B m n d → Posted → Posted
  posted_after handled (Some stopped) new before = record before { ended = 1 }
  posted_after (item.Session command) None new before = before
  posted_after (item.Tabs command) None new before = before
  posted_after item.Sync None new before = told_by_both new before.ended
  posted_after item.Compact None new before = before
  posted_after item.End None new before = before

  -- an item was handled or refused
  pub record Turned (handled : Item A B) (old : Writers M N D S A T B m n d) (before : Posted)
      (stopped : Option Stopped) (new : Writers M N D S A T B m n d) (after : Posted) : Type 0 where
    pub session : Turns (session_job handled) old.session new.session (turn_of Session (answer stopped))
    pub tabs : Turns (tabs_job handled) old.tabs new.tabs (turn_of Tabs (answer stopped))
    pub posts : after ≡ posted_after handled stopped new before

  -- nothing was done
  pub record Unturned (old : Writers M N D S A T B m n d) (before : Posted) (was stopped : Option Stopped)
      (new : Writers M N D S A T B m n d) (after : Posted) : Type 0 where
    pub writers : new ≡ old
    pub posts : after ≡ before
    pub stays : stopped ≡ was

  -- one item that was taken: it is handled unless it is the end, or one before it was refused
  abbrev pub Serves : Item A B → Option Stopped → Writers M N D S A T B m n d → Posted → Option Stopped
      → Writers M N D S A T B m n d → Posted → Type 0
  Serves item.End was old before stopped new after = Unturned old before was stopped new after
  Serves handled (Some why) old before stopped new after = Unturned old before (Some why) stopped new after
  Serves handled None old before stopped new after = Turned handled old before stopped new after

  -- what a writer's seat has posted, with these journals
  pub record IsPosted (b : AckBoard) (writers : Writers M N D S A T B m n d) (seat : WriterSeat)
      (stopped : Option Stopped) : Type 0 where
    pub seat_is : IsWriterSeatOf b seat
    pub session : IsAcknowledged writers.session (posted seat).session
    pub tabs : IsAcknowledged writers.tabs (posted seat).tabs
    pub ended : (posted seat).ended ≡ ended_by stopped
    pub works : stopped ≡ None → (writers.session.failed ≡ None) × (writers.tabs.failed ≡ None)

  -- what a report is of a queue and a board
  pub record IsReport (q : CommandQueue (Item A B)) (b : AckBoard) (r : Report M N D S A T B m n d) : Type 0 where
    pub pass : IsWriterOf q r.pass
    pub posts : IsPosted b r.writers r.seat r.stopped

  -- one turn: one item was taken
  pub record Served (old new : Report M N D S A T B m n d) (ends : Bool) : Type 0 where
    pub item : Item A B
    pub takes : taken new.pass ≡ taken old.pass ++ item ∷ []
    pub ends_is : ends ≡ is_end item
    pub serves : Serves item old.stopped old.writers (posted old.seat) new.stopped new.writers (posted new.seat)

  -- what items, handled in order up to the first refusal, make of the journals and of what was posted
  pub record Handled (items : List (Item A B)) (old : Writers M N D S A T B m n d) (stopped : Option Stopped)
      (new : Writers M N D S A T B m n d) (after : Posted) : Type 0 where
    pub all : HandlesAll items old new (answer stopped)
    -- a sync that is the last of them
    pub synced : (before : List (Item A B)) → items ≡ before ++ item.Sync ∷ [] → stopped ≡ None →
        BothSynced items old new
    pub posts : stopped ≡ None → has_sync items ≡ true → after ≡ told_by_both new after.ended

  -- all turns of a worker: it took these items, none of them the end, and then the end
  pub record Ran (old : Writers M N D S A T B m n d) (pass : WriterPass (Item A B)) (r : Report M N D S A T B m n d)
      : Type 0 where
    pub items : List (Item A B)
    pub none_ends : has_end items ≡ false
    pub takes : taken r.pass ≡ taken pass ++ (items ++ item.End ∷ [])
    pub handled : Handled items old r.stopped r.writers (posted r.seat)
