-- A segment that a writer on a second thread writes beside its issuer: what both begin with, and what both come to.
use Rattle.std.specs.Prelude.{◌≡◌, ℕ, suc, List, [], ◌∷◌, ◌++◌, Option, None, Some}
use Rattle.session_disk.specs.declared.disk.SessionDisk as disk
use Rattle.session_commands.specs.declared.command.SessionCommand.{SessionCommand}
use Rattle.tab_restore_commands.specs.declared.command.TabsCommand.{TabsCommand}
use Rattle.window_state.specs.States.{State as SessionState}
use Rattle.closed_entries.specs.States.{State as ClosedState}
use Rattle.compactor.specs.contracts.session.machine.SessionMachineMachine.TheImpl.{ghosts as session_ghosts}
use Rattle.compactor.specs.declared.session.machine.SessionMachine.{SessionMachine}
use Rattle.tabs_compactor.specs.contracts.machine.TabsMachineMachine.TheImpl.{ghosts as tabs_ghosts}
use Rattle.tabs_compactor.specs.declared.machine.TabsMachine.{TabsMachine}
use Rattle.command_queue.specs.declared.board.AckBoard.{AckBoard}
use Rattle.command_queue.specs.declared.queue.CommandQueue.{CommandQueue}
use Rattle.command_queue.specs.Passes.{IsWriterOf, sent}
use Rattle.command_queue.specs.Seats.{IsWriterSeatOf, posted, zeros}
use Rattle.script_lines.specs.Lines.{lines}
use Rattle.browser_model.specs.Browsers.{Browser}
use Rattle.writer_core.specs.Serving.{IsReport, Ran}
use Rattle.writer_core.specs.Telling.{IsCounted}
use Rattle.writer_core.specs.declared.item.Item.TheVariants as item
use Rattle.writer_core.specs.declared.serving.Report.{Report}
use Rattle.script_run.specs.Families.{RunItem}
use Rattle.script_run.specs.Segments.{segment_from, synced_steps}
use Rattle.script_run.specs.Steps.{items_of}
use Rattle.threaded_run.specs.Issuers.{IsIssuer}
use Rattle.threaded_run.specs.Issuing.{EndsAs, HasPut}
use Rattle.threaded_run.specs.declared.beside.Met.{Met}
use Rattle.threaded_run.specs.declared.beside.WriterSide.{WriterSide}
use Rattle.threaded_run.specs.declared.issuing.Issued.{Issued}
use Rattle.threaded_run.specs.declared.putting.Issuer.{Issuer}

-- the lines of this text were acted on from this browser on, where so many lines were read before, and what they ask
-- was put
pub record HasIssued (queue : CommandQueue RunItem) (board : AckBoard) (number : ℕ) (first : Browser) (text : List ℕ)
    (old : Issuer) (issued : Issued) (new : Issuer) (last : Browser) : Type 0 where
  pub issuer : IsIssuer queue board new
  pub put : HasPut (items_of (synced_steps (segment_from (suc number) first (lines text)))) (item.End ∷ []) old new
      issued
  pub ends : EndsAs number text first issued new.seat last

-- the end alone was put, and no line was acted on
pub record HasEnded (queue : CommandQueue RunItem) (board : AckBoard) (first : Browser) (old new : Issuer)
    (last : Browser) : Type 0 where
  pub issuer : IsIssuer queue board new
  pub sends : sent new.pass ≡ sent old.pass ++ item.End ∷ []
  pub stays : last ≡ first

-- what was issued, where a thread could be started, and where not
abbrev pub IssuedAs : CommandQueue RunItem → AckBoard → ℕ → (first : Browser) → List ℕ → (old : Issuer) → Option Issued
    → (new : Issuer) → (last : Browser) → Type 0
IssuedAs queue board number first text old (Some issued) new last =
    HasIssued queue board number first text old issued new last
IssuedAs queue board number first text old None new last = HasEnded queue board first old new last

-- the report of a run's writer
abbrev pub RunReport : (D : Type 0) → disk.Ghosts D → Type 0
RunReport D d =
    Report SessionMachine TabsMachine D SessionState SessionCommand ClosedState TabsCommand session_ghosts tabs_ghosts d

module _ {D : Type 0} {d : disk.Ghosts D} where
  -- the writer's pass and seat are of this queue and this board, and its journals write on
  pub record IsWriterReady (queue : CommandQueue RunItem) (board : AckBoard) (side : WriterSide D d) : Type 0 where
    pub pass : IsWriterOf queue side.pass
    pub seat : IsWriterSeatOf board side.seat
    pub none_posted : posted side.seat ≡ zeros
    pub session_works : side.writers.session.failed ≡ None
    pub tabs_work : side.writers.tabs.failed ≡ None
    pub session_counted : IsCounted side.writers.session.present
    pub tabs_counted : IsCounted side.writers.tabs.present

  -- both sides of a segment
  pub record AreReady (queue : CommandQueue RunItem) (board : AckBoard) (issuer : Issuer) (side : WriterSide D d)
      : Type 0 where
    pub issues : IsIssuer queue board issuer
    pub writes : IsWriterReady queue board side

  -- what the writer comes back with
  pub record WorksAs (queue : CommandQueue RunItem) (board : AckBoard) (side : WriterSide D d) (report : RunReport D d)
      : Type 0 where
    pub report_is : IsReport queue board report
    pub ran : Ran side.writers side.pass report

  -- and what both do
  pub record IssuedBeside (queue : CommandQueue RunItem) (board : AckBoard) (number : ℕ) (first : Browser)
      (text : List ℕ) (issuer : Issuer) (side : WriterSide D d) (met : Met D d) : Type 0 where
    pub works : WorksAs queue board side met.report
    pub issued : IssuedAs queue board number first text issuer met.issued met.issuer met.browser
