-- A segment of a script that is written: what it takes of a run, and what it makes of it. Whoever writes it, both
-- journals are synced behind it.
use Rattle.std.specs.Prelude.{◌≡◌, ℕ, suc, ◌+◌, ◌≤◌, ◌^◌, List, length, None, Result, IfOk, OnOk}
use Rattle.session_disk.specs.declared.disk.SessionDisk as disk
use Rattle.script_lines.specs.Lines.{lines}
use Rattle.writer_core.specs.Synced.{BothSynced}
use Rattle.writer_core.specs.Telling.{IsCounted}
use Rattle.script_run.specs.declared.halt.Halt.{Halt}
use Rattle.script_run.specs.declared.run_state.RunState.{RunState}
use Rattle.script_run.specs.declared.segments.Ended.{Ended}
use Rattle.script_run.specs.Doing.{DoesUnsaid}
use Rattle.script_run.specs.Segments.{EndsSegment, IsFurther, Segment, segment_from, synced_steps}
use Rattle.script_run.specs.Steps.{items_of}

module _ {D : Type 0} {d : disk.Ghosts D} where
  -- both journals write on and know what they count, and the script is a short one
  pub record CanWrite (state : RunState D d) (text : List ℕ) : Type 0 where
    pub session_works : state.writers.session.failed ≡ None
    pub tabs_work : state.writers.tabs.failed ≡ None
    pub session_counted : IsCounted state.writers.session.present
    pub tabs_counted : IsCounted state.writers.tabs.present
    pub short : state.number + length text ≤ 2 ^ 30

  -- the segment with which this text begins
  abbrev pub segment_of : RunState D d → List ℕ → Segment
  segment_of state text = segment_from (suc state.number) state.browser (lines text)

  -- how it was written, or where that halted
  pub record WritesSegment (old : RunState D d) (text : List ℕ) (new : RunState D d) (result : Result Ended Halt)
      : Type 0 where
    pub steps : DoesUnsaid (synced_steps (segment_of old text)) old.writers new.writers result
    pub synced : OnOk result (BothSynced (items_of (synced_steps (segment_of old text))) old.writers new.writers)
    pub ends : IfOk result (λ ended. EndsSegment (segment_of old text) old.browser ended new.browser)
    pub further : IfOk result (IsFurther old.number text)
