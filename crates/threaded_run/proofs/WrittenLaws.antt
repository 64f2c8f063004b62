-- A segment whose items a writer handled, all of them or some: it is written, or halts where that ends.
use Rattle.std.proofs.Common.{◌≡◌, ℕ, suc, List, [], ◌∷◌, ◌++◌, length, map, Option, Some, None, Result, Ok, Err}
use Rattle.std.proofs.Common.{IfOk, OnOk, refl, sym, ap, ◌∙◌, subst, arith}
use Rattle.std.proofs.lemmas.List.{append-nil, length-append, map-append}
use Rattle.session_disk.specs.declared.disk.SessionDisk as disk
use Rattle.command_queue.specs.declared.board.IssuerSeat.{IssuerSeat}
use Rattle.command_queue.specs.declared.board.Posted.{Posted}
use Rattle.browser_model.specs.Browsers.{Browser}
use Rattle.script_lines.specs.Lines.{lines}
use Rattle.writer_core.specs.InOrder.{AllDone, HandlesAll}
use Rattle.writer_core.specs.Serving.{Handled}
use Rattle.writer_core.specs.Synced.{BothSynced}
use Rattle.writer_core.specs.declared.handling.Stopped.{Stopped}
use Rattle.writer_core.specs.declared.item.Item.TheVariants as item
use Rattle.writer_core.proofs.SyncedLaws.{both_synced_then}
use Rattle.script_run.specs.declared.halt.Halt.{Halt}
use Rattle.script_run.specs.declared.halt.Halt.TheVariants as halt
use Rattle.script_run.specs.declared.run_state.RunState.{RunState}
use Rattle.script_run.specs.declared.segments.Ended.{Ended}
use Rattle.script_run.specs.Doing.{DoesUnsaid, StepsDone, StepsHalted, Sunk}
use Rattle.script_run.specs.Families.{RunItem}
use Rattle.script_run.specs.SegmentWriting.{CanWrite, WritesSegment, segment_of}
use Rattle.script_run.specs.Segments.{EndsSegment, IsFurther, segment_from, synced_steps}
use Rattle.script_run.specs.Steps.{Step, Handle, items_of}
use Rattle.script_run.specs.Whole.{RunsOver}
use Rattle.script_run.proofs.DoingLaws.{does-then, halted-longer, halted-then}
use Rattle.script_run.proofs.HandledLaws.{halted-first, items-done, items-stopped}
use Rattle.script_run.proofs.StepLaws.{items-append}
use Rattle.threaded_run.specs.Answers.{answer_of}
use Rattle.threaded_run.specs.Issuers.{HasLooked}
use Rattle.threaded_run.specs.Issuing.{EndsAs, MayLeave}
use Rattle.threaded_run.specs.declared.issuing.Issued.{Issued}
use Rattle.threaded_run.specs.declared.issuing.Issued.TheVariants as issued
use Rattle.threaded_run.proofs.UnsaidLaws.{unsaid}

module _ {D : Type 0} {d : disk.Ghosts D} where
  -- some of the items of these steps were handled, and these are left
  module _ (steps : List Step) (handled : map Handle (items_of steps) ≡ steps) (items left : List RunItem)
      (parts : items ++ left ≡ items_of steps) (old new : RunsOver D d) (sink : Sunk) where
    all-steps : map Handle items ++ map Handle left ≡ steps
    all-steps = sym (map-append Handle items left) ∙ ap (map Handle) parts ∙ handled

    part-stopped : (stopped : Stopped) → HandlesAll {X = Unit {0}} items old new (Err stopped)
        → StepsHalted steps old new sink sink (halt.Journal stopped)
    part-stopped stopped h =
        subst (λ all. StepsHalted all old new sink sink (halt.Journal stopped)) all-steps
        (halted-longer (map Handle items) (map Handle left) old new sink sink (halt.Journal stopped)
        (items-stopped items old new sink stopped h))

    part-done : AllDone items old new → StepsHalted steps old new sink sink halt.Memory
    part-done all =
        subst (λ steps. StepsHalted steps old new sink sink halt.Memory) all-steps
        (halted-then (map Handle items) (map Handle left) old new new sink sink sink halt.Memory
        (items-done items old new sink all)
        (halted-first (map Handle left) new sink all.session.answers.0 all.tabs.answers.0))

    all-done : left ≡ [] → AllDone items old new → StepsDone steps old new sink sink
    all-done none all =
        subst (λ steps. StepsDone steps old new sink sink)
        (sym (append-nil (map Handle items)) ∙ ap (λ later. map Handle items ++ map Handle later) (sym none)
        ∙ all-steps) (items-done items old new sink all)

  -- the items of a segment
  module _ (old : RunState D d) (text : List ℕ) (new : RunState D d) (items left : List RunItem)
      (parts : items ++ left ≡ items_of (synced_steps (segment_from (suc old.number) old.browser (lines text))))
    where
      abbrev all_steps : List Step
      all_steps = synced_steps (segment_from (suc old.number) old.browser (lines text))

      handled-all : map Handle (items_of all_steps) ≡ all_steps
      handled-all = unsaid (suc old.number) old.browser (lines text)

      over-written : (after : Posted) (ended : Ended) → Handled items old.writers None new.writers after → left ≡ []
          → EndsSegment (segment_from (suc old.number) old.browser (lines text)) old.browser ended new.browser
          → IsFurther old.number text ended → WritesSegment old text new (Ok ended)
      over-written after ended h none ends further =
          let steps = (segment_from (suc old.number) old.browser (lines text)).steps in
          let whole : items ≡ items_of all_steps =
          sym (append-nil items) ∙ ap (λ later. items ++ later) (sym none) ∙ parts in record {
            steps = λ sink. all-done all_steps handled-all items left parts old.writers new.writers sink none h.all;
            synced = subst (λ all. BothSynced all old.writers new.writers) whole
                (h.synced (items_of steps) (whole ∙ items-append steps (Handle item.Sync ∷ [])) refl);
            ends = ends;
            further = further;
          }

      pub segment-written : (stopped : Option Stopped) (how : Issued) (after : Posted) (seat : IssuerSeat)
          → Handled items old.writers stopped new.writers after → MayLeave how left
          → EndsAs old.number text old.browser how seat new.browser → (stopped ≡ None → HasLooked seat → ⊥)
          → WritesSegment old text new (answer_of stopped how)
      segment-written (Some stopped) how after seat h leaves ends saw = record {
        steps = λ sink. part-stopped all_steps handled-all items left parts old.writers new.writers sink stopped h.all;
        synced = tt;
        ends = tt;
        further = tt;
      }
      segment-written None (issued.Over ended) after seat h leaves ends saw =
          over-written after ended h leaves ends.0 ends.1
      segment-written None issued.Memory after seat h leaves ends saw = record {
        steps = λ sink. part-done all_steps handled-all items left parts old.writers new.writers sink h.all;
        synced = tt;
        ends = tt;
        further = tt;
      }
      segment-written None issued.Stopped after seat h leaves ends saw = absurd (saw refl ends)

  -- nothing was begun, for want of memory
  pub none-begun : (old : RunState D d) (text : List ℕ) → CanWrite old text
      → WritesSegment old text old (Err halt.Memory)
  none-begun old text can = record {
    steps = λ sink. halted-first (synced_steps (segment_of old text)) old.writers sink can.session_works can.tabs_work;
    synced = tt;
    ends = tt;
    further = tt;
  }

  -- no item was handled
  pub none-done : (old new : RunsOver D d) (stopped : Option Stopped) (after : Posted)
      → Handled [] old stopped new after → AllDone [] old new
  none-done old new None after h = h.all
  none-done old new (Some stopped) after h =
      absurd (omega (arith, ap length h.all.parts, length-append h.all.before (h.all.item ∷ h.all.rest)))

  module _ (old mid : RunState D d) (text : List ℕ) (done : AllDone [] old.writers mid.writers)
      (number : mid.number ≡ old.number) (browser : mid.browser ≡ old.browser) where
    pub still-can : CanWrite old text → CanWrite mid text
    still-can can = record {
      session_works = done.session.answers.0;
      tabs_work = done.tabs.answers.0;
      session_counted = done.session.counted can.session_counted;
      tabs_counted = done.tabs.counted can.tabs_counted;
      short = omega (arith, number, can.short);
    }

    synced-behind : (items : List RunItem) (new : RunsOver D d) (result : Result Ended Halt)
        → OnOk result (BothSynced items mid.writers new) → OnOk result (BothSynced items old.writers new)
    synced-behind items new (Ok ended) synced = both_synced_then [] items old.writers mid.writers new done synced
    synced-behind items new (Err why) synced = tt

    -- what is written behind that is written
    pub behind-nothing : (new : RunState D d) (result : Result Ended Halt) → WritesSegment mid text new result
        → WritesSegment old text new result
    behind-nothing new result wrote =
        let same : (mid.number, mid.browser) ≡ (old.number, old.browser) = λ i. (number i, browser i) in
        let steps = subst (λ (at : ℕ × Browser). DoesUnsaid (synced_steps (segment_from (suc at.0) at.1 (lines text)))
        mid.writers new.writers result) same wrote.steps in
        let synced = subst (λ (at : ℕ × Browser). OnOk result (BothSynced (items_of (synced_steps (segment_from (suc
        at.0) at.1 (lines text)))) mid.writers new.writers)) same wrote.synced in record {
          steps = λ sink. does-then [] (synced_steps (segment_of old text)) old.writers mid.writers new.writers sink sink
              sink result (items-done [] old.writers mid.writers sink done) (steps sink);
          synced = synced-behind (items_of (synced_steps (segment_of old text))) new.writers result synced;
          ends = subst (λ (at : ℕ × Browser). IfOk result (λ ended. EndsSegment (segment_from (suc at.0) at.1 (lines
              text)) at.1 ended new.browser)) same wrote.ends;
          further = subst (λ n. IfOk result (IsFurther n text)) number wrote.further;
        }
