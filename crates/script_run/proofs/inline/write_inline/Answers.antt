use Rattle.std.proofs.Common.{[], ◌∷◌, None, sym, subst}
use Rattle.writer_core.specs.Synced.{BothSynced}
use Rattle.writer_core.specs.declared.item.Item.TheVariants as item
use Rattle.writer_core.proofs.SyncedLaws.{both_synced_then}
use Rattle.script_run.specs.SegmentWriting.{segment_of}
use Rattle.script_run.specs.Segments.{Segment}
use Rattle.script_run.specs.Steps.{Handle, items_of}
use Rattle.script_run.proofs.DoingLaws.{done-then, halted-longer, halted-then}
use Rattle.script_run.proofs.StepLaws.{items-append}
use Rattle.script_run.proofs.inline.write_inline.Goals as goal

pub handle_item-requires-clause-session_works : goal.handle_item-requires-clause-session_works
handle_item-requires-clause-session_works g c =
    (c.in-Ok.ensures.steps (record { written = None; faults = 0 })).all.session.answers.0

pub handle_item-requires-clause-tabs_work : goal.handle_item-requires-clause-tabs_work
handle_item-requires-clause-tabs_work g c =
    (c.in-Ok.ensures.steps (record { written = None; faults = 0 })).all.tabs.answers.0

pub returns-in-Err : goal.returns-in-Err
returns-in-Err g c =
    let segment : Segment = segment_of c.args.state c.args.text.now in record {
      steps = λ sink. halted-longer segment.steps (Handle item.Sync ∷ []) c.args.state.writers
          c.run_segment.new.writers sink sink c.in-Err.halt (c.in-Err.ensures.steps sink);
      synced = tt;
      ends = tt;
      further = tt;
    }

pub returns-in-Ok-handle_item : goal.returns-in-Ok-handle_item
returns-in-Ok-handle_item g c =
    let segment : Segment = segment_of c.args.state c.args.text.now in
    let did = c.in-Ok.ensures.steps (record { written = None; faults = 0 }) in record {
      steps = λ sink. done-then segment.steps (Handle item.Sync ∷ []) c.args.state.writers c.run_segment.new.writers
          c.handle_item.new.writers sink sink sink (c.in-Ok.ensures.steps sink) (c.in-Ok-handle_item.ensures.steps
          sink);
      synced = subst (λ items. BothSynced items c.args.state.writers c.handle_item.new.writers)
          (sym (items-append segment.steps (Handle item.Sync ∷ [])))
          (both_synced_then (items_of segment.steps) (item.Sync ∷ []) c.args.state.writers c.run_segment.new.writers
          c.handle_item.new.writers did.all c.in-Ok-handle_item.ensures.synced);
      ends = c.in-Ok.ensures.ends;
      further = c.in-Ok.ensures.further;
    }

pub returns-in-Err-handle_item : goal.returns-in-Err-handle_item
returns-in-Err-handle_item g c =
    let segment : Segment = segment_of c.args.state c.args.text.now in record {
      steps = λ sink. halted-then segment.steps (Handle item.Sync ∷ []) c.args.state.writers c.run_segment.new.writers
          c.handle_item.new.writers sink sink sink c.in-Err-handle_item.halt (c.in-Ok.ensures.steps sink)
          (c.in-Err-handle_item.ensures.steps sink);
      synced = tt;
      ends = tt;
      further = tt;
    }
