-- Lines of a script that were done, segment by segment; and where that ends.
use Rattle.std.proofs.Common.{◌≡◌, ℕ, suc, ◌+◌, ◌≤◌, List, [], ◌∷◌, ◌++◌, length, Option, None, Result, Ok, Err}
use Rattle.std.proofs.Common.{IfOk, OnOk, refl, sym, ap, ◌∙◌, subst, arith}
use Rattle.std.proofs.lemmas.List.{append-nil}
use Rattle.machine_law.specs.declared.machine.Machine as machine
use Rattle.session_disk.specs.declared.disk.SessionDisk as disk
use Rattle.session_disk.specs.declared.family.Family.TheVariants.{Tabs}
use Rattle.session_commands.specs.declared.command.SessionCommand.{SessionCommand}
use Rattle.tab_restore_commands.specs.declared.command.TabsCommand.{TabsCommand}
use Rattle.window_state.specs.States.{State as SessionState}
use Rattle.closed_entries.specs.States.{State as ClosedState}
use Rattle.browser_model.specs.Browsers.{Browser}
use Rattle.run_words.specs.declared.why.Why.{Why}
use Rattle.script_lines.specs.Lines.{lines}
use Rattle.writer_core.specs.Synced.{BothSynced}
use Rattle.writer_core.specs.Telling.{IsCounted}
use Rattle.writer_core.proofs.SyncedLaws.{both_synced_then}
use Rattle.script_run.specs.declared.halt.Halt.{Halt}
use Rattle.script_run.specs.declared.segments.Ended.{Ended}
use Rattle.script_run.specs.Closed.{LeadsClosed}
use Rattle.script_run.specs.Doing.{DoesUnsaid, RunWriters, StepsDone, StepsHalted, Sunk}
use Rattle.script_run.specs.Script.{Course, behind, course_from, synced_course}
use Rattle.script_run.specs.Segments.{Behind, EndsSegment, Left, Over, Segment, left_by, left_course, segment_course}
use Rattle.script_run.specs.Segments.{segment_from, synced_steps}
use Rattle.script_run.specs.Steps.{Step, Say, issued_to, items_of}
use Rattle.script_run.proofs.ProgressLaws.{DoneUpTo, all-done, done-further, halted-further, nothing-done}
use Rattle.script_run.proofs.SegmentLaws.{left_steps, segment-course, segment-steps}
use Rattle.script_run.proofs.StepLaws.{issued-synced, items-append}

module _ {M N D : Type 0} {m : machine.Ghosts M SessionState SessionCommand}
    {n : machine.Ghosts N ClosedState TabsCommand} {d : disk.Ghosts D} (first : Browser) (text : List ℕ)
    (old : RunWriters M N D m n d) (before : Sunk) where
  abbrev whole : Course
  whole = course_from 1 first (lines text)

  -- all was done but these steps, which are those that are left with this course
  pub record UpTo (steps : List Step) (left : Course) (b : Browser) (now : RunWriters M N D m n d) (after : Sunk)
      : Type 0 where
    pub so_far : DoneUpTo first (synced_course whole) old before steps b now after
    pub refused : left.refused ≡ whole.refused
    pub last : left.last ≡ whole.last

  -- so many lines were done, and this text is left
  pub record LinesDone (rest : List ℕ) (number : ℕ) (b : Browser) (now : RunWriters M N D m n d) (after : Sunk)
      : Type 0 where
    pub room : number + length rest ≤ length text
    pub session_works : now.session.failed ≡ None
    pub tabs_work : now.tabs.failed ≡ None
    pub session_counted : IsCounted now.session.present
    pub tabs_counted : IsCounted now.tabs.present
    pub up_to : UpTo (synced_course (course_from (suc number) b (lines rest))) (course_from (suc number) b (lines rest))
        b now after

  pub no-lines : old.session.failed ≡ None → old.tabs.failed ≡ None → IsCounted old.session.present
      → IsCounted old.tabs.present → LinesDone text 0 first old before
  no-lines session_works tabs_work session_counted tabs_counted = record {
    room = omega arith;
    session_works = session_works;
    tabs_work = tabs_work;
    session_counted = session_counted;
    tabs_counted = tabs_counted;
    up_to = record {
      so_far = nothing-done first (synced_course whole) old before session_works tabs_work;
      refused = refl;
      last = refl;
    };
  }

  -- what holds of all lines where none is left, and where one is refused
  pub record LinesEnd (refused : Option (ℕ × Why)) (now : RunWriters M N D m n d) (after : Sunk) : Type 0 where
    pub steps : StepsDone (synced_course (course_from 1 first (lines text))) old now before after
    pub synced : BothSynced (items_of (synced_course (course_from 1 first (lines text)))) old now
    pub refused_is : refused ≡ (course_from 1 first (lines text)).refused
    pub closed : LeadsClosed first (issued_to Tabs (course_from 1 first (lines text)).steps)
        (course_from 1 first (lines text)).last

  -- one segment further, as its writer answered
  module _ (rest : List ℕ) (number : ℕ) (b : Browser) (now : RunWriters M N D m n d) (after : Sunk)
      (h : LinesDone rest number b now after) (new : RunWriters M N D m n d) (to : Browser)
      (result : Result Ended Halt)
      (wrote : DoesUnsaid (synced_steps (segment_from (suc number) b (lines rest))) now new result) where
    abbrev segment : Segment
    segment = segment_from (suc number) b (lines rest)

    abbrev left_here : Course
    left_here = course_from (suc number) b (lines rest)

    segment-is : left_here ≡ segment_course segment
    segment-is = segment-course (lines rest) (suc number) b

    pub segment-halted : (why : Halt) → result ≡ Err why
        → StepsHalted (synced_course (course_from 1 first (lines text))) old new before after why
    segment-halted why is =
        halted-further first (synced_course whole) old before (synced_course left_here) b now after h.up_to.so_far
        (synced_steps segment) (left_steps segment.left segment.last)
        (ap synced_course segment-is ∙ segment-steps segment) new after why
        (subst (λ r. DoesUnsaid (synced_steps segment) now new r) is wrote after)

    module _ (ended : Ended) (is_ok : result ≡ Ok ended)
        (ends : IfOk result (λ ended. EndsSegment (segment_from (suc number) b (lines rest)) b ended to)) where
      did : StepsDone (synced_steps segment) now new after after
      did = subst (λ r. DoesUnsaid (synced_steps segment) now new r) is_ok wrote after

      ends-so : EndsSegment segment b ended to
      ends-so = subst (λ r. IfOk r (λ ended. EndsSegment segment b ended to)) is_ok ends

      left-is : left_here ≡ behind segment.steps (left_course (left_by ended) to)
      left-is =
          segment-is
          ∙ ap (λ left. behind segment.steps (left_course left segment.last)) (sym ends-so.left)
          ∙ ap (λ last. behind segment.steps (left_course (left_by ended) last)) (sym ends-so.last_is)

      steps-are : synced_course left_here ≡ synced_steps segment ++ left_steps (left_by ended) to
      steps-are = ap synced_course left-is
          ∙ segment-steps (record { steps = segment.steps; left = left_by ended; last = to })

      behind-segment : UpTo (left_steps (left_by ended) to) (left_course (left_by ended) to) to new after
      behind-segment = record {
        so_far = done-further first (synced_course whole) old before (synced_course left_here) b now after
            h.up_to.so_far (synced_steps segment) (left_steps (left_by ended) to) steps-are new after to did
            (subst (λ issued. LeadsClosed b issued to) (sym (issued-synced Tabs segment.steps)) ends-so.closed);
        refused = sym (ap (λ (c : Course). c.refused) left-is) ∙ h.up_to.refused;
        last = sym (ap (λ (c : Course). c.last) left-is) ∙ h.up_to.last;
      }

      -- this is left
      left-behind : (left : Left) → left_by ended ≡ left → UpTo (left_steps left to) (left_course left to) to new after
      left-behind left is = subst (λ x. UpTo (left_steps x to) (left_course x to) to new after) is behind-segment

      -- the script ends with it
      module _ (synced : OnOk result (BothSynced (items_of (synced_steps (segment_from (suc number) b (lines rest))))
          now new)) (refused : Option (ℕ × Why)) (is : left_by ended ≡ Over refused) where
        last-parts : h.up_to.so_far.done ++ synced_steps segment ≡ synced_course whole
        last-parts =
            ap (λ steps. h.up_to.so_far.done ++ steps)
            (sym (append-nil (synced_steps segment))
            ∙ ap (λ left. synced_steps segment ++ left_steps left to) (sym is) ∙ sym steps-are)
            ∙ h.up_to.so_far.parts

        pub lines-over : LinesEnd refused new after
        lines-over =
            let behind = left-behind (Over refused) is in
            let all = all-done first (synced_course whole) old before [] to new after behind.so_far refl in record {
              steps = all.steps;
              synced = subst (λ items. BothSynced items old new)
                  (sym (items-append h.up_to.so_far.done (synced_steps segment)) ∙ ap items_of last-parts)
                  (both_synced_then (items_of h.up_to.so_far.done) (items_of (synced_steps segment)) old now new
                  h.up_to.so_far.steps.all
                  (subst (λ r. OnOk r (BothSynced (items_of (synced_steps segment)) now new)) is_ok synced));
              refused_is = behind.refused;
              closed = subst (λ last. LeadsClosed first (issued_to Tabs whole.steps) last) behind.last
                  (subst (λ issued. LeadsClosed first issued to) (issued-synced Tabs whole.steps) all.closed);
            }

      -- both journals write on
      pub both-work : (new.session.failed ≡ None) × (new.tabs.failed ≡ None)
      both-work = (did.all.session.answers.0, did.all.tabs.answers.0)

      -- further lines follow it, and first the line of its sync
      module _ (count : ℕ) (others : List ℕ) (is : left_by ended ≡ Behind (suc count) (lines others))
          (later : Sunk) where
        abbrev left_there : Course
        left_there = course_from (suc count) to (lines others)

        pub line-halted : (why : Halt) → StepsHalted (Say ∷ []) new new after later why
            → StepsHalted (synced_course (course_from 1 first (lines text))) old new before later why
        line-halted why halted =
            halted-further first (synced_course whole) old before (Say ∷ synced_course left_there) to new after
            (left-behind (Behind (suc count) (lines others)) is).so_far (Say ∷ []) (synced_course left_there) refl new
            later why halted

        pub line-done : StepsDone (Say ∷ []) new new after later → count + length others ≤ number + length rest
            → LinesDone others count to new later
        line-done said shorter =
            let behind = left-behind (Behind (suc count) (lines others)) is in record {
              room = omega (arith, shorter, h.room);
              session_works = both-work.0;
              tabs_work = both-work.1;
              session_counted = did.all.session.counted h.session_counted;
              tabs_counted = did.all.tabs.counted h.tabs_counted;
              up_to = record {
                so_far = done-further first (synced_course whole) old before (Say ∷ synced_course left_there) to new
                    after behind.so_far (Say ∷ []) (synced_course left_there) refl new later to said (λ s kept. kept);
                refused = behind.refused;
                last = behind.last;
              };
            }
