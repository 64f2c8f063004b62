-- Lines of a segment that were acted on and what they asked, done so far; and where that ends.
use Rattle.std.proofs.Common.{◌≡◌, ℕ, suc, ◌+◌, ◌≤◌, ◌<◌, true, false, List, [], ◌∷◌, length, Some, None, Ok, Err, refl}
use Rattle.std.proofs.Common.{sym, ap, ◌∙◌, subst, arith}
use Rattle.machine_law.specs.declared.machine.Machine as machine
use Rattle.session_disk.specs.declared.disk.SessionDisk as disk
use Rattle.session_disk.specs.declared.family.Family.TheVariants.{Tabs}
use Rattle.session_commands.specs.declared.command.SessionCommand.{SessionCommand}
use Rattle.tab_restore_commands.specs.declared.command.TabsCommand.{TabsCommand}
use Rattle.window_state.specs.States.{State as SessionState}
use Rattle.closed_entries.specs.States.{State as ClosedState}
use Rattle.browser_model.specs.Browsers.{Browser}
use Rattle.run_words.specs.declared.why.Why.{Why}
use Rattle.script_lines.specs.Lines.{lines}
use Rattle.script_run.specs.declared.asking.Asked.{Asked}
use Rattle.script_run.specs.declared.asking.Asked.TheVariants as asks
use Rattle.script_run.specs.declared.asking.Work.{Work}
use Rattle.script_run.specs.declared.halt.Halt.{Halt}
use Rattle.script_run.specs.declared.halt.Halt.TheVariants as halt
use Rattle.script_run.specs.declared.segments.Ended.{Ended}
use Rattle.script_run.specs.declared.segments.Ended.TheVariants as ended
use Rattle.script_run.specs.Acting.{asked_steps, syncs, tabs_asked, work_steps}
use Rattle.script_run.specs.Closed.{LeadsClosed}
use Rattle.script_run.specs.Doing.{RunWriters, StepsDone, StepsHalted, Sunk}
use Rattle.script_run.specs.Script.{line_acted}
use Rattle.script_run.specs.Segments.{Behind, EndsSegment, Over, Segment, ends, is_sync, led, left_by, segment_from}
use Rattle.script_run.specs.Steps.{Step, issued_to}
use Rattle.script_run.proofs.AskedLaws.{work-tabs}
use Rattle.script_run.proofs.HandledLaws.{done-none}
use Rattle.script_run.proofs.ProgressLaws.{DoneUpTo, all-done, done-further, halted-further, memory-ends, nothing-done}
use Rattle.script_run.proofs.SegmentLaws.{first-line, nothing-left}

-- a sink, whichever
quiet : Sunk
quiet = record { written = None; faults = 0 }

module _ {M N D : Type 0} {m : machine.Ghosts M SessionState SessionCommand}
    {n : machine.Ghosts N ClosedState TabsCommand} {d : disk.Ghosts D} (first : Browser) (text : List ℕ)
    (number : ℕ) (old : RunWriters M N D m n d) where
  abbrev whole : Segment
  whole = segment_from (suc number) first (lines text)

  -- all was done but what comes to this, and nothing was written
  pub record SegmentUpTo (later : Segment) (b : Browser) (now : RunWriters M N D m n d) : Type 0 where
    pub steps : (sink : Sunk) → DoneUpTo first whole.steps old sink later.steps b now sink
    pub left_is : later.left ≡ whole.left
    pub last_is : later.last ≡ whole.last

  -- so many lines were done, and this text is left
  pub record SegmentDone (rest : List ℕ) (count : ℕ) (b : Browser) (now : RunWriters M N D m n d) : Type 0 where
    pub room : count + length rest ≤ number + length text
    pub shorter : length rest ≤ length text
    pub session_works : now.session.failed ≡ None
    pub tabs_work : now.tabs.failed ≡ None
    pub so_far : SegmentUpTo (segment_from (suc count) b (lines rest)) b now

  pub no-line : old.session.failed ≡ None → old.tabs.failed ≡ None → SegmentDone text number first old
  no-line session_works tabs_work = record {
    room = omega arith;
    shorter = omega arith;
    session_works = session_works;
    tabs_work = tabs_work;
    so_far = record {
      steps = λ sink. nothing-done first whole.steps old sink session_works tabs_work;
      left_is = refl;
      last_is = refl;
    };
  }

  further : (was next : Segment) (steps : List Step) → was ≡ led steps next → (b to : Browser)
      (now new : RunWriters M N D m n d) → SegmentUpTo was b now → ((sink : Sunk) → StepsDone steps now new sink sink)
      → LeadsClosed b (issued_to Tabs steps) to → SegmentUpTo next to new
  further was next steps is b to now new h did closed = record {
    steps = λ sink. done-further first whole.steps old sink was.steps b now sink (h.steps sink) steps next.steps
        (ap (λ (s : Segment). s.steps) is) new sink to (did sink) closed;
    left_is = sym (ap (λ (s : Segment). s.left) is) ∙ h.left_is;
    last_is = sym (ap (λ (s : Segment). s.last) is) ∙ h.last_is;
  }

  -- the segment is over
  pub record SegmentOver (ended : Ended) (last : Browser) (now : RunWriters M N D m n d) : Type 0 where
    pub steps : (sink : Sunk) → StepsDone (segment_from (suc number) first (lines text)).steps old now sink sink
    pub ends : EndsSegment (segment_from (suc number) first (lines text)) first ended last

  module _ (rest : List ℕ) (count : ℕ) (b : Browser) (now : RunWriters M N D m n d)
      (h : SegmentDone rest count b now) where
    abbrev left_here : Segment
    left_here = segment_from (suc count) b (lines rest)

    ends-as : (ended : Ended) (to : Browser) → left_here ≡ ends (left_by ended) to → LeadsClosed b [] to
        → SegmentOver ended to now
    ends-as ended to is closed =
        let last = ends (left_by ended) to in
        let so_far = further left_here last [] is b to now now h.so_far
        (λ sink. done-none now sink h.session_works h.tabs_work) closed in
        let all = λ (sink : Sunk). all-done first whole.steps old sink [] to now sink (so_far.steps sink) refl in
        record {
          steps = λ sink. (all sink).steps;
          ends = record { left = so_far.left_is; last_is = so_far.last_is; closed = (all quiet).closed };
        }

    pub text-over : length rest ≤ 0 → SegmentOver (ended.Script None) b now
    text-over short =
        ends-as (ended.Script None) b
        (ap (λ left. segment_from (suc count) b (lines left)) (nothing-left rest short)) (λ s kept. kept)

    pub memory-over : (sink : Sunk)
        → StepsHalted (segment_from (suc number) first (lines text)).steps old now sink sink halt.Memory
    memory-over sink = memory-ends first whole.steps old sink left_here.steps b now sink (h.so_far.steps sink)

    module _ (line others : List ℕ) (next : lines rest ≡ line ∷ lines others) where
      pub line-refused : (why : Why) → line_acted line b ≡ Err why → (to : Browser) → to ≡ b
          → SegmentOver (ended.Script (Some (count + 1, why))) to now
      line-refused why is to same =
          let counted : suc count ≡ count + 1 = omega arith in
          ends-as (ended.Script (Some (count + 1, why))) to
          (first-line (suc count) b rest line others next (Err why) (is_sync line) is refl
          ∙ ap (λ k. ends (Over (Some (k, why))) b) counted ∙ ap (ends (Over (Some (count + 1, why)))) (sym same))
          (subst (λ x. LeadsClosed b [] x) (sym same) (λ s kept. kept))

      module _ (asked : Asked) (to : Browser) (acts : line_acted line b ≡ Ok (asked_steps asked, to))
          (sync : syncs asked ≡ is_sync line) (closed : LeadsClosed b (tabs_asked asked) to) where
        -- it asks for a sync
        pub line-synced : asked ≡ asks.Sync → (ended : Ended)
            → left_by ended ≡ Behind (suc (count + 1)) (lines others) → SegmentOver ended to now
        line-synced is ended left =
            let counted : suc count ≡ count + 1 = omega arith in
            ends-as ended to
            (first-line (suc count) b rest line others next (Ok (asked_steps asked, to)) true acts
            (sym sync ∙ ap syncs is)
            ∙ ap (λ k. ends (Behind (suc k) (lines others)) to) counted
            ∙ ap (λ x. ends x to) (sym left)) (subst (λ a. LeadsClosed b (tabs_asked a) to) is closed)

        -- it asks for other work
        module _ (work : Work) (is : asked ≡ asks.Work work) (new : RunWriters M N D m n d) where
          abbrev left_there : Segment
          left_there = segment_from (suc (suc count)) to (lines others)

          work-first : left_here ≡ led (work_steps work) left_there
          work-first =
              first-line (suc count) b rest line others next (Ok (asked_steps asked, to)) false acts
              (sym sync ∙ ap syncs is)
              ∙ ap (λ a. led (asked_steps a) left_there) is

          pub line-halted : (why : Halt) → ((sink : Sunk) → StepsHalted (work_steps work) now new sink sink why)
              → (sink : Sunk)
              → StepsHalted (segment_from (suc number) first (lines text)).steps old new sink sink why
          line-halted why halted sink =
              halted-further first whole.steps old sink left_here.steps b now sink (h.so_far.steps sink)
              (work_steps work) left_there.steps (ap (λ (s : Segment). s.steps) work-first) new sink why (halted sink)

          pub line-done : ((sink : Sunk) → StepsDone (work_steps work) now new sink sink)
              → length others < length rest → SegmentDone others (count + 1) to new
          line-done did shorter =
              let counted : suc count ≡ count + 1 = omega arith in
              let issued : tabs_asked asked ≡ issued_to Tabs (work_steps work) = ap tabs_asked is ∙ sym (work-tabs work)
              in record {
                room = omega (arith, shorter, h.room);
                shorter = omega (arith, shorter, h.shorter);
                session_works = (did quiet).all.session.answers.0;
                tabs_work = (did quiet).all.tabs.answers.0;
                so_far = subst (λ k. SegmentUpTo (segment_from (suc k) to (lines others)) to new) counted
                    (further left_here left_there (work_steps work) work-first b to now new h.so_far did
                    (subst (λ commands. LeadsClosed b commands to) issued closed));
              }
