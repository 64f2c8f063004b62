-- Segments that were written, one after another, and what follows each of them.
use Rattle.std.proofs.Common.{◌≡◌, ℕ, ◌<◌, ◌≤◌, ◌^◌, List, [], ◌∷◌, length, None, Result, Ok, Err, IfOk}
use Rattle.std.proofs.Common.{refl, sym, ap, subst, arith}
use denote.Ref.{Bor}
use Rattle.session_disk.specs.declared.disk.SessionDisk as disk
use Rattle.browser_model.specs.Browsers.{Browser}
use Rattle.script_lines.specs.Lines.{lines}
use Rattle.script_run.specs.declared.halt.Halt.{Halt}
use Rattle.script_run.specs.declared.lines.Next.{Next}
use Rattle.script_run.specs.declared.lines.Next.TheVariants as next
use Rattle.script_run.specs.declared.run_state.RunState.{RunState}
use Rattle.script_run.specs.declared.segments.Ended.{Ended}
use Rattle.script_run.specs.declared.segments.Ended.TheVariants as ended
use Rattle.script_run.specs.Doing.{StepsDone, StepsHalted, Sunk}
use Rattle.script_run.specs.Following.{AreSynced, Follows, FollowsSync}
use Rattle.script_run.specs.Script.{course_from, synced_course}
use Rattle.script_run.specs.SegmentWriting.{CanWrite, WritesSegment}
use Rattle.script_run.specs.Steps.{Say}
use Rattle.script_run.specs.Whole.{Ran, RunsLines, RunsOver}
use Rattle.script_run.proofs.LinesLaws.{LinesDone, line-done, line-halted, lines-over, no-lines, segment-halted}

module _ {D : Type 0} {d : disk.Ghosts D} where
  -- behind a segment that was written both journals are synced
  pub are-synced : (old : RunState D d) (text : List ℕ) (new : RunState D d) (written : Result Ended Halt)
      → WritesSegment old text new written → IfOk written (λ ended. AreSynced new.writers)
  are-synced old text new (Ok ended) wrote =
      let did = wrote.steps (record { written = None; faults = 0 }) in record {
        session_works = did.all.session.answers.0;
        tabs_work = did.all.tabs.answers.0;
        session_told = wrote.synced.session.told;
        tabs_told = wrote.synced.tabs.told;
      }
  are-synced old text new (Err why) wrote = tt

  module _ (first : Browser) (text : List ℕ) (old : RunsOver D d) (before : Sunk) where
    -- the lines of this text were done but for those that are left
    abbrev pub DoneTo : RunState D d → List ℕ → Sunk → Type 0
    DoneTo state rest after = LinesDone first text old before rest state.number state.browser state.writers after

    pub can-write : length text ≤ 2 ^ 30 → (state : RunState D d) (rest : List ℕ) (after : Sunk)
        → DoneTo state rest after → CanWrite state rest
    can-write short state rest after h = record {
      session_works = h.session_works;
      tabs_work = h.tabs_work;
      session_counted = h.session_counted;
      tabs_counted = h.tabs_counted;
      short = omega (arith, h.room, short);
    }

  pub none-done : (state : RunState D d) (text : List ℕ) (before : Sunk) → CanWrite state text → state.number ≡ 0
      → DoneTo state.browser text state.writers before state text before
  none-done state text before can none =
      subst (λ number. LinesDone state.browser text state.writers before text number state.browser state.writers before)
      (sym none)
      (no-lines state.browser text state.writers before can.session_works can.tabs_work can.session_counted
      can.tabs_counted)

  -- one segment further
  module _ (first : Browser) (text : List ℕ) (old : RunsOver D d) (before : Sunk) (state : RunState D d)
      (rest : List ℕ) (after : Sunk) (h : DoneTo first text old before state rest after) (behind : RunState D d) where
    -- what that comes to: fewer lines are left, or the run is over
    abbrev pub Leads : RunState D d → Sunk → Next → Type 0
    Leads new later (next.Lines others) =
        DoneTo first text old before new others.now later × (length others.now < length rest)
    Leads new later (next.Over ran) = RunsLines text first old new.writers before later ran

    halted-so : (why : Halt) (new : RunState D d) (later : Sunk)
        → StepsHalted (synced_course (course_from 1 first (lines text))) old behind.writers before later why
        → new ≡ behind → Leads new later (next.Over (Err why))
    halted-so why new later halted same =
        subst (λ (s : RunState D d). RunsLines text first old s.writers before later (Err why)) (sym same) (record {
          steps = halted;
          synced = tt;
          refused = tt;
          closed = tt;
        })

    over-so : (ran : Ran) (new : RunState D d) (later : Sunk) (following : Next)
        → RunsLines text first old behind.writers before after ran → new ≡ behind → later ≡ after
        → following ≡ next.Over ran → Leads new later following
    over-so ran new later following lines_run same written is =
        subst (λ (f : Next). Leads new later f) (sym is)
        (subst (λ (sink : Sunk). RunsLines text first old new.writers before sink ran) (sym written)
        (subst (λ (s : RunState D d). RunsLines text first old s.writers before after ran) (sym same) lines_run))

    sync-leads : (count : ℕ) (others : Bor (List ℕ)) (wrote : WritesSegment state rest behind (Ok (ended.Sync count others)))
        (new : RunState D d) (later : Sunk) (following : Next)
        → FollowsSync behind count others.now after later new following → Leads new later following
    sync-leads count others wrote new later (next.Lines left) follows = (
      subst (λ (s : RunState D d). LinesDone first text old before left.now s.number s.browser s.writers later)
          (sym follows.1)
          (subst (λ bytes. LinesDone first text old before bytes count behind.browser behind.writers later)
          (sym follows.0)
          (line-done first text old before rest state.number state.browser state.writers after h behind.writers
          behind.browser (Ok (ended.Sync count others)) wrote.steps (ended.Sync count others) refl wrote.ends count
          others.now refl later
          (subst (λ (s : RunState D d). StepsDone (Say ∷ []) behind.writers s.writers after later) follows.1
          follows.2) wrote.further.0)),
      omega (arith, wrote.further.1, ap length follows.0),
    )
    sync-leads count others wrote new later (next.Over (Ok refused)) follows = absurd follows
    sync-leads count others wrote new later (next.Over (Err why)) follows =
        halted-so why new later
        (line-halted first text old before rest state.number state.browser state.writers after h behind.writers
        behind.browser (Ok (ended.Sync count others)) wrote.steps (ended.Sync count others) refl wrote.ends count
        others.now refl later why
        (subst (λ (s : RunState D d). StepsHalted (Say ∷ []) behind.writers s.writers after later why) follows.0
        follows.1)) follows.0

    pub leads : (written : Result Ended Halt) → WritesSegment state rest behind written → (new : RunState D d)
        (later : Sunk) (following : Next) → Follows behind written after later new following
        → Leads new later following
    leads (Ok (ended.Sync count others)) wrote new later following follows =
        sync-leads count others wrote new later following follows
    leads (Ok (ended.Script refused)) wrote new later following follows =
        let all = lines-over first text old before rest state.number state.browser state.writers after h
        behind.writers behind.browser (Ok (ended.Script refused)) wrote.steps (ended.Script refused) refl wrote.ends
        wrote.synced refused refl in
        over-so (Ok refused) new later following (record {
          steps = all.steps;
          synced = all.synced;
          refused = all.refused_is;
          closed = all.closed;
        }) follows.0 follows.1 follows.2
    leads (Err why) wrote new later following follows =
        over-so (Err why) new later following (record {
          steps = segment-halted first text old before rest state.number state.browser state.writers after h
              behind.writers behind.browser (Err why) wrote.steps why refl;
          synced = tt;
          refused = tt;
          closed = tt;
        }) follows.0 follows.1 follows.2

    pub lines-led : (written : Result Ended Halt) → WritesSegment state rest behind written → (new : RunState D d)
        (later : Sunk) (following : Next) → Follows behind written after later new following → (others : Bor (List ℕ))
        → following ≡ next.Lines others
        → DoneTo first text old before new others.now later × (length others.now < length rest)
    lines-led written wrote new later following follows others is =
        subst (λ (f : Next). Leads new later f) is (leads written wrote new later following follows)

    pub over-led : (written : Result Ended Halt) → WritesSegment state rest behind written → (new : RunState D d)
        (later : Sunk) (following : Next) → Follows behind written after later new following → (ran : Ran)
        → following ≡ next.Over ran → RunsLines text first old new.writers before later ran
    over-led written wrote new later following follows ran is =
        subst (λ (f : Next). Leads new later f) is (leads written wrote new later following follows)
