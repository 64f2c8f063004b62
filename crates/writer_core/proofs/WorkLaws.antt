-- What a job makes of a run's journal: it is done, or stopped as the account says; a sync makes the disk hold all
-- commands. Jobs that are done one after another are done as one list, and a refusal refuses all that was to follow.
use Rattle.std.proofs.Common.{◌≡◌, ℕ, suc, ◌+◌, ◌-◌, ◌≤◌, ◌<◌, ◌^◌, Bool, true, false, if◌then◌else◌, List, [], ◌∷◌, ◌++◌, length, Some, None, Result, Ok, Err, MatchBool, append_assoc, refl, sym, ap, ◌∙◌, subst, arith}
use Rattle.std.proofs.lemmas.List.{append-nil, length-append}
use Rattle.machine_law.specs.Kind.{Kind}
use Rattle.session_disk.specs.Moments.{Moment, IsNewestBelow}
use Rattle.session_disk.specs.Histories.{History, Leaves}
use Rattle.fresh_files.specs.Fresh.{fresh, frame_length}
use Rattle.fresh_files.specs.Lay.{IsAbove}
use Rattle.fresh_files.specs.Rotation.{IsFreshStamp}
use Rattle.fresh_files.proofs.CommandLaws.{machine_of}
use Rattle.log_writer.specs.Waiting.{Waiting, waiting_in}
use Rattle.log_writer.specs.Account.{Account, Outcome, Becomes, Needs, state_of, length_of, spared, compacted, synced, written}
use Rattle.log_writer.specs.Account as account
use Rattle.log_writer.specs.Journals.{JournalAdvances, JournalRuns}
use Rattle.log_writer.specs.Steps.{is_due, extent_before, needed}
use Rattle.log_writer.specs.Answers.{LogAnswers, LogMakes, Answers, Makes, TellsAll, behind_spared, compact_call, compacts, sync_call, syncs, write_call, writes}
use Rattle.log_writer.specs.Log.{Log, log, IsLeft, WhereRuns, LeavesGood, RestsAfter}
use Rattle.log_writer.specs.Log as journal
use Rattle.log_writer.specs.declared.journal.Journal.{Journal}
use Rattle.machine_law.specs.declared.machine.Machine as machine
use Rattle.session_disk.specs.declared.disk.SessionDisk as disk
use Rattle.log_writer.specs.declared.limits.Limits.{Limits}
use Rattle.log_writer.specs.declared.journal.Present.{Present}
use Rattle.log_writer.specs.declared.fault.JournalFault.{JournalFault}
use Rattle.log_writer.specs.declared.fault.JournalFault.TheVariants as fault
use Rattle.log_writer.proofs.ForeignLaws.{leaves_then, longer_left, now_left}
use Rattle.log_writer.proofs.DueLaws.{due_same}
use Rattle.log_writer.proofs.RoomLaws.{length_before}
use Rattle.writer_core.specs.Course.{Options, Goes, IsTied, from_account, after_job, after_jobs, after_outcome, options}
use Rattle.writer_core.specs.Jobs.{commands, commands_of}
use Rattle.writer_core.specs.Working.{Beginning, Continues, Ends, GoesOn, LeftSince, Stops, Syncs, WorkEnds, Works, course}
use Rattle.writer_core.specs.declared.item.Job.{Job}
use Rattle.writer_core.specs.declared.item.Job.TheVariants as job
use Rattle.writer_core.proofs.CourseLaws.{IsLimited, after_append, goes_fresh, goes_same, is_last, limited_compacted, limited_fits, limited_made, limited_over, limited_written, meets, newest_own, newest_same, not_last, fresh_more, stays_last, stays_long, tied_more}
use Rattle.writer_core.proofs.HoldingLaws.{holds_all}
use Rattle.writer_core.proofs.JobLaws.{commands-append, commands_more}

becomes_one : {S C : Type 0} (a next : Account S C) → Becomes a ≡ Becomes next → next ≡ a
becomes_one a next e = cc

module _ {S C : Type 0} (kind : Kind S C) where
  pub course_more : (b : Beginning S) (done more : List (Job C)) → course kind b (done ++ more) ≡ after_jobs kind b.options b.greatest more (course kind b done)
  course_more b done more = after_append kind b.options b.greatest done more (after_outcome kind b.options b.greatest 0 (account.opened kind b.options.max_file b.first))

  -- what stopped some jobs stops them and more
  pub stops_longer : (b : Beginning S) (done more : List (Job C)) (why : JournalFault) → Stops (course kind b done) why → Stops (course kind b (done ++ more)) why
  stops_longer b done more (fault.TooLong n) e = course_more b done more ∙ ap (after_jobs kind b.options b.greatest more) e ∙ stays_long kind b.options b.greatest more n
  stops_longer b done more (fault.LastStamp stamp) e = course_more b done more ∙ ap (after_jobs kind b.options b.greatest more) e ∙ stays_last kind b.options b.greatest more
  stops_longer b done more (fault.AlreadyFailed first) e = tt
  stops_longer b done more fault.Disk e = tt
  stops_longer b done more fault.Memory e = tt

  -- what a crash left is good for more jobs
  pub left_longer : (b : Beginning S) (now : History) (done more : List (Job C)) → LeftSince kind b now done → LeftSince kind b now (done ++ more)
  left_longer b now done more left =
      subst (λ (q : List C). Leaves b.entry now (IsLeft kind b.entry.now b.first q)) (sym (commands-append done more)) (longer_left kind b.entry now b.first (commands done) (commands more) left)

  pub ends_longer : (b : Beginning S) (now : History) (done more : List (Job C)) (why : JournalFault) → Ends kind b now done why → Ends kind b now (done ++ more) why
  ends_longer b now done more why ends = record { left = left_longer b now done more ends.left; stops = stops_longer b done more why ends.stops }

  -- one job more of a journal that writes on

  module _ (b : Beginning S) (old : History) (present : Present S) (w : Waiting C) (done : List (Job C)) (on : Continues kind b old present w done) (todo : Job C) where
    one_more : course kind b (done ++ todo ∷ []) ≡ from_account kind b.options b.greatest todo on.account
    one_more = course_more b done (todo ∷ []) ∙ ap (after_job kind b.options b.greatest todo) on.is

    left_then : (new : History) → Leaves old new (IsLeft kind old.now b.first (commands done)) → LeftSince kind b new (done ++ todo ∷ [])
    left_then new crash =
        subst (λ (q : List C). Leaves b.entry new (IsLeft kind b.entry.now b.first q)) (sym (commands_more done todo))
        (leaves_then kind b.entry old new b.first (commands done) (commands_of todo) present w.bytes on.account on.runs.holds on.left (longer_left kind old new b.first (commands done) (commands_of todo) crash))

    -- the journal writes on with the next account
    abbrev continues : (new : History) (next : Present S) (left : Waiting C) (a : Account S C) → from_account kind b.options b.greatest todo on.account ≡ Goes a → a.made ≤ on.account.made + 1 → IsTied b.greatest a.made next.stamp →
        new.now.creates + on.account.made ≡ old.now.creates + a.made → JournalRuns kind new.now next left a b.first (commands done ++ commands_of todo) → Leaves old new (IsLeft kind old.now b.first (commands done)) →
        Continues kind b new next left (done ++ todo ∷ [])
    continues new next left a goes few tied made runs crash = record {
      some = on.some;
      newest = on.newest;
      account = a;
      is = one_more ∙ goes;
      made = omega (arith, on.made, made);
      few = omega (arith, few, on.few, length-append done (todo ∷ []));
      tied = tied;
      runs = subst (λ (q : List C). JournalRuns kind new.now next left a b.first q) (sym (commands_more done todo)) runs;
      left = left_then new crash;
    }

    -- a call whose outcome is an account within the limit of a file
    module _ (limits : Limits) (rotates : Bool) (bytes : ℕ) (outcome : Outcome S C) (limited : IsLimited kind limits.max_file on.account.made rotates bytes outcome)
        (comes : from_account kind b.options b.greatest todo on.account ≡ after_outcome kind b.options b.greatest on.account.made outcome) where
      -- the stamp and the course, by whether a rotation came
      tied_then : (IsMoment : ℕ → Type 0) (next : Account S C) (stamp : ℕ) (t : Bool) → rotates ≡ t → outcome ≡ Becomes next → stamp < 2 ^ 63 →
          MatchBool rotates (IsFreshStamp IsMoment old.now stamp × IsAbove stamp old.now) (stamp ≡ present.stamp) →
          IsTied b.greatest next.made stamp × (after_outcome kind b.options b.greatest on.account.made (Becomes next) ≡ Goes next) × (next.made ≤ on.account.made + 1)
      tied_then IsMoment next stamp true due is bound h =
          let both : IsFreshStamp IsMoment old.now stamp × IsAbove stamp old.now = rw due at h in
          let newest = newest_own kind old.now present w.bytes on.account on.runs.holds in
          let value = fresh_more IsMoment old.now stamp present.stamp newest both.0 in
          let made : next.made ≡ suc on.account.made = limited_made kind limits.max_file on.account.made rotates bytes outcome limited next is ∙ ap (λ (r : Bool). if r then suc on.account.made else on.account.made) due in (
            subst (λ (n : ℕ). IsTied b.greatest n stamp) (sym made) (tied_more b.greatest on.account.made both.0.clock present.stamp stamp both.0.bound value on.tied),
            goes_fresh kind b.options b.greatest on.account.made next (not_last b.greatest on.account.made present.stamp (omega (arith, value, bound)) on.tied),
            omega (arith, made),
          )
      tied_then IsMoment next stamp false due is bound h =
          let stays : stamp ≡ present.stamp = rw due at h in
          let made : next.made ≡ on.account.made = limited_made kind limits.max_file on.account.made rotates bytes outcome limited next is ∙ ap (λ (r : Bool). if r then suc on.account.made else on.account.made) due in (
            subst (λ (n : ℕ). IsTied b.greatest n stamp) (sym made) (subst (IsTied b.greatest on.account.made) (sym stays) on.tied),
            goes_same kind b.options b.greatest on.account.made next (omega (arith, made)),
            omega (arith, made),
          )

      limited_goes : (IsMoment : ℕ → Type 0) (new : History) (next : Present S) (left : Waiting C) → next.stamp < 2 ^ 63 →
          MatchBool rotates (IsFreshStamp IsMoment old.now next.stamp × IsAbove next.stamp old.now) (next.stamp ≡ present.stamp) →
          JournalAdvances kind old.now new.now next left on.account outcome b.first (commands done ++ commands_of todo) →
          Leaves old new (IsLeft kind old.now b.first (commands done)) → Continues kind b new next left (done ++ todo ∷ [])
      limited_goes IsMoment new next left bound stamps advances crash =
          let t = tied_then IsMoment advances.next next.stamp rotates refl advances.is bound stamps in
          continues new next left advances.next (comes ∙ ap (after_outcome kind b.options b.greatest on.account.made) advances.is ∙ t.1) t.2 t.0 advances.made advances.runs crash

      stops_at : (T : Type 0) (why : JournalFault) (IsMoment : ℕ → Type 0) (log new : Log S C) → length (done ++ todo ∷ []) < 2 ^ 61 → log.limits ≡ limits → log.history ≡ old → present.stamp < 2 ^ 63 →
          LogAnswers {T = T} (record { rotates = rotates; needs = Some bytes }) log new (Err why) → LogMakes {T = T} (record { rotates = rotates; needs = Some bytes }) IsMoment log new (Err why) →
          Stops (course kind b (done ++ todo ∷ [])) why
      stops_at T (fault.TooLong n) IsMoment log new few at here bound a makes =
          let is : bytes ≡ n = (let some = a.1 in cc) in
          let more : limits.max_file < bytes = (let long = a.2 in let most = ap (λ (l : Limits). l.max_file) at in omega arith) in
          one_more ∙ comes ∙ ap (after_outcome kind b.options b.greatest on.account.made) (limited_over kind limits.max_file on.account.made rotates bytes outcome limited more ∙ ap Needs is)
      stops_at T (fault.LastStamp stamp) IsMoment log new few at here bound a makes =
          let due = a.1 in
          let last = a.2 in
          let small : bytes ≤ limits.max_file = (let fits = a.3 in let most = ap (λ (l : Limits). l.max_file) at in omega arith) in
          let newest : IsNewestBelow old.now.standing None (Some stamp) = subst (λ (h : History). IsNewestBelow h.now.standing None (Some stamp)) here makes in
          let own : Some stamp ≡ Some present.stamp = newest_same old.now.standing (Some stamp) (Some present.stamp) newest (newest_own kind old.now present w.bytes on.account on.runs.holds) in
          let at_last : present.stamp ≡ 2 ^ 63 - 1 = (let same_stamp : stamp ≡ present.stamp = cc in omega (arith, same_stamp, last)) in
          let made : limited.next.made ≡ suc on.account.made = limited.counted ∙ ap (λ (r : Bool). if r then suc on.account.made else on.account.made) due in
          one_more ∙ comes ∙ ap (after_outcome kind b.options b.greatest on.account.made) (limited_fits kind limits.max_file on.account.made rotates bytes outcome limited small)
          ∙ meets kind b.options b.greatest on.account.made limited.next (omega (arith, made)) (is_last b.greatest on.account.made present.stamp (omega (arith, on.few, few, length-append done (todo ∷ []))) at_last on.tied)
      stops_at T (fault.AlreadyFailed first) IsMoment log new few at here bound a makes = tt
      stops_at T fault.Disk IsMoment log new few at here bound a makes = tt
      stops_at T fault.Memory IsMoment log new few at here bound a makes = tt

  -- the outcomes of a command and of a compaction, by what the journal knows

  module _ (limits : Limits) (m : Moment) (present : Present S) (w : Waiting C) (a : Account S C) (first : S) (q : List C) (r : JournalRuns kind m present w a first q) where
    write_limited : (c : C) → IsLimited kind limits.max_file a.made (is_due limits (extent_before kind present w c) (frame_length kind c)) (needed kind limits present w c) (written kind limits.every limits.max_file a c)
    write_limited c = subst (λ (t : Bool). IsLimited kind limits.max_file a.made t (needed kind limits present w c) (written kind limits.every limits.max_file a c)) (sym due_as)
        (subst (λ (n : ℕ). IsLimited kind limits.max_file a.made (account.is_due kind limits.every limits.max_file a c) n (written kind limits.every limits.max_file a c)) (sym needs_as) (limited_written kind limits.every limits.max_file a c))
      where
        due_as : is_due limits (extent_before kind present w c) (frame_length kind c) ≡ account.is_due kind limits.every limits.max_file a c
        due_as = due_same kind limits m present w a first q r c

        needs_as : needed kind limits present w c ≡ (if account.is_due kind limits.every limits.max_file a c then length (fresh kind (state_of kind a)) else length_of kind (spared kind a c)) + frame_length kind c
        needs_as =
            ap (λ (t : Bool). (if t then length (fresh kind present.state) else (extent_before kind present w c).length) + frame_length kind c) due_as
            ∙ ap (λ (s : S). (if account.is_due kind limits.every limits.max_file a c then length (fresh kind s) else (extent_before kind present w c).length) + frame_length kind c) r.holds.state
            ∙ ap (λ (n : ℕ). (if account.is_due kind limits.every limits.max_file a c then length (fresh kind (state_of kind a)) else n) + frame_length kind c) (length_before kind m present w a first q r c)

    compact_limited : IsLimited kind limits.max_file a.made true (length (fresh kind present.state)) (compacted kind limits.max_file a)
    compact_limited = subst (λ (s : S). IsLimited kind limits.max_file a.made true (length (fresh kind s)) (compacted kind limits.max_file a)) (sym r.holds.state) (limited_compacted kind limits.max_file a)

-- a job of a journal

module _ {M D S C : Type 0} {m : machine.Ghosts M S C} {d : disk.Ghosts D} (old new : Journal M D S C m d) (works : old.failed ≡ None) where
  -- a call whose outcome is an account within the limit of a file
  limited_ends : {T : Type 0} (result : Result T JournalFault) (IsMoment : ℕ → Type 0) (todo : Job C) (rotates : Bool) (bytes : ℕ) (outcome : Account S C → Outcome S C) (b : Beginning S) (done : List (Job C)) → d.modelled → length (done ++ todo ∷ []) < 2 ^ 61 →
      (on : GoesOn b old done) → IsLimited m.kind old.limits.max_file on.account.made rotates bytes (outcome on.account) →
      from_account m.kind b.options b.greatest todo on.account ≡ after_outcome m.kind b.options b.greatest on.account.made (outcome on.account) →
      Answers (record { rotates = rotates; needs = Some bytes }) old new result → Makes (record { rotates = rotates; needs = Some bytes }) IsMoment old new result →
      WhereRuns old (journal.GoesOn old new outcome (commands_of todo) result) → WhereRuns old (LeavesGood old new) → WorkEnds b new (done ++ todo ∷ []) result
  limited_ends (Ok x) IsMoment todo rotates bytes outcome b done modelled few on limited comes answers makes follows crash =
      limited_goes m.kind b (d.history old.disk) old.present (waiting_in old.pending) done on todo old.limits rotates bytes (outcome on.account) limited comes IsMoment (d.history new.disk) new.present (waiting_in new.pending) new.in_range
      (makes modelled) (follows modelled works b.first (commands done) on.account on.runs) (crash modelled works b.first (commands done) on.account on.runs)
  limited_ends {T} (Err why) IsMoment todo rotates bytes outcome b done modelled few on limited comes answers makes follows crash = record {
    left = left_then m.kind b (d.history old.disk) old.present (waiting_in old.pending) done on todo (d.history new.disk) (crash modelled works b.first (commands done) on.account on.runs);
    stops = stops_at m.kind b (d.history old.disk) old.present (waiting_in old.pending) done on todo old.limits rotates bytes (outcome on.account) limited comes T why IsMoment (log old) (log new) few refl refl old.in_range answers (makes modelled);
  }

  pub write_works : {T : Type 0} (result : Result T JournalFault) (IsMoment : ℕ → Type 0) (c : C) → Answers (write_call old c) old new result → Makes (write_call old c) IsMoment old new result →
      WhereRuns old (journal.GoesOn old new (writes old c) (c ∷ []) result) → WhereRuns old (LeavesGood old new) → Works (job.Write c ∷ []) old new result
  write_works result IsMoment c answers makes follows crash = λ modelled b done same few on.
      limited_ends result IsMoment (job.Write c) (is_due old.limits (behind_spared old c) (frame_length m.kind c)) (needed m.kind old.limits old.present (waiting_in old.pending) c) (writes old c) b done modelled few on
      (write_limited m.kind old.limits (d.history old.disk).now old.present (waiting_in old.pending) on.account b.first (commands done) on.runs c)
      (ap (λ (o : Options). after_outcome m.kind b.options b.greatest on.account.made (written m.kind o.every o.max_file on.account c)) same) answers makes follows crash

  pub compact_works : {T : Type 0} (result : Result T JournalFault) (IsMoment : ℕ → Type 0) → Answers (compact_call old) old new result → Makes (compact_call old) IsMoment old new result →
      WhereRuns old (journal.GoesOn old new (compacts old) [] result) → WhereRuns old (LeavesGood old new) → Works (job.Compact ∷ []) old new result
  compact_works result IsMoment answers makes follows crash = λ modelled b done same few on.
      limited_ends result IsMoment job.Compact true (length (fresh m.kind old.present.state)) (compacts old) b done modelled few on
      (compact_limited m.kind old.limits (d.history old.disk).now old.present (waiting_in old.pending) on.account b.first (commands done) on.runs)
      (ap (λ (o : Options). after_outcome m.kind b.options b.greatest on.account.made (compacted m.kind o.max_file on.account)) same) answers makes follows crash

  -- a sync that was refused asked for no file
  sync_stops : (T : Type 0) (b : Beginning S) (jobs : List (Job C)) (why : JournalFault) (log new : Log S C) → LogAnswers {T = T} sync_call log new (Err why) → Stops (course m.kind b jobs) why
  sync_stops T b jobs (fault.TooLong n) log new a = absurd (let none = a.1 in cc)
  sync_stops T b jobs (fault.LastStamp stamp) log new a = absurd (let none = a.1 in cc)
  sync_stops T b jobs (fault.AlreadyFailed first) log new a = tt
  sync_stops T b jobs fault.Disk log new a = tt
  sync_stops T b jobs fault.Memory log new a = tt

  abbrev sync_goes : {T : Type 0} (x : T) (b : Beginning S) (done : List (Job C)) → d.modelled → (on : GoesOn b old done) → new.present ≡ record old.present { told = old.present.count } →
      WhereRuns old (journal.GoesOn old new (syncs old) [] (Ok x)) → WhereRuns old (LeavesGood old new) → GoesOn b new (done ++ job.Sync ∷ [])
  sync_goes x b done modelled on told follows crash =
      let advances = follows modelled works b.first (commands done) on.account on.runs in
      let same : advances.next ≡ synced m.kind on.account = becomes_one (synced m.kind on.account) advances.next advances.is in
      continues m.kind b (d.history old.disk) old.present (waiting_in old.pending) done on job.Sync (d.history new.disk) new.present (waiting_in new.pending) (synced m.kind on.account) refl (omega arith)
      (subst (IsTied b.greatest on.account.made) (sym (ap (λ (p : Present S). p.stamp) told)) on.tied) (advances.made ∙ ap (λ (a : Account S C). (d.history old.disk).now.creates + a.made) same)
      (subst (λ (a : Account S C). JournalRuns m.kind (d.history new.disk).now new.present (waiting_in new.pending) a b.first (commands done ++ [])) same advances.runs) (crash modelled works b.first (commands done) on.account on.runs)

  pub sync_works : {T : Type 0} (result : Result T JournalFault) → Answers sync_call old new result → TellsAll old new result → WhereRuns old (journal.GoesOn old new (syncs old) [] result) → WhereRuns old (LeavesGood old new) → Works (job.Sync ∷ []) old new result
  sync_works (Ok x) answers told follows crash = λ modelled b done same few on. sync_goes x b done modelled on told follows crash
  sync_works {T} (Err why) answers told follows crash = λ modelled b done same few on. record {
    left = left_then m.kind b (d.history old.disk) old.present (waiting_in old.pending) done on job.Sync (d.history new.disk) (crash modelled works b.first (commands done) on.account on.runs);
    stops = sync_stops T b (done ++ job.Sync ∷ []) why (log old) (log new) answers;
  }

  pub sync_holds : {T : Type 0} (result : Result T JournalFault) → TellsAll old new result → WhereRuns old (journal.GoesOn old new (syncs old) [] result) → WhereRuns old (RestsAfter new result) → WhereRuns old (LeavesGood old new) → Syncs job.Sync old new result
  sync_holds (Ok x) told follows rests crash = λ modelled b done few on.
      holds_all m.kind (machine_of m.kind m.lawful) b (d.history new.disk) new.present (waiting_in new.pending) (done ++ job.Sync ∷ []) (omega (arith, few, length-append done (job.Sync ∷ []))) (sync_goes x b done modelled on told follows crash)
      (rests modelled works b.first (commands done) on.account on.runs) refl (ap (λ (p : Present S). p.told) told ∙ sym (ap (λ (p : Present S). p.count) told))
  sync_holds (Err why) told follows rests crash = λ modelled b done few on. tt

module _ {M D S C : Type 0} {m : machine.Ghosts M S C} {d : disk.Ghosts D} where
  -- no job
  pub nothing_works : {T : Type 0} (x : T) (old : Journal M D S C m d) → Works (job.Nothing ∷ []) old old (Ok x)
  nothing_works x old = λ modelled b done same few on.
      continues m.kind b (d.history old.disk) old.present (waiting_in old.pending) done on job.Nothing (d.history old.disk) old.present (waiting_in old.pending) on.account refl (omega arith) on.tied refl
      (subst (λ (q : List C). JournalRuns m.kind (d.history old.disk).now old.present (waiting_in old.pending) on.account b.first q) (sym (append-nil (commands done))) on.runs)
      (now_left m.kind (d.history old.disk) old.present (waiting_in old.pending) on.account b.first (commands done) on.runs)

  -- jobs one after another are done as one list
  pub works_then : {T U : Type 0} (x : T) (more later : List (Job C)) (old mid new : Journal M D S C m d) (result : Result U JournalFault) → mid.limits ≡ old.limits → Works more old mid (Ok x) → Works later mid new result → Works (more ++ later) old new result
  works_then x more later old mid new result limits one two = λ modelled b done same few on.
      let parts : (done ++ more) ++ later ≡ done ++ (more ++ later) = append_assoc done more later in
      let few_first : length (done ++ more) < 2 ^ 61 = omega (arith, few, length-append done (more ++ later), length-append more later, length-append done more) in
      let few_all : length ((done ++ more) ++ later) < 2 ^ 61 = subst (λ (x : List (Job C)). length x < 2 ^ 61) (sym parts) few in
      subst (λ (x : List (Job C)). WorkEnds b new x result) parts (two modelled b (done ++ more) (same ∙ ap options (sym limits)) few_all (one modelled b done same few_first on))

  -- what was refused stays refused, whatever was to follow
  pub works_longer : (T U : Type 0) (more later : List (Job C)) (old new : Journal M D S C m d) (why : JournalFault) → Works {T = T} more old new (Err why) → Works {T = U} (more ++ later) old new (Err why)
  works_longer T U more later old new why one = λ modelled b done same few on.
      let parts : (done ++ more) ++ later ≡ done ++ (more ++ later) = append_assoc done more later in
      let few_first : length (done ++ more) < 2 ^ 61 = omega (arith, few, length-append done (more ++ later), length-append more later, length-append done more) in
      subst (λ (x : List (Job C)). Ends m.kind b (d.history new.disk) x why) parts (ends_longer m.kind b (d.history new.disk) (done ++ more) later why (one modelled b done same few_first on))
