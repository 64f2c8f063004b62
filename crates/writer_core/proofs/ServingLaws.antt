-- A worker's turns one after another, and what each leaves on the board.
use Rattle.std.proofs.Common.{◌≡◌, ℕ, ◌≤◌, max, Bool, true, false, true≢false, ◌||◌, List, [], ◌∷◌, ◌++◌, length, Option, Some, None, IsSome, Result, Ok, Err, append_assoc, refl, sym, ap, ◌∙◌, subst, arith}
use Rattle.std.proofs.lemmas.List.{append-nil, length-append}
use Rattle.machine_law.specs.declared.machine.Machine as machine
use Rattle.session_disk.specs.declared.disk.SessionDisk as disk
use Rattle.session_disk.specs.declared.family.Family.TheVariants.{Session, Tabs}
use Rattle.log_writer.specs.declared.journal.Journal.{Journal}
use Rattle.log_writer.specs.declared.fault.JournalFault.{JournalFault}
use Rattle.log_writer.specs.declared.journal.Present.{Present}
use Rattle.command_queue.specs.declared.board.AckBoard.{AckBoard}
use Rattle.command_queue.specs.declared.board.Posted.{Posted}
use Rattle.command_queue.specs.declared.queue.CommandQueue.{CommandQueue}
use Rattle.command_queue.specs.declared.queue.WriterPass.{WriterPass}
use Rattle.command_queue.specs.Passes.{IsWriterOf, taken}
use Rattle.command_queue.specs.Seats.{IsWriterSeatOf, posted, zeros}
use Rattle.writer_core.specs.Ends.{is_end, is_sync, has_end, has_sync}
use Rattle.writer_core.specs.Handling.{Does, Turn, Done, Refused, Skipped, Turns, turn_at, turn_of}
use Rattle.writer_core.specs.InOrder.{AllDone, HandlesAll}
use Rattle.writer_core.specs.Jobs.{session_job, tabs_job}
use Rattle.writer_core.specs.Serving.{Handled, IsAcknowledged, IsReport, Ran, Served, Serves, Turned, Unturned, answer}
use Rattle.writer_core.specs.Serving.{ended_by, posted_after, told_by_both}
use Rattle.writer_core.specs.Synced.{BothSynced}
use Rattle.writer_core.specs.Telling.{IsCounted, told_after}
use Rattle.writer_core.specs.declared.handling.Stopped.{Stopped}
use Rattle.writer_core.specs.declared.handling.Writers.{Writers}
use Rattle.writer_core.specs.declared.item.Item.{Item}
use Rattle.writer_core.specs.declared.item.Item.TheVariants as item
use Rattle.writer_core.specs.declared.item.Job.{Job}
use Rattle.writer_core.specs.declared.item.Job.TheVariants as job
use Rattle.writer_core.specs.declared.serving.Report.{Report}
use Rattle.writer_core.proofs.InOrderLaws.{handles_longer, handles_none, handles_one, handles_then}
use Rattle.writer_core.proofs.SyncedLaws.{both_synced_one, both_synced_then}

-- lists and items

module _ {A B : Type 0} where
  has_end_then : (items : List (Item A B)) (last : Item A B) → has_end items ≡ false → is_end last ≡ false → has_end (items ++ last ∷ []) ≡ false
  has_end_then [] last none is = rw is refl
  has_end_then (item.Session c ∷ items) last none is = has_end_then items last none is
  has_end_then (item.Tabs c ∷ items) last none is = has_end_then items last none is
  has_end_then (item.Sync ∷ items) last none is = has_end_then items last none is
  has_end_then (item.Compact ∷ items) last none is = has_end_then items last none is
  has_end_then (item.End ∷ items) last none is = absurd (true≢false none)

  synced_before : (items : List (Item A B)) (last : Item A B) → is_sync last ≡ false → has_sync (items ++ last ∷ []) ≡ true → has_sync items ≡ true
  synced_before [] last is has = absurd (true≢false (sym has ∙ rw is refl))
  synced_before (item.Session c ∷ items) last is has = synced_before items last is has
  synced_before (item.Tabs c ∷ items) last is has = synced_before items last is has
  synced_before (item.Sync ∷ items) last is has = refl
  synced_before (item.Compact ∷ items) last is has = synced_before items last is has
  synced_before (item.End ∷ items) last is has = synced_before items last is has

  is_the_end : (x : Item A B) → is_end x ≡ true → x ≡ item.End
  is_the_end (item.Session c) is = absurd (true≢false (sym is))
  is_the_end (item.Tabs c) is = absurd (true≢false (sym is))
  is_the_end item.Sync is = absurd (true≢false (sym is))
  is_the_end item.Compact is = absurd (true≢false (sym is))
  is_the_end item.End is = refl

-- what one turn makes of the numbers of a journal

module _ {M D S C : Type 0} {m : machine.Ghosts M S C} {d : disk.Ghosts D} where
  told_stays : {T : Type 0} (todo : Job C) (old new : Journal M D S C m d) (result : Result T JournalFault) → Does todo old new result → IsCounted old.present → old.present.told ≤ new.present.told
  told_stays (job.Write c) old new result does counted = omega (arith, does.counts.told)
  told_stays job.Sync old new (Ok x) does counted = omega (arith, does.counts.told, counted.0)
  told_stays job.Sync old new (Err why) does counted = omega (arith, does.counts.told)
  told_stays job.Compact old new result does counted = omega (arith, does.counts.told)
  told_stays job.Nothing old new result does counted = omega (arith, does.counts.told)

  turn_acknowledges : (todo : Job C) (old new : Journal M D S C m d) (turn : Turn) (n : ℕ) → Turns todo old new turn → IsAcknowledged old n → IsAcknowledged new n
  turn_acknowledges todo old new Done n does before = record { within = omega (arith, before.within, told_stays todo old new (Ok tt) does before.counted); counted = does.counts.counted before.counted }
  turn_acknowledges todo old new (Refused why) n does before = record { within = omega (arith, before.within, told_stays todo old new (Err why) does before.counted); counted = does.counts.counted before.counted }
  turn_acknowledges todo old new Skipped n same before = subst (λ (j : Journal M D S C m d). IsAcknowledged j n) (sym same) before

of_some : {T : Type 0} {x : T} → Some x ≡ None → ⊥
of_some e = true≢false (sym (subst IsSome e refl))

-- the last of two equal lists
module _ {T : Type 0} where
  abbrev last_or : T → List T → T
  last_or x [] = x
  last_or x (y ∷ ys) = last_or y ys

  last_or_then : (x y : T) (xs : List T) → last_or x (xs ++ y ∷ []) ≡ y
  last_or_then x y [] = refl
  last_or_then x y (z ∷ zs) = last_or_then z y zs

  same_last : (xs ys : List T) (x y : T) → xs ++ x ∷ [] ≡ ys ++ y ∷ [] → x ≡ y
  same_last xs ys x y e = sym (last_or_then x x xs) ∙ ap (last_or x) e ∙ last_or_then x y ys

  no_last : (ys : List T) (y : T) → [] ≡ ys ++ y ∷ [] → ⊥
  no_last ys y e = omega (arith, ap length e, length-append ys (y ∷ []))

-- one turn more

module _ {M N D S A T B : Type 0} {m : machine.Ghosts M S A} {n : machine.Ghosts N T B} {d : disk.Ghosts D} where
  -- a sync behind other items
  synced_last : (items : List (Item A B)) (last : Item A B) (old mid new : Writers M N D S A T B m n d) → AllDone items old mid
      → Turns (session_job last) mid.session new.session Done → Turns (tabs_job last) mid.tabs new.tabs Done
      → (before : List (Item A B)) → items ++ last ∷ [] ≡ before ++ item.Sync ∷ [] → BothSynced (items ++ last ∷ []) old new
  synced_last items last old mid new done session tabs before e =
      let is : last ≡ item.Sync = same_last items before last item.Sync e in
      both_synced_then items (last ∷ []) old mid new done
      (subst (λ (x : Item A B). BothSynced (x ∷ []) mid new) (sym is)
      (both_synced_one mid new (subst (λ (x : Item A B). Turns (session_job x) mid.session new.session Done) is session)
      (subst (λ (x : Item A B). Turns (tabs_job x) mid.tabs new.tabs Done) is tabs)))

  -- what is posted behind another item than a sync is what was posted before it
  still_posted : (mid new : Writers M N D S A T B m n d) (before after : Posted) → new.session.present.told ≡ mid.session.present.told → new.tabs.present.told ≡ mid.tabs.present.told
      → after ≡ before → before ≡ told_by_both mid before.ended → after ≡ told_by_both new after.ended
  still_posted mid new before after session tabs same was =
      same ∙ was ∙ (λ i. record { session = sym session i; tabs = sym tabs i; ended = sym (ap (λ (p : Posted). p.ended) same) i })

  posts_last : (items : List (Item A B)) (last : Item A B) (old mid new : Writers M N D S A T B m n d) (before after : Posted) → Handled items old None mid before → Turned last mid before None new after
      → has_sync (items ++ last ∷ []) ≡ true → after ≡ told_by_both new after.ended
  posts_last items (item.Session c) old mid new before after so_far turned has = still_posted mid new before after turned.session.counts.told turned.tabs.counts.told turned.posts (so_far.posts refl (synced_before items (item.Session c) refl has))
  posts_last items (item.Tabs c) old mid new before after so_far turned has = still_posted mid new before after turned.session.counts.told turned.tabs.counts.told turned.posts (so_far.posts refl (synced_before items (item.Tabs c) refl has))
  posts_last items item.Sync old mid new before after so_far turned has = turned.posts ∙ ap (told_by_both new) (sym (ap (λ (p : Posted). p.ended) turned.posts))
  posts_last items item.Compact old mid new before after so_far turned has = still_posted mid new before after turned.session.counts.told turned.tabs.counts.told turned.posts (so_far.posts refl (synced_before items item.Compact refl has))
  posts_last items item.End old mid new before after so_far turned has = still_posted mid new before after turned.session.counts.told turned.tabs.counts.told turned.posts (so_far.posts refl (synced_before items item.End refl has))

  -- an item was handled behind those before it
  module _ (items : List (Item A B)) (last : Item A B) (old mid new : Writers M N D S A T B m n d) (before after : Posted) where
    handles_last : (stopped : Option Stopped) → Handled items old None mid before → Turned last mid before stopped new after → HandlesAll (items ++ last ∷ []) old new (answer stopped)
    handles_last stopped so_far turned = handles_then items (last ∷ []) old mid new (answer stopped) so_far.all
        (handles_one last mid new (answer stopped) so_far.all.session.answers.0 so_far.all.tabs.answers.0 turned.session turned.tabs)

    turned_then : (stopped : Option Stopped) → Handled items old None mid before → Turned last mid before stopped new after → Handled (items ++ last ∷ []) old stopped new after
    turned_then None so_far turned = record {
      all = handles_last None so_far turned;
      synced = λ others is none. synced_last items last old mid new so_far.all turned.session turned.tabs others is;
      posts = λ none has. posts_last items last old mid new before after so_far turned has;
    }
    turned_then (Some why) so_far turned = record {
      all = handles_last (Some why) so_far turned;
      synced = λ others is none. absurd (of_some none);
      posts = λ none has. absurd (of_some none);
    }

    -- and one behind a refusal wasn't
    stopped_then : (why : Stopped) → Handled items old (Some why) mid before → Handled (items ++ last ∷ []) old (Some why) mid before
    stopped_then why so_far = record {
      all = handles_longer items (last ∷ []) old mid why so_far.all;
      synced = λ others is none. absurd (of_some none);
      posts = λ none has. absurd (of_some none);
    }

  unturned : (items : List (Item A B)) (old mid new : Writers M N D S A T B m n d) (before after : Posted) (was stopped : Option Stopped) → Unturned mid before was stopped new after → Handled items old was mid before → Handled items old stopped new after
  unturned items old mid new before after was stopped same so_far =
      subst (λ (t : Option Stopped × Writers M N D S A T B m n d × Posted). Handled items old t.0 t.1 t.2) (λ i. (sym same.stays i, sym same.writers i, sym same.posts i)) so_far

  serves_then : (items : List (Item A B)) (last : Item A B) (old mid new : Writers M N D S A T B m n d) (before after : Posted) (was stopped : Option Stopped) → is_end last ≡ false
      → Handled items old was mid before → Serves last was mid before stopped new after → Handled (items ++ last ∷ []) old stopped new after
  serves_then items (item.Session c) old mid new before after None stopped is so_far serves = turned_then items (item.Session c) old mid new before after stopped so_far serves
  serves_then items (item.Tabs c) old mid new before after None stopped is so_far serves = turned_then items (item.Tabs c) old mid new before after stopped so_far serves
  serves_then items item.Sync old mid new before after None stopped is so_far serves = turned_then items item.Sync old mid new before after stopped so_far serves
  serves_then items item.Compact old mid new before after None stopped is so_far serves = turned_then items item.Compact old mid new before after stopped so_far serves
  serves_then items item.End old mid new before after was stopped is so_far serves = absurd (true≢false is)
  serves_then items (item.Session c) old mid new before after (Some why) stopped is so_far serves = unturned (items ++ item.Session c ∷ []) old mid new before after (Some why) stopped serves (stopped_then items (item.Session c) old mid new before after why so_far)
  serves_then items (item.Tabs c) old mid new before after (Some why) stopped is so_far serves = unturned (items ++ item.Tabs c ∷ []) old mid new before after (Some why) stopped serves (stopped_then items (item.Tabs c) old mid new before after why so_far)
  serves_then items item.Sync old mid new before after (Some why) stopped is so_far serves = unturned (items ++ item.Sync ∷ []) old mid new before after (Some why) stopped serves (stopped_then items item.Sync old mid new before after why so_far)
  serves_then items item.Compact old mid new before after (Some why) stopped is so_far serves = unturned (items ++ item.Compact ∷ []) old mid new before after (Some why) stopped serves (stopped_then items item.Compact old mid new before after why so_far)

  serves_end : (items : List (Item A B)) (last : Item A B) (old mid new : Writers M N D S A T B m n d) (before after : Posted) (was stopped : Option Stopped) → is_end last ≡ true
      → Handled items old was mid before → Serves last was mid before stopped new after → Handled items old stopped new after
  serves_end items (item.Session c) old mid new before after was stopped is so_far serves = absurd (true≢false (sym is))
  serves_end items (item.Tabs c) old mid new before after was stopped is so_far serves = absurd (true≢false (sym is))
  serves_end items item.Sync old mid new before after was stopped is so_far serves = absurd (true≢false (sym is))
  serves_end items item.Compact old mid new before after was stopped is so_far serves = absurd (true≢false (sym is))
  serves_end items item.End old mid new before after was stopped is so_far serves = unturned items old mid new before after was stopped serves so_far

  -- what a turn says where nothing is done, and where the item is handled
  pub end_serves : (last : Item A B) (was : Option Stopped) (old : Writers M N D S A T B m n d) (before : Posted) → is_end last ≡ true → Serves last was old before was old before
  end_serves (item.Session c) was old before is = absurd (true≢false (sym is))
  end_serves (item.Tabs c) was old before is = absurd (true≢false (sym is))
  end_serves item.Sync was old before is = absurd (true≢false (sym is))
  end_serves item.Compact was old before is = absurd (true≢false (sym is))
  end_serves item.End was old before is = record { writers = refl; posts = refl; stays = refl }

  pub stopped_serves : (last : Item A B) (why : Stopped) (old : Writers M N D S A T B m n d) (before : Posted) → Serves last (Some why) old before (Some why) old before
  stopped_serves (item.Session c) why old before = record { writers = refl; posts = refl; stays = refl }
  stopped_serves (item.Tabs c) why old before = record { writers = refl; posts = refl; stays = refl }
  stopped_serves item.Sync why old before = record { writers = refl; posts = refl; stays = refl }
  stopped_serves item.Compact why old before = record { writers = refl; posts = refl; stays = refl }
  stopped_serves item.End why old before = record { writers = refl; posts = refl; stays = refl }

  pub turned_serves : (last : Item A B) (old new : Writers M N D S A T B m n d) (before after : Posted) (stopped : Option Stopped) → is_end last ≡ false → Turned last old before stopped new after → Serves last None old before stopped new after
  turned_serves (item.Session c) old new before after stopped is turned = turned
  turned_serves (item.Tabs c) old new before after stopped is turned = turned
  turned_serves item.Sync old new before after stopped is turned = turned
  turned_serves item.Compact old new before after stopped is turned = turned
  turned_serves item.End old new before after stopped is turned = absurd (true≢false is)

  -- the turns of a worker so far, none of them by the end
  pub record TurnsSoFar (old : Writers M N D S A T B m n d) (pass : WriterPass (Item A B)) (r : Report M N D S A T B m n d) : Type 0 where
    pub items : List (Item A B)
    pub none_ends : has_end items ≡ false
    pub takes : taken r.pass ≡ taken pass ++ items
    pub handled : Handled items old r.stopped r.writers (posted r.seat)

  -- a report before any turn
  pub first_report : (q : CommandQueue (Item A B)) (b : AckBoard) (r : Report M N D S A T B m n d) → IsWriterOf q r.pass → IsWriterSeatOf b r.seat → posted r.seat ≡ zeros → r.stopped ≡ None
      → r.writers.session.failed ≡ None → r.writers.tabs.failed ≡ None → IsCounted r.writers.session.present → IsCounted r.writers.tabs.present → IsReport q b r
  first_report q b r pass seat none goes session_works tabs_work session_counted tabs_counted = record {
    pass = pass;
    posts = record {
      seat_is = seat;
      session = record { within = omega (arith, ap (λ (p : Posted). p.session) none); counted = session_counted };
      tabs = record { within = omega (arith, ap (λ (p : Posted). p.tabs) none); counted = tabs_counted };
      ended = ap (λ (p : Posted). p.ended) none ∙ ap ended_by (sym goes);
      works = λ same. (session_works, tabs_work);
    };
  }

  pub no_turn : (r : Report M N D S A T B m n d) → r.stopped ≡ None → r.writers.session.failed ≡ None → r.writers.tabs.failed ≡ None → TurnsSoFar r.writers r.pass r
  no_turn r goes session tabs = record {
    items = [];
    none_ends = refl;
    takes = sym (append-nil (taken r.pass));
    handled = subst (λ (stopped : Option Stopped). Handled [] r.writers stopped r.writers (posted r.seat)) (sym goes) (record {
      all = handles_none r.writers session tabs;
      synced = λ others is none. absurd (no_last others item.Sync is);
      posts = λ none has. absurd (true≢false (sym has));
    });
  }

  module _ (old : Writers M N D S A T B m n d) (pass : WriterPass (Item A B)) (was new : Report M N D S A T B m n d) (ends : Bool) (so_far : TurnsSoFar old pass was) (served : Served was new ends) where
    pub one_turn_more : ends ≡ false → TurnsSoFar old pass new
    one_turn_more is = record {
      items = so_far.items ++ served.item ∷ [];
      none_ends = has_end_then so_far.items served.item so_far.none_ends (sym served.ends_is ∙ is);
      takes = served.takes ∙ ap (λ items. items ++ served.item ∷ []) so_far.takes ∙ append_assoc (taken pass) so_far.items (served.item ∷ []);
      handled = serves_then so_far.items served.item old was.writers new.writers (posted was.seat) (posted new.seat) was.stopped new.stopped (sym served.ends_is ∙ is) so_far.handled served.serves;
    }

    pub last_turn : ends ≡ true → Ran old pass new
    last_turn is = record {
      items = so_far.items;
      none_ends = so_far.none_ends;
      takes = served.takes ∙ ap (λ items. items ++ served.item ∷ []) so_far.takes ∙ append_assoc (taken pass) so_far.items (served.item ∷ []) ∙ ap (λ (x : Item A B). taken pass ++ (so_far.items ++ x ∷ [])) (is_the_end served.item (sym served.ends_is ∙ is));
      handled = serves_end so_far.items served.item old was.writers new.writers (posted was.seat) (posted new.seat) was.stopped new.stopped (sym served.ends_is ∙ is) so_far.handled served.serves;
    }
