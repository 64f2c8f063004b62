-- A journal that writes on takes one more command, in the place of a last one that it covers or behind all that wait.
use Rattle.std.proofs.Common.{◌≡◌, ◌≢◌, ℕ, ◌+◌, ◌≤◌, List, [], ◌∷◌, ◌++◌, length, take, Option, Some, None, option_map, refl, sym, ap, ◌∙◌, subst, inl, inr, append_assoc, arith}
use Rattle.std.proofs.lemmas.Bool.{cases_eq, cases_lt}
use Rattle.std.proofs.lemmas.List.{length-append, length-take-le, take_all, take-append-le}
use Rattle.std.proofs.Math.Seq.{take-append_seam}
use Rattle.snss_frames.specs.Frame.{frame_bytes}
use Rattle.snss_frames.proofs.FrameLaws.{length-frame}
use Rattle.machine_law.specs.Kind.{Kind, fold}
use Rattle.session_disk.specs.Moments.{Standing, Moment, after_append}
use Rattle.session_disk.specs.Images.{Image, IsImage, MayGo, MayLeave, OnlyLeaves, as_it_reads}
use Rattle.file_rotation.specs.Recovery.{Recovers, IsGood}
use Rattle.file_rotation.proofs.WalkLaws.{All-append}
use Rattle.file_rotation.proofs.FoldLaws.{fold-append}
use Rattle.file_rotation.proofs.ChoiceLaws.{good_longer, recovers_one}
use Rattle.fresh_files.specs.Fresh.{frame_of, frames, fresh, IsWritten}
use Rattle.fresh_files.proofs.FileLaws.{file}
use Rattle.fresh_files.proofs.CommandLaws.{OfMachine, recovers_prefix, recovers_whole, good_whole}
use Rattle.log_writer.specs.Account.{Account, Outcome, added}
use Rattle.log_writer.specs.Account as account
use Rattle.log_writer.specs.Waiting.{Waiting, place_in, taken_at}
use Rattle.log_writer.specs.Steps.{extent_before, Takes}
use Rattle.log_writer.specs.Journals.{IsOlder, JournalHolds, JournalRuns, JournalAdvances, HasRoom}
use Rattle.log_writer.specs.declared.journal.Extent.{Extent}
use Rattle.log_writer.specs.declared.journal.Present.{Present}
use Rattle.log_writer.proofs.GrowthLaws.{MayLeave-same, changed_here, changed_other, image_prefix}
use Rattle.log_writer.proofs.JournalLaws.{frames-append, IsCutOf, image_cut}
use Rattle.log_writer.proofs.SparedLaws.{Stays, stays, stays_written, frames-push, length-frames-push, covered_step}

-- A moment as it reads is one of the images that a crash may leave.
reads_image : (m : Moment) → ((s : ℕ) (file : Standing) → m.standing s ≡ Some file → file.synced ≤ length file.bytes) → IsImage m (as_it_reads m)
reads_image m within = λ s. left s (m.standing s) refl
  where
    left : (s : ℕ) (stands : Option Standing) → m.standing s ≡ stands → MayLeave m s (option_map (λ (file : Standing). file.bytes) stands)
    left s None e = subst MayGo (sym e) tt
    left s (Some file) e =
        inl (file, e, record { kept = length file.bytes; synced_kept = within s file e; within = omega arith; prefix = sym (take_all (length file.bytes) file.bytes (omega arith)) })

module _ {S C : Type 0} (kind : Kind S C) (of_machine : OfMachine kind) (m : Moment) (present : Present S) (w : Waiting C) (a : Account S C) (first : S) (q : List C)
    (r : JournalRuns kind m present w a first q) (c : C) (s : Stays kind m present w a first q r c) (c_written : IsWritten kind c) where
  -- what waits in front of the command, its frame, and the commands with what waits
  abbrev front : List ℕ
  front = take (place_in kind w c) w.bytes

  abbrev frame : List ℕ
  frame = frame_bytes (frame_of kind c)

  abbrev kept : List C
  kept = r.holds.done ++ s.waiting

  abbrev appended : Moment
  appended = after_append present.stamp front m

  -- the file with what waits in front of the command
  in_file : r.holds.file.bytes ++ front ≡ file kind a.base kept
  in_file =
      ap (λ (x : List ℕ). x ++ front) r.holds.bytes ∙ ap (λ (x : List ℕ). (fresh kind a.base ++ frames kind r.holds.done) ++ x) s.bytes
      ∙ append_assoc (fresh kind a.base) (frames kind r.holds.done) (frames kind s.waiting)
      ∙ ap (λ (x : List ℕ). fresh kind a.base ++ x) (sym (frames-append kind r.holds.done s.waiting))

  more_file : r.holds.file.bytes ++ (front ++ frame) ≡ file kind a.base (kept ++ c ∷ [])
  more_file =
      sym (append_assoc r.holds.file.bytes front frame) ∙ ap (λ (x : List ℕ). x ++ frame) in_file
      ∙ append_assoc (fresh kind a.base) (frames kind kept) frame ∙ ap (λ (x : List ℕ). fresh kind a.base ++ x) (sym (frames-push kind kept c))

  more_state : fold kind a.base (kept ++ c ∷ []) ≡ fold kind first (q ++ c ∷ [])
  more_state =
      fold-append kind a.base kept (c ∷ []) ∙ covered_step kind of_machine a.base a.kept kept c s.all_but
      ∙ ap (λ (x : S). kind.step x c) (sym r.holds.state ∙ r.keeps.state) ∙ sym (fold-append kind first q (c ∷ []))

  -- where only what waits in front of the command is appended, a crash leaves what is good
  front_good : OnlyLeaves (IsGood kind first q) appended
  front_good = λ image is. r.keeps.images image (image_prefix present.stamp (place_in kind w c) w.bytes m r.holds.file image r.holds.stands is)

  grown : List ℕ → Standing → Standing
  grown more f = record f { bytes = f.bytes ++ more }

  grown_here : (more : List ℕ) → (after_append present.stamp more m).standing present.stamp ≡ Some (record r.holds.file { bytes = r.holds.file.bytes ++ more })
  unfolding grown
  grown_here more = changed_here (grown more) present.stamp m r.holds.file r.holds.stands

  grown_other : (more : List ℕ) (s : ℕ) → s ≢ present.stamp → (after_append present.stamp more m).standing s ≡ m.standing s
  unfolding grown
  grown_other more s away = changed_other (grown more) present.stamp s m away

  reads_left : IsImage appended (as_it_reads appended)
  reads_left = reads_image appended λ s file e. elim (cases_eq s present.stamp) [
    | inl same ↦
        let own : record r.holds.file { bytes = r.holds.file.bytes ++ front } ≡ file = (let here = grown_here front in let at = ap appended.standing same in cc) in
        omega (arith, r.holds.within, length-append r.holds.file.bytes front, ap (λ (f : Standing). f.synced) own, ap (λ (f : Standing). length f.bytes) own)
    | inr away ↦ omega (arith, (r.holds.others s file away (sym (grown_other front s away) ∙ e)).synced)
  ]

  -- the state after the commands with what waits is one that so many of the issued commands make
  known_good : IsGood kind first q m.told (as_it_reads appended)
  known_good = front_good (as_it_reads appended) reads_left

  known_state : fold kind a.base kept ≡ fold kind first (take known_good.count q)
  known_state =
      let all = file kind a.base kept in
      let here : as_it_reads appended present.stamp ≡ Some (r.holds.file.bytes ++ front) = ap (option_map (λ (f : Standing). f.bytes)) (grown_here front) in
      let whole : take (length all) all ≡ all = take_all (length all) all (omega arith) in
      let reads = recovers_whole kind of_machine (as_it_reads appended) present.stamp a.base kept r.holds.restates (stays_written kind m present w a first q r c s)
      (image_cut kind m present w.bytes a r.holds front (as_it_reads appended) reads_left).greatest (length all) (omega arith)
      (omega (arith, length-append (fresh kind a.base) (frames kind kept))) (here ∙ ap Some (in_file ∙ sym whole)) in
      recovers_one kind of_machine.IsState of_machine.IsCommand of_machine.laws (as_it_reads appended) (fold kind a.base kept) (fold kind first (take known_good.count q)) reads known_good.recovers

  -- an image with at least what waits in front of the command reads to the state before or after it
  later_good : (image : Image) (n : ℕ) → length (r.holds.file.bytes ++ front) ≤ n → image present.stamp ≡ Some (take n (r.holds.file.bytes ++ (front ++ frame))) →
      ((s : ℕ) (other : List ℕ) → image s ≡ Some other → s ≤ present.stamp) → IsGood kind first (q ++ c ∷ []) m.told image
  later_good image n long here greatest =
      let all = kept ++ c ∷ [] in
      let written = All-append (IsWritten kind) kept (c ∷ []) (stays_written kind m present w a first q r c s) (c_written, tt) in
      let restating : length (fresh kind a.base) ≤ n = omega (arith, long, ap length in_file, length-append (fresh kind a.base) (frames kind kept)) in
      let x = recovers_prefix kind of_machine image present.stamp a.base all r.holds.restates written greatest n restating (here ∙ ap (λ (b : List ℕ). Some (take n b)) more_file) in
      let prefix : take (length kept) all ≡ kept = take-append_seam kept (c ∷ []) in
      let size = length-append kept (c ∷ []) in
      let there : length kept ≤ x.read.count =
      x.read.covers (length kept) (omega (arith, size)) (omega (arith, long, ap length in_file, ap (λ (cs : List C). length (file kind a.base cs)) prefix)) in
      elim (cases_eq x.read.count (length kept)) [
        | inl same ↦
            let before : fold kind a.base (take x.read.count all) ≡ fold kind first (take known_good.count q) =
            ap (λ (k : ℕ). fold kind a.base (take k all)) same ∙ ap (fold kind a.base) prefix ∙ known_state in
            good_longer kind image first q (c ∷ []) m.told
            (record { count = known_good.count; holds_told = known_good.holds_told; within = known_good.within; recovers = subst (Recovers kind image) before x.recovers })
        | inr other ↦
            let whole : take x.read.count all ≡ all = take_all x.read.count all (omega (arith, other, there, x.read.within, size)) in
            good_whole kind first (q ++ c ∷ []) m.told image (fold kind a.base all) (subst (λ (cs : List C). Recovers kind image (fold kind a.base cs)) whole x.recovers)
            more_state (omega (arith, r.keeps.told, r.keeps.told_within, r.keeps.count, length-append q (c ∷ [])))
      ]

  -- an image without any of the frame is one of the disk without it
  image_without : (image : Image) → IsImage (after_append present.stamp (front ++ frame) m) image → (k : IsCutOf kind r.holds.file (front ++ frame) present.stamp image) →
      k.kept ≤ length (r.holds.file.bytes ++ front) → IsImage appended image
  image_without image is k short = λ s. elim (cases_eq s present.stamp) [
    | inl same ↦
        let bytes = r.holds.file.bytes in
        let prefix : take k.kept (bytes ++ (front ++ frame)) ≡ take k.kept (bytes ++ front) =
        ap (take k.kept) (sym (append_assoc bytes front frame)) ∙ take-append-le k.kept (bytes ++ front) frame short in
        rw (same, k.here)
        (inl (record r.holds.file { bytes = bytes ++ front }, grown_here front, record { kept = k.kept; synced_kept = k.safe; within = short; prefix = prefix }))
    | inr away ↦ MayLeave-same (after_append present.stamp (front ++ frame) m) appended s (image s) (grown_other (front ++ frame) s away ∙ sym (grown_other front s away)) refl (is s)
  ]

  taken_good : OnlyLeaves (IsGood kind first (q ++ c ∷ [])) (after_append present.stamp (front ++ frame) m)
  taken_good = λ image is.
      let k = image_cut kind m present w.bytes a r.holds (front ++ frame) image is in
      elim (cases_lt k.kept (length (r.holds.file.bytes ++ front))) [
        | inl few ↦ good_longer kind image first q (c ∷ []) m.told (front_good image (image_without image is k (omega arith)))
        | inr more ↦ later_good image k.kept more k.here k.greatest
      ]

  -- the account without what is covered, and with the command
  abbrev taken : Account S C
  taken = record a { kept = kept ++ c ∷ []; late = length s.waiting + 1 }

  module _ (next : Present S) (t : Takes kind present next (extent_before kind present w c) c) where
    taken_holds : JournalHolds kind m next (front ++ frame) taken
    taken_holds = record {
      file = r.holds.file;
      stands = subst (λ (n : ℕ). m.standing n ≡ Some r.holds.file) (sym t.stamp) r.holds.stands;
      settled = r.holds.settled;
      done = r.holds.done;
      bytes = r.holds.bytes;
      safe = r.holds.safe;
      within = r.holds.within;
      waiting = s.waiting ++ c ∷ [];
      waits = ap (λ (x : List ℕ). x ++ frame) s.bytes ∙ sym (frames-push kind s.waiting c);
      parts = append_assoc r.holds.done s.waiting (c ∷ []);
      late = sym (length-append s.waiting (c ∷ []));
      others = λ s other away e. subst (λ (n : ℕ). IsOlder n s other) (sym t.stamp) (r.holds.others s other (λ same. away (same ∙ sym t.stamp)) e);
      none_removed = r.holds.none_removed;
      restates = r.holds.restates;
      written = All-append (IsWritten kind) kept (c ∷ []) (stays_written kind m present w a first q r c s) (c_written, tt);
      state = taken_state;
      after = omega (arith, t.after, ap (λ (e : Extent). e.after) s.extent, length-append kept (c ∷ []));
      whole = omega (arith, t.whole, ap (λ (e : Extent). e.length) s.extent, length-frames-push kind kept c);
    }
      where
        taken_state : next.state ≡ fold kind a.base (kept ++ c ∷ [])
        taken_state =
            t.stepped.state ∙ ap (λ (x : S). kind.step x c) r.holds.state ∙ sym (covered_step kind of_machine a.base a.kept kept c s.all_but)
            ∙ sym (fold-append kind a.base kept (c ∷ []))

    taken_runs : JournalRuns kind m next (taken_at kind (place_in kind w c) c w) taken first (q ++ c ∷ [])
    taken_runs = record {
      holds = taken_holds;
      ends = record {
        front = kept;
        parts = refl;
        waits = omega arith;
        place = omega (arith, length-append front frame, length-take-le (place_in kind w c) w.bytes s.within, length-frame (kind.id c) (kind.payload c));
      };
      keeps = record {
        state = t.stepped.state ∙ ap (λ (x : S). kind.step x c) r.keeps.state ∙ sym (fold-append kind first q (c ∷ []));
        count = omega (arith, t.stepped.count, r.keeps.count, length-append q (c ∷ []));
        told = r.keeps.told ∙ sym t.stepped.told;
        told_within = omega (arith, t.stepped.told, t.stepped.count, r.keeps.told_within, r.keeps.count);
        images = subst (λ (n : ℕ). OnlyLeaves (IsGood kind first (q ++ c ∷ [])) (after_append n (front ++ frame) m)) (sym t.stamp) taken_good;
      };
    }

module _ {S C : Type 0} (kind : Kind S C) (m : Moment) (present : Present S) (w : Waiting C) (a : Account S C) (first : S) (q : List C) (c : C) (next : Present S) where
  -- what the journal is when the command was taken
  pub runs_taken : OfMachine kind → JournalRuns kind m present w a first q → IsWritten kind c → Takes kind present next (extent_before kind present w c) c →
      JournalRuns kind m next (taken_at kind (place_in kind w c) c w) (added kind a c) first (q ++ c ∷ [])
  runs_taken of_machine r c_written t =
      let s = stays kind m present w a first q r c in
      subst (λ (x : Account S C). JournalRuns kind m next (taken_at kind (place_in kind w c) c w) (account.behind_all kind x c (x.late + 1)) first (q ++ c ∷ [])) (sym s.is)
      (taken_runs kind of_machine m present w a first q r c s c_written next t)

-- where there is room for a command, to take it is the outcome of the call
pub advances_taken : {S C : Type 0} (kind : Kind S C) (before m : Moment) (present : Present S) (w : Waiting C) (a : Account S C) (outcome : Outcome S C) (first : S) (q : List C) (c : C) (next : Present S) →
    OfMachine kind → HasRoom kind before m present w a outcome c first q → IsWritten kind c → Takes kind present next (extent_before kind present w c) c →
    JournalAdvances kind before m next (taken_at kind (place_in kind w c) c w) a outcome first (q ++ c ∷ [])
advances_taken kind before m present w a outcome first q c next of_machine room c_written t =
    let s = stays kind m present w room.rest first q room.runs c in
    record {
      next = added kind room.rest c;
      is = room.is;
      runs = runs_taken kind m present w room.rest first q c next of_machine room.runs c_written t;
      made = room.made ∙ ap (λ (x : Account _ _). before.creates + x.made) (sym s.is);
    }
