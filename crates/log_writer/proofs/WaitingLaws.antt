-- How what waits comes into the file: all of it, or what stands in front of the last frame, and what a crash inside
-- leaves of the commands.
use Rattle.std.proofs.Common.{◌≡◌, ℕ, ◌+◌, ◌-◌, ◌≤◌, nat_lt, true, false, List, [], ◌∷◌, ◌++◌, length, take, drop, Option, Some, None, refl, sym, ap, ◌∙◌, subst, arith}
use Rattle.std.proofs.lemmas.Bool.Decides.{nat_tests}
use Rattle.std.proofs.lemmas.List.{append-nil, length-append, length-take, take_all, drop_all, drop-take}
use Rattle.std.proofs.Math.Seq.{take-append_seam, drop-append_seam}
use Rattle.snss_frames.proofs.FrameLaws.{length-frame}
use Rattle.machine_law.specs.Kind.{Kind}
use Rattle.session_disk.specs.Moments.{Moment, after_append}
use Rattle.session_disk.specs.Images.{Image, OnlyLeaves}
use Rattle.session_disk.specs.Histories.{History, Leaves}
use Rattle.session_disk.proofs.Leaves.{Leaves-weaken}
use Rattle.file_rotation.specs.Recovery.{IsGood}
use Rattle.fresh_files.specs.Fresh.{frames, frame_length}
use Rattle.log_writer.specs.Account.{Account, synced}
use Rattle.log_writer.specs.Pending.{IsLastWithin}
use Rattle.log_writer.specs.Waiting.{Waiting, waiting_in, nothing, last_behind, behind, covers_last, place_of_last, place_in}
use Rattle.log_writer.specs.Journals.{LeavesAppended, JournalHolds, EndsWith, EndsAs, JournalRuns}
use Rattle.log_writer.specs.declared.journal.Present.{Present}
use Rattle.log_writer.specs.declared.pending.LastFrame.{LastFrame}
use Rattle.log_writer.specs.declared.pending.Pending.{Pending}
use Rattle.log_writer.proofs.GrowthLaws.{append_twice, image_prefix}
use Rattle.log_writer.proofs.JournalLaws.{frames-append, frames-one, holds_appended}

-- a last frame of some bytes goes with all of them
none_behind : {C : Type 0} (whole : ℕ) (last : Option (LastFrame C)) → IsLastWithin whole last → last_behind whole last ≡ None
none_behind whole None within = refl
none_behind whole (Some last) within = grind (arith, nat_tests)

-- behind all bytes nothing waits
pub behind_all : {C : Type 0} (w : Waiting C) → IsLastWithin (length w.bytes) w.last → behind (length w.bytes) w ≡ nothing
behind_all w within =
    ap (λ (x : List ℕ). record { bytes = x; last = last_behind (length w.bytes) w.last }) (drop_all (length w.bytes) w.bytes (omega arith))
    ∙ ap (λ (x : Option (LastFrame _)). record { bytes = []; last = x }) (none_behind (length w.bytes) w.last within)

-- behind none of the bytes all waits
none_before : {C : Type 0} (last : Option (LastFrame C)) → last_behind 0 last ≡ last
none_before None = refl
none_before (Some last) =
    let first : nat_lt last.place 0 ≡ false = grind (arith, nat_tests) in
    let same : last.place - 0 ≡ last.place = omega arith in
    rw (first, same) refl

pub behind_none : {C : Type 0} (w : Waiting C) → behind 0 w ≡ w
behind_none w = ap (λ (x : Option (LastFrame _)). record { bytes = w.bytes; last = x }) (none_before w.last)

-- the whole of a buffer is all that waits in it
-- the same, where what waits is called otherwise
pub runs_as : {S C : Type 0} (kind : Kind S C) (m : Moment) (present : Present S) (w left : Waiting C) (a : Account S C) (first : S) (q : List C) → left ≡ w → JournalRuns kind m present w a first q → JournalRuns kind m present left a first q
runs_as kind m present w left a first q e r = subst (λ (x : Waiting _). JournalRuns kind m present x a first q) (sym e) r

module _ {C : Type 0} (p : Pending C) where
  pub waiting_length : length (waiting_in p).bytes ≡ p.whole
  waiting_length = omega (arith, length-take p.whole p.bytes.items, p.within)

  pub waiting_whole : take p.whole (waiting_in p).bytes ≡ (waiting_in p).bytes
  waiting_whole = take_all p.whole (waiting_in p).bytes (omega (arith, waiting_length))

  pub behind_whole : behind p.whole (waiting_in p) ≡ nothing
  behind_whole = subst (λ (n : ℕ). behind n (waiting_in p) ≡ nothing) waiting_length
      (behind_all (waiting_in p) (subst (λ (n : ℕ). IsLastWithin n p.last) (sym waiting_length) p.last_within))

  -- what is left when the first bytes are gone
  pub behind_left : (place : ℕ) (left : Waiting C) → place ≤ p.whole → left.bytes ≡ take (p.whole - place) (drop place p.bytes.items) → left.last ≡ last_behind place p.last → left ≡ behind place (waiting_in p)
  behind_left place left within is last =
      let size : place + (p.whole - place) ≡ p.whole = omega (arith, within) in
      let front = is ∙ sym (drop-take place (p.whole - place) p.bytes.items) ∙ ap (λ (n : ℕ). drop place (take n p.bytes.items)) size in
      λ i. record { bytes = front i; last = last i }

-- the last frame is the first one behind its place
last_stays : {C : Type 0} (last : LastFrame C) → last_behind last.place (Some last) ≡ Some (record { place = 0; command = last.command })
last_stays last = grind (arith, nat_tests)

-- the last of two lists together is the last of the second one, where that has any
last_of : {X : Type 0} (done rest front : List X) (x : X) → done ++ rest ≡ front ++ x ∷ [] → 1 ≤ length rest → (before : List X) × (rest ≡ before ++ x ∷ [])
last_of [] rest front x e some = (front, e)
last_of (d ∷ ds) rest [] x e some = absurd (omega (arith, some, ap length e, length-append ds rest))
last_of (d ∷ ds) rest (f ∷ fs) x e some = last_of ds rest fs x (let same : ds ++ rest ≡ fs ++ x ∷ [] = cc in same) some

module _ {S C : Type 0} (kind : Kind S C) (m : Moment) (present : Present S) (w : Waiting C) (a : Account S C) (first : S) (q : List C) (r : JournalRuns kind m present w a first q) where
  -- the front of what waits is in the file, and the others wait
  runs_behind : (front back : List C) → r.holds.waiting ≡ front ++ back → (left : Waiting C) → left.bytes ≡ frames kind back → EndsAs kind (length left.bytes) left.last (record a { late = length back }) →
      JournalRuns kind (after_append present.stamp (frames kind front) m) present left (record a { late = length back }) first q
  runs_behind front back split left bytes ends =
      let appended = after_append present.stamp (frames kind front) m in
      let parts : w.bytes ≡ frames kind front ++ frames kind back = r.holds.waits ∙ ap (frames kind) split ∙ frames-append kind front back in
      record {
        holds = subst (λ (x : List ℕ). JournalHolds kind appended present x (record a { late = length back })) (sym bytes) (holds_appended kind m present w.bytes a r.holds front back split);
        ends = ends;
        keeps = record {
          state = r.keeps.state;
          count = r.keeps.count;
          told = r.keeps.told;
          told_within = r.keeps.told_within;
          images = subst (OnlyLeaves (IsGood kind first q))
              (ap (λ (x : List ℕ). after_append present.stamp x m) parts ∙ sym (append_twice present.stamp (frames kind front) (frames kind back) m)
              ∙ ap (λ (x : List ℕ). after_append present.stamp x appended) (sym bytes)) r.keeps.images;
        };
      }

  -- all that waited is in the file
  pub appended_all : JournalRuns kind (after_append present.stamp w.bytes m) present nothing (synced kind a) first q
  appended_all = subst (λ (x : List ℕ). JournalRuns kind (after_append present.stamp x m) present nothing (synced kind a) first q) (sym r.holds.waits)
      (runs_behind r.holds.waiting [] (sym (append-nil r.holds.waiting)) nothing refl refl)

  module _ (last : LastFrame C) (is : w.last ≡ Some last) where
    ends : EndsWith kind (length w.bytes) last a
    ends = subst (λ (x : Option (LastFrame C)). EndsAs kind (length w.bytes) x a) is r.ends

    pub before_last : (before : List C) × (r.holds.waiting ≡ before ++ last.command ∷ [])
    before_last = last_of r.holds.done r.holds.waiting ends.front last.command (sym r.holds.parts ∙ ends.parts) (omega (arith, ends.waits, r.holds.late))

    last_parts : w.bytes ≡ frames kind before_last.0 ++ frames kind (last.command ∷ [])
    last_parts = r.holds.waits ∙ ap (frames kind) before_last.1 ∙ frames-append kind before_last.0 (last.command ∷ [])

    last_length : length (frames kind (last.command ∷ [])) ≡ frame_length kind last.command
    last_length = ap length (frames-one kind last.command) ∙ length-frame (kind.id last.command) (kind.payload last.command)

    pub last_place : last.place ≡ length (frames kind before_last.0)
    last_place = omega (arith, ends.place, last_length, ap length last_parts, length-append (frames kind before_last.0) (frames kind (last.command ∷ [])))

    pub in_front : take last.place w.bytes ≡ frames kind before_last.0
    in_front =
        ap (λ (n : ℕ). take n w.bytes) last_place ∙ ap (take (length (frames kind before_last.0))) last_parts
        ∙ take-append_seam (frames kind before_last.0) (frames kind (last.command ∷ []))

    stays : drop last.place w.bytes ≡ frames kind (last.command ∷ [])
    stays =
        ap (λ (n : ℕ). drop n w.bytes) last_place ∙ ap (drop (length (frames kind before_last.0))) last_parts
        ∙ drop-append_seam (frames kind before_last.0) (frames kind (last.command ∷ []))

    ends_behind : EndsAs kind (length (drop last.place w.bytes)) (last_behind last.place w.last) (record a { late = 1 })
    ends_behind = subst (λ (x : Option (LastFrame C)). EndsAs kind (length (drop last.place w.bytes)) x (record a { late = 1 })) (sym (ap (last_behind last.place) is ∙ last_stays last))
        (record { front = ends.front; parts = ends.parts; waits = omega arith; place = omega (arith, ap length stays, last_length) })

    -- what stood in front of the last frame is in the file, and that waits
    pub appended_before_last : JournalRuns kind (after_append present.stamp (take last.place w.bytes) m) present (behind last.place w) (record a { late = 1 }) first q
    appended_before_last =
        subst (λ (x : List ℕ). JournalRuns kind (after_append present.stamp x m) present (behind last.place w) (record a { late = 1 }) first q) (sym in_front)
        (runs_behind before_last.0 (last.command ∷ []) before_last.1 (behind last.place w) stays ends_behind)

  ends_within : (last : Option (LastFrame C)) → EndsAs kind (length w.bytes) last a → IsLastWithin (length w.bytes) last
  ends_within None ends = tt
  ends_within (Some last) ends = omega (arith, ends.place)

  -- the same where a command comes behind all, which goes in front of it
  pub appended_uncovered : (c : C) → covers_last kind w.last c ≡ false →
      JournalRuns kind (after_append present.stamp (take (place_in kind w c) w.bytes) m) present (behind (place_in kind w c) w) (synced kind a) first q
  appended_uncovered c uncovered =
      let place : place_in kind w c ≡ length w.bytes = rw uncovered refl in
      let all : take (place_in kind w c) w.bytes ≡ w.bytes = take_all (place_in kind w c) w.bytes (omega (arith, place)) in
      let none : behind (place_in kind w c) w ≡ nothing = ap (λ (n : ℕ). behind n w) place ∙ behind_all w (ends_within w.last r.ends) in
      subst (λ (x : List ℕ). JournalRuns kind (after_append present.stamp x m) present (behind (place_in kind w c) w) (synced kind a) first q) (sym all)
      (subst (λ (x : Waiting C). JournalRuns kind (after_append present.stamp w.bytes m) present x (synced kind a) first q) (sym none) appended_all)

  pub covered_place : (c : C) (last : LastFrame C) → w.last ≡ Some last → covers_last kind w.last c ≡ true → place_in kind w c ≡ last.place
  covered_place c last is covered = rw covered (ap (place_of_last kind (length w.bytes)) is)

  pub some_covered : (c : C) (last : Option (LastFrame C)) → covers_last kind last c ≡ true → (frame : LastFrame C) × (last ≡ Some frame)
  some_covered c None covered = absurd cc
  some_covered c (Some last) covered = (last, refl)

  -- and where it comes into the place of the last frame
  pub appended_covered : (c : C) → covers_last kind w.last c ≡ true →
      JournalRuns kind (after_append present.stamp (take (place_in kind w c) w.bytes) m) present (behind (place_in kind w c) w) (record a { late = 1 }) first q
  appended_covered c covered =
      let (last, is) = some_covered c w.last covered in
      subst (λ (n : ℕ). JournalRuns kind (after_append present.stamp (take n w.bytes) m) present (behind n w) (record a { late = 1 }) first q) (sym (covered_place c last is covered))
      (appended_before_last last is)

  -- a crash while the first bytes are appended leaves what is good
  pub appended_good : (place told : ℕ) (image : Image) → LeavesAppended m present.stamp (take place w.bytes) told image → IsGood kind first q told image
  appended_good place told image l =
      subst (λ (n : ℕ). IsGood kind first q n image) (sym l.untouched)
      (r.keeps.images image (image_prefix present.stamp place w.bytes m r.holds.file image r.holds.stands l.files))

  pub appended_leaves : (place : ℕ) {old new : History} → Leaves old new (LeavesAppended m present.stamp (take place w.bytes)) → Leaves old new (IsGood kind first q)
  appended_leaves place leaves = Leaves-weaken (IsGood kind first q) (appended_good place) leaves
