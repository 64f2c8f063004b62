-- What a crash leaves of foreign files: all of their bytes.
use Rattle.std.proofs.Common.{◌≡◌, ◌≢◌, ℕ, ◌≤◌, ◌++◌, Bool, true, false, not, ◌&&◌, if◌then◌else◌, nat_lt, List, [], length, take, max, Option, Some, None, Result, Ok, Err, IsSome, option_map, refl, sym, ap, ◌∙◌, subst, inl, inr, arith}
use Rattle.std.proofs.lemmas.Bool.{cases_eq}
use Rattle.std.proofs.lemmas.List.{take_all}
use Rattle.std.specs.List.{AllByRecursion}
use Rattle.machine_law.specs.Kind.{Kind, IsLawful}
use Rattle.session_disk.specs.Moments.{Standing, Moment, IsAtRest, bytes_at, after_append, after_sync}
use Rattle.session_disk.specs.Images.{Image, IsCut, IsImage, MayGo, MayLeave, as_it_reads}
use Rattle.session_disk.specs.Histories.{History, Leaves}
use Rattle.session_disk.proofs.Leaves.{Leaves-refl, Leaves-trans, Leaves-weaken, Leaves-both, Leaves-now}
use Rattle.file_rotation.specs.Foreign.{is_foreign}
use Rattle.file_rotation.specs.Cleared.{goes, loosened_file, loosened}
use Rattle.file_rotation.specs.Recovery.{Recovers}
use Rattle.file_rotation.proofs.ChoiceLaws.{good_longer}
use Rattle.fresh_files.specs.Fresh.{fresh, IsWritten}
use Rattle.fresh_files.specs.Rotation.{AreRemovedOlder, LeavesRotated}
use Rattle.log_writer.specs.Waiting.{Waiting}
use Rattle.log_writer.specs.Journals.{JournalHolds, IsReady, LeavesAppended, LeavesTold, JournalRuns, JournalRemains, JournalFollows}
use Rattle.log_writer.specs.Log.{KeepsForeign, IsLeft}
use Rattle.log_writer.specs.declared.journal.Present.{Present}
use Rattle.log_writer.specs.Account.{Account, Outcome}
use Rattle.log_writer.specs.declared.fault.First.{First}
use Rattle.log_writer.specs.declared.fault.JournalFault.{JournalFault}
use Rattle.fresh_files.proofs.MayLeave.{none_removed}
use Rattle.log_writer.proofs.GrowthLaws.{changed_other}
use Rattle.fresh_files.proofs.CommandLaws.{OfMachine, header_written}
use Rattle.log_writer.proofs.JournalLaws.{keeps_now}
use Rattle.log_writer.proofs.SyncLaws.{synced_leaves}
use Rattle.log_writer.proofs.WaitingLaws.{appended_leaves}
use Rattle.log_writer.proofs.OpenLaws.{opening_waits, opening_leaves}
use Rattle.log_writer.proofs.ReplaceLaws.{not_foreign, replaced_leaves}

-- a safe file is left whole
left_whole : (m : Moment) (s : ℕ) (file : Standing) (left : Option (List ℕ)) → m.standing s ≡ Some file → file.synced ≡ length file.bytes → file.settled ≡ true → m.removed ≡ [] → MayLeave m s left → left ≡ Some file.bytes
left_whole m s file None stands synced settled removed gone =
    absurd (let unsettled : file.settled ≡ false = subst MayGo stands gone in cc)
left_whole m s file (Some bytes) stands synced settled removed (inl is) =
    let same : is.0 ≡ file = (let there = is.1 in cc) in
    let cut = subst (λ (f : Standing). IsCut f.synced f.bytes bytes) same is.2 in
    ap Some (cut.prefix ∙ take_all cut.kept file.bytes (omega (arith, cut.synced_kept, synced)))
left_whole m s file (Some bytes) stands synced settled removed (inr is) = absurd (none_removed m.removed is.0 removed is.1)

-- foreign files are safe, and none was removed
pub record IsForeignSafe (m : Moment) : Type 0 where
  pub each : (s : ℕ) (file : Standing) → m.standing s ≡ Some file → is_foreign file.bytes ≡ true → (file.synced ≡ length file.bytes) × (file.settled ≡ true)
  pub none_removed : m.removed ≡ []

pub rest_safe : (m : Moment) → IsAtRest m → IsForeignSafe m
rest_safe m rest = record { each = λ s file stands foreign. rest.files s file stands; none_removed = rest.none_removed }

not_going : (b c : Bool) → c ≡ true → (if b && not c then false else true) ≡ true
not_going true c e = rw e refl
not_going false c e = refl

module _ (m : Moment) (safe : IsForeignSafe m) where
  pub image_foreign : (image : Image) → IsImage m image → KeepsForeign m image
  image_foreign image is = λ s file stands foreign.
      let (synced, settled) = safe.each s file stands foreign in
      left_whole m s file (image s) stands synced settled safe.none_removed (is s)

  loose_here : (stamp s : ℕ) (file : Standing) → m.standing s ≡ Some file → (loosened stamp m).standing s ≡ Some (loosened_file stamp s file)
  loose_here stamp s file stands = ap (option_map (loosened_file stamp s)) stands

  loose_settled : (stamp s : ℕ) (file : Standing) → is_foreign file.bytes ≡ true → file.settled ≡ true → (loosened_file stamp s file).settled ≡ true
  loose_settled stamp s file foreign settled =
      ap (λ (b : Bool). if goes stamp s file then false else b) settled ∙ not_going (nat_lt s stamp) (is_foreign file.bytes) foreign

  pub rotated_foreign : (bytes : List ℕ) (told : ℕ) (image : Image) → LeavesRotated m bytes told image → KeepsForeign m image
  rotated_foreign bytes told image l = λ s file stands foreign. elim l.files [
    | inl is ↦ image_foreign image is s file stands foreign
    | inr h ↦
        let (synced, settled) = safe.each s file stands foreign in
        let there : IsSome (m.standing s) = subst IsSome (sym stands) refl in
        let away : s ≢ h.stamp = (λ same. omega (arith, h.above s there, same)) in
        elim (h.others s away) [
          | inl may ↦ left_whole m s file (image s) stands synced settled safe.none_removed may
          | inr may ↦ left_whole (loosened h.stamp m) s (loosened_file h.stamp s file) (image s) (loose_here h.stamp s file stands) synced (loose_settled h.stamp s file foreign settled) safe.none_removed may.1
        ]
  ]

module _ {S C : Type 0} (kind : Kind S C) (m : Moment) (present : Present S) (w : Waiting C) (a : Account S C) (first : S) (q : List C) (r : JournalRuns kind m present w a first q) where
  own_stamp : (s : ℕ) (file : Standing) → m.standing s ≡ Some file → is_foreign file.bytes ≡ true → s ≢ present.stamp
  own_stamp s file stands foreign = λ same.
      let own : r.holds.file ≡ file = (let there = r.holds.stands in let at = ap m.standing same in cc) in
      let no = not_foreign r.holds.file.bytes (header_written kind r.holds.file.bytes a.base r.holds.done r.holds.bytes) in
      let yes = ap (λ (f : Standing). is_foreign f.bytes) own ∙ foreign in
      absurd cc

  pub runs_safe : IsForeignSafe m
  runs_safe = record {
    each = λ s file stands foreign. (let older = r.holds.others s file (own_stamp s file stands foreign) stands in (older.synced, older.settled));
    none_removed = r.holds.none_removed;
  }

  pub appended_foreign : (bytes : List ℕ) (told : ℕ) (image : Image) → LeavesAppended m present.stamp bytes told image → KeepsForeign m image
  appended_foreign bytes told image l = λ s file stands foreign.
      let (synced, settled) = runs_safe.each s file stands foreign in
      let away = own_stamp s file stands foreign in
      left_whole (after_append present.stamp bytes m) s file (image s) (changed_other (λ (f : Standing). record f { bytes = f.bytes ++ bytes }) present.stamp s m away ∙ stands) synced settled r.holds.none_removed (l.files s)

  pub told_foreign : (bytes : List ℕ) (count told : ℕ) (image : Image) → LeavesTold m present.stamp bytes count told image → KeepsForeign m image
  told_foreign bytes count told image (inl l) = appended_foreign bytes told image l
  told_foreign bytes count told image (inr l) = λ s file stands foreign.
      let (synced, settled) = runs_safe.each s file stands foreign in
      let away = own_stamp s file stands foreign in
      let appended = after_append present.stamp bytes m in
      let once = changed_other (λ (f : Standing). record f { bytes = f.bytes ++ bytes }) present.stamp s m away in
      let twice = changed_other (λ (f : Standing). record f { synced = max f.synced (length (bytes_at present.stamp appended)) }) present.stamp s appended away in
      left_whole (after_sync present.stamp (length (bytes_at present.stamp appended)) appended) s file (image s) (twice ∙ once ∙ stands) synced settled r.holds.none_removed (l.1 s)

module _ {S C : Type 0} (kind : Kind S C) (old : History) (present : Present S) (w : Waiting C) (a : Account S C) (first : S) (q : List C) (r : JournalRuns kind old.now present w a first q) where
  pub now_left : Leaves old old (IsLeft kind old.now first q)
  now_left = Leaves-refl (IsLeft kind old.now first q) old (λ image is. (keeps_now kind old.now present w a first q r image is, image_foreign old.now (runs_safe kind old.now present w a first q r) image is))

  pub appended_left : (place : ℕ) {new : History} → Leaves old new (LeavesAppended old.now present.stamp (take place w.bytes)) → Leaves old new (IsLeft kind old.now first q)
  appended_left place leaves = Leaves-both (appended_leaves kind old.now present w a first q r place leaves)
      (Leaves-weaken (λ told image. KeepsForeign old.now image) (appended_foreign kind old.now present w a first q r (take place w.bytes)) leaves)

  pub synced_left : OfMachine kind → {new : History} → Leaves old new (LeavesTold old.now present.stamp w.bytes present.count) → Leaves old new (IsLeft kind old.now first q)
  synced_left of_machine leaves = Leaves-both (synced_leaves kind of_machine old.now present w a first q r leaves)
      (Leaves-weaken (λ told image. KeepsForeign old.now image) (told_foreign kind old.now present w a first q r w.bytes present.count) leaves)

  pub replaced_left : {IsState : S → Type 0} {IsCommand : C → Type 0} → IsLawful kind IsState IsCommand → IsState present.state → AllByRecursion (IsWritten kind) (kind.compaction present.state) → (bytes : List ℕ) → bytes ≡ fresh kind present.state →
      {new : History} → Leaves old new (LeavesRotated old.now bytes) → Leaves old new (IsLeft kind old.now first q)
  replaced_left {IsState} {IsCommand} laws is_state written bytes is {new} leaves = Leaves-both
      (replaced_leaves kind IsState IsCommand laws old.now present w a first q r is_state written bytes is old new refl leaves)
      (Leaves-weaken (λ told image. KeepsForeign old.now image) (rotated_foreign old.now (runs_safe kind old.now present w a first q r) bytes) leaves)

module _ {S C : Type 0} (kind : Kind S C) (IsState : S → Type 0) (IsCommand : C → Type 0) (laws : IsLawful kind IsState IsCommand) (m : Moment) (s : S) (ready : IsReady kind m s) where
  pub waits_left : (old new : History) → old.now ≡ m → new ≡ old → Leaves old new (IsLeft kind old.now s [])
  waits_left old new e same = Leaves-both (opening_waits kind IsState IsCommand laws m s ready old new e same)
      (subst (λ (h : History). Leaves old h (λ told image. KeepsForeign old.now image)) (sym same)
      (Leaves-refl (λ told image. KeepsForeign old.now image) old (image_foreign old.now (rest_safe old.now (subst IsAtRest (sym e) ready.rest)))))

  pub opening_left : (state : S) → Recovers kind (as_it_reads m) state → IsState state → AllByRecursion (IsWritten kind) (kind.compaction state) → (bytes : List ℕ) → bytes ≡ fresh kind state →
      (old read new : History) → old.now ≡ m → read ≡ old → (AreRemovedOlder read.now → Leaves read new (LeavesRotated read.now bytes)) → Leaves old new (IsLeft kind old.now s [])
  opening_left state reads is_state written bytes is old read new e same leaves =
      let rest : IsAtRest read.now = subst IsAtRest (sym (ap (λ (h : History). h.now) same ∙ e)) ready.rest in
      Leaves-both (opening_leaves kind IsState IsCommand laws m s ready state reads is_state written bytes is old read new e same leaves)
      (subst (λ (h : History). Leaves h new (λ told image. KeepsForeign h.now image)) same
      (Leaves-weaken (λ told image. KeepsForeign read.now image) (rotated_foreign read.now (rest_safe read.now rest) bytes)
      (leaves (λ file there. absurd (none_removed read.now.removed file rest.none_removed there)))))

-- a moment is left as it reads
reads_at : (m : Moment) (s : ℕ) (here : Option Standing) → m.standing s ≡ here → ((file : Standing) → here ≡ Some file → file.synced ≤ length file.bytes) → MayLeave m s (option_map (λ (f : Standing). f.bytes) here)
reads_at m s None e within = subst MayGo (sym e) tt
reads_at m s (Some file) e within = inl (file, e, record { kept = length file.bytes; synced_kept = within file refl; within = omega arith; prefix = sym (take_all (length file.bytes) file.bytes (omega arith)) })

stands_as : (here : Option Standing) (bytes : List ℕ) → option_map (λ (f : Standing). f.bytes) here ≡ Some bytes → (now : Standing) × (here ≡ Some now) × (now.bytes ≡ bytes)
stands_as None bytes e = absurd cc
stands_as (Some now) bytes e = (now, refl, cc)

module _ {S C : Type 0} (kind : Kind S C) where
  reads_image : (m : Moment) (present : Present S) (bytes : List ℕ) (a : Account S C) → JournalHolds kind m present bytes a → IsImage m (as_it_reads m)
  reads_image m present bytes a h = λ s. reads_at m s (m.standing s) refl (λ file e. elim (cases_eq s present.stamp) [
    | inl same ↦
        let own : h.file ≡ file = (let there = h.stands in let at = ap m.standing same in cc) in
        subst (λ (f : Standing). f.synced ≤ length f.bytes) own h.within
    | inr away ↦ omega (arith, (h.others s file away e).synced)
  ])

  -- where a journal works on, the foreign files of the entry stand
  pub foreign_stands : (old new : History) (first : S) (q : List C) (present : Present S) (bytes : List ℕ) (a : Account S C) → JournalHolds kind new.now present bytes a →
      Leaves old new (IsLeft kind old.now first q) → KeepsForeign old.now (as_it_reads new.now)
  foreign_stands old new first q present bytes a h leaves = (Leaves-now leaves (as_it_reads new.now) (reads_image new.now present bytes a h)).1

  pub remains_stands : (old new : History) (failed : Option First) (first : S) (q : List C) (present : Present S) (w : Waiting C) → failed ≡ None → JournalRemains kind failed new.now present w first q →
      Leaves old new (IsLeft kind old.now first q) → KeepsForeign old.now (as_it_reads new.now)
  remains_stands old new failed first q present w none remains leaves =
      let both = subst (λ (f : Option First). JournalRemains kind f new.now present w first q) none remains in
      foreign_stands old new first q present w.bytes both.0 both.1.holds leaves

  pub follows_stands : {T : Type 0} (old new : History) (failed : Option First) (present : Present S) (w : Waiting C) (a : Account S C) (outcome : Outcome S C) (first : S) (q more : List C) (result : Result T JournalFault) →
      JournalFollows kind old.now failed new.now present w a outcome first q more result → Leaves old new (IsLeft kind old.now first q) → failed ≡ None → KeepsForeign old.now (as_it_reads new.now)
  follows_stands old new failed present w a outcome first q more (Ok x) follows leaves none =
      foreign_stands old new first q present w.bytes follows.next follows.runs.holds leaves
  follows_stands old new failed present w a outcome first q more (Err why) follows leaves none =
      remains_stands old new failed first q present w none follows leaves

  pub longer_left : (old new : History) (first : S) (q more : List C) → Leaves old new (IsLeft kind old.now first q) → Leaves old new (IsLeft kind old.now first (q ++ more))
  longer_left old new first q more leaves = Leaves-weaken (IsLeft kind old.now first (q ++ more)) (λ told image l. (good_longer kind image first q more told l.0, l.1)) leaves

  -- one call, and then another of a journal that works on
  pub leaves_then : (old mid new : History) (first : S) (q more : List C) (present : Present S) (bytes : List ℕ) (a : Account S C) → JournalHolds kind mid.now present bytes a →
      Leaves old mid (IsLeft kind old.now first q) → Leaves mid new (IsLeft kind mid.now first (q ++ more)) → Leaves old new (IsLeft kind old.now first (q ++ more))
  leaves_then old mid new first q more present bytes a h one two =
      Leaves-trans (longer_left old mid first q more one) (Leaves-weaken (IsLeft kind old.now first (q ++ more)) (λ told image l. (
        l.0,
        λ s file stands foreign.
            let read = (Leaves-now one (as_it_reads mid.now) (reads_image mid.now present bytes a h)).1 s file stands foreign in
            let (now, e, same) = stands_as (mid.now.standing s) file.bytes read in
            l.1 s now e (ap is_foreign same ∙ foreign) ∙ ap Some same,
      )) two)
