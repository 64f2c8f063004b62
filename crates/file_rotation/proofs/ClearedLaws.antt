-- What clearing leaves, for its callers: files from the stamp on and foreign ones stay, and a safe lawful file of this
-- stamp is chosen in each pair that a crash inside may leave.
use Rattle.std.proofs.Common.{◌≡◌, ◌⊎◌, ℕ, ◌≤◌, Bool, true, false, cond, List, [], length, Option, Some, None, option_map, refl, sym, ap, ◌∙◌, subst, inl, inr, arith}
use Rattle.std.proofs.lemmas.Bool.Decides.{nat_tests}
use Rattle.snss_frames.specs.Frame.{Frame}
use Rattle.session_disk.specs.Moments.{Standing, Moment, settled_file, IsAtRest}
use Rattle.session_disk.specs.Images.{Image, IsCut, MayGo, MayLeave}
use Rattle.file_rotation.specs.Foreign.{is_foreign}
use Rattle.file_rotation.specs.Cleared.{goes, kept_file, cleared, loosened_file, loosened, LeavesWithout, IsToGo}
use Rattle.file_rotation.specs.Recovery.{IsLawful, IsChosen}
use Rattle.file_rotation.proofs.SafeLaws.{IsSafe, IsLatest, safe_chosen}

-- what is as new as the stamp doesn't go
newer_stays : (stamp s : ℕ) (file : Standing) → stamp ≤ s → goes stamp s file ≡ false
newer_stays stamp s file newer = grind (arith, nat_tests)

-- nor does what is foreign
foreign_stays : (stamp s : ℕ) (file : Standing) → is_foreign file.bytes ≡ true → goes stamp s file ≡ false
foreign_stays stamp s file foreign = grind (arith, nat_tests)

kept_where : (stamp s : ℕ) (file : Standing) → goes stamp s file ≡ false → kept_file stamp s (Some file) ≡ Some file
kept_where stamp s file stays = rw stays refl

pub cleared_newer : (stamp s : ℕ) (m : Moment) (file : Standing) → stamp ≤ s → m.standing s ≡ Some file → (cleared stamp m).standing s ≡ Some (settled_file file)
cleared_newer stamp s m file newer stands =
    ap (λ (f : Option Standing). option_map settled_file (kept_file stamp s f)) stands ∙ ap (option_map settled_file) (kept_where stamp s file (newer_stays stamp s file newer))

pub cleared_foreign : (stamp s : ℕ) (m : Moment) (file : Standing) → is_foreign file.bytes ≡ true → m.standing s ≡ Some file → (cleared stamp m).standing s ≡ Some (settled_file file)
cleared_foreign stamp s m file foreign stands =
    ap (λ (f : Option Standing). option_map settled_file (kept_file stamp s f)) stands ∙ ap (option_map settled_file) (kept_where stamp s file (foreign_stays stamp s file foreign))

-- all that is there afterwards stood before, and isn't to go
pub record WasKept (stamp s : ℕ) (m : Moment) (file : Standing) : Type 0 where
  pub before : Standing
  pub stood : m.standing s ≡ Some before
  pub stays : goes stamp s before ≡ false
  pub settled : file ≡ settled_file before

kept_from : (stamp s : ℕ) (m : Moment) (file before : Standing) (b : Bool) → goes stamp s before ≡ b → m.standing s ≡ Some before → option_map settled_file (cond b None (Some before)) ≡ Some file → WasKept stamp s m file
kept_from stamp s m file before true e stood there = absurd cc
kept_from stamp s m file before false e stood there = record { before = before; stood = stood; stays = e; settled = cc }

was_kept_by : (stamp s : ℕ) (m : Moment) (file : Standing) (before : Option Standing) → m.standing s ≡ before → option_map settled_file (kept_file stamp s before) ≡ Some file → WasKept stamp s m file
was_kept_by stamp s m file None stood there = absurd cc
was_kept_by stamp s m file (Some before) stood there = kept_from stamp s m file before (goes stamp s before) refl stood there

pub was_kept : (stamp s : ℕ) (m : Moment) (file : Standing) → (cleared stamp m).standing s ≡ Some file → WasKept stamp s m file
was_kept stamp s m file there = was_kept_by stamp s m file (m.standing s) refl there

-- where all files that stay were synced the disk is at rest
pub cleared_rests : (stamp : ℕ) (m : Moment) → ((s : ℕ) (file : Standing) → m.standing s ≡ Some file → goes stamp s file ≡ false → file.synced ≡ length file.bytes) → IsAtRest (cleared stamp m)
cleared_rests stamp m synced = record {
  files = λ s file there. (let kept = was_kept stamp s m file there in
      let before = synced s kept.before kept.stood kept.stays in
      (ap (λ (f : Standing). f.synced) kept.settled ∙ before ∙ ap (λ (f : Standing). length f.bytes) (sym kept.settled), ap (λ (f : Standing). f.settled) kept.settled));
  none_removed = refl;
}

loosened_same : (stamp s : ℕ) (file : Option Standing) → stamp ≤ s → option_map (loosened_file stamp s) file ≡ file
loosened_same stamp s None newer = refl
loosened_same stamp s (Some file) newer = let stays = newer_stays stamp s file newer in rw stays refl

module _ (m : Moment) (stamp told : ℕ) (image : Image) (leaves : LeavesWithout m stamp told image) where
  same_left : (s : ℕ) → (loosened stamp m).standing s ≡ m.standing s → (left : Option (List ℕ)) → MayLeave (loosened stamp m) s left → MayLeave m s left
  same_left s same None h = subst MayGo same h
  same_left s same (Some bytes) (inl h) = inl (h.0, sym same ∙ h.1, h.2)
  same_left s same (Some bytes) (inr h) = inr (h.0, h.1, h.2, h.3, subst MayGo same h.4)

  -- from the stamp on the image is one of the disk at entry
  pub left_from : (s : ℕ) → stamp ≤ s → MayLeave m s (image s)
  left_from s newer = same_left s (loosened_same stamp s (m.standing s) newer) (image s) (leaves.files s)

  loosened_safe : (file : Standing) → IsSafe m stamp file → IsSafe (loosened stamp m) stamp file
  loosened_safe file safe = record {
    stands = loosened_same stamp stamp (m.standing stamp) (omega arith) ∙ safe.stands;
    synced = safe.synced;
    settled = safe.settled;
  }

  loosened_latest : IsLatest m stamp → IsLatest (loosened stamp m) stamp
  loosened_latest latest = record {
    standing = λ s later. ap (option_map (loosened_file stamp s)) (latest.standing s later);
    removed = latest.removed;
  }

  -- the file of the stamp is chosen
  pub chosen_left : (file : Standing) (frames : List Frame) → IsSafe m stamp file → IsLatest m stamp → IsLawful file.bytes frames → IsChosen image stamp frames
  chosen_left file frames safe latest lawful =
      safe_chosen (loosened stamp m) stamp file (loosened_safe file safe) (loosened_latest latest) frames lawful image leaves.files

  gone_or_left : m.removed ≡ [] → (s : ℕ) (file : Option Standing) → m.standing s ≡ file → (left : Option (List ℕ)) → MayLeave (loosened stamp m) s left → MayLeave m s left ⊎ ((left ≡ None) × IsToGo m stamp s)
  gone_or_left none s None e left h = inl (same_left s (ap (option_map (loosened_file stamp s)) e ∙ sym e) left h)
  gone_or_left none s (Some file) e left h = gone_by (goes stamp s file) refl left h
    where
      gone_by : (b : Bool) → goes stamp s file ≡ b → (left : Option (List ℕ)) → MayLeave (loosened stamp m) s left → MayLeave m s left ⊎ ((left ≡ None) × IsToGo m stamp s)
      gone_by false stays left h =
          let same : option_map (loosened_file stamp s) (m.standing s) ≡ m.standing s = ap (option_map (loosened_file stamp s)) e ∙ (rw stays refl) ∙ sym e in
          inl (same_left s same left h)
      gone_by true going None h = inr (refl, record { file = file; stands = e; older = going })
      gone_by true going (Some bytes) (inl h) =
          let same : loosened_file stamp s file ≡ h.0 = (let there = ap (option_map (loosened_file stamp s)) e in let here = h.1 in cc) in
          inl (inl (file, e, subst (λ (f : Standing). IsCut f.synced f.bytes bytes) (sym same) h.2))
      gone_by true going (Some bytes) (inr h) = absurd (omega (arith, h.1.1, ap length none))

  -- where nothing was removed before, an image of the disk at entry in which some files that go are missing
  pub gone_or_as_left : m.removed ≡ [] → (s : ℕ) → MayLeave m s (image s) ⊎ ((image s ≡ None) × IsToGo m stamp s)
  gone_or_as_left none s = gone_or_left none s (m.standing s) refl (image s) (leaves.files s)
