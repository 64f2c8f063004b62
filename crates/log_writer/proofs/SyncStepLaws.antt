-- What a crash leaves while bytes are appended to a file, made safe and told.
use Rattle.std.proofs.Common.{◌≡◌, ℕ, List, ◌++◌, length, take, Option, Some, None, IsSome, Result, refl, ap, ◌∙◌, subst, inl, inr, arith}
use Rattle.std.proofs.lemmas.List.{take_all}
use Rattle.session_disk.specs.declared.failure.DiskError.{DiskError}
use Rattle.session_disk.specs.Moments.{Standing, Moment, with_change, bytes_at, after_append, after_sync, after_tell}
use Rattle.session_disk.specs.Images.{Image, IsImage}
use Rattle.session_disk.specs.Histories.{History, after, Changes, Leaves}
use Rattle.session_disk.proofs.Leaves.{Leaves-refl, Leaves-call, Leaves-weaken}
use Rattle.log_writer.specs.Journals.{LeavesAppended, LeavesTold, made_safe}
use Rattle.log_writer.proofs.GrowthLaws.{changed_here, image_prefix, image_appended, image_synced}

pub some_file : (o : Option Standing) → IsSome o → (file : Standing) × (o ≡ Some file)
some_file None h = absurd (let there = h in cc)
some_file (Some file) h = (file, refl)

pub some_changed : (change : Standing → Standing) (stamp : ℕ) (m : Moment) → IsSome (m.standing stamp) → IsSome ((with_change change stamp m).standing stamp)
some_changed change stamp m h = let (file, e) = some_file (m.standing stamp) h in rw (changed_here change stamp m file e) refl

-- all bytes that were given were appended
pub given_appended : (old new : History) (stamp : ℕ) (bytes given : List ℕ) → given ≡ bytes → new ≡ after (after_append stamp (take (length given) given)) old → new.now ≡ after_append stamp bytes old.now
given_appended old new stamp bytes given same e =
    ap (λ (h : History). h.now) e ∙ ap (λ (x : List ℕ). after_append stamp x old.now) (take_all (length given) given (omega arith) ∙ same)

pub stay_leaves : (old : History) (stamp : ℕ) (bytes : List ℕ) → IsSome (old.now.standing stamp) → Leaves old old (LeavesAppended old.now stamp bytes)
stay_leaves old stamp bytes there =
    let (file, e) = some_file (old.now.standing stamp) there in
    Leaves-refl (LeavesAppended old.now stamp bytes) old (λ image is. record { untouched = refl; files = image_appended stamp bytes old.now file image e is })

pub append_leaves : {T : Type 0} {old new : History} {result : Result T DiskError} (stamp : ℕ) (bytes given : List ℕ) → given ≡ bytes → IsSome (old.now.standing stamp) →
    Changes old new result (length given) (λ n. after_append stamp (take n given)) → Leaves old new (LeavesAppended old.now stamp bytes)
append_leaves {old = old} {new = new} stamp bytes given same there changes =
    let (file, e) = some_file (old.now.standing stamp) there in
    subst (λ (x : List ℕ). Leaves old new (LeavesAppended old.now stamp x)) same
    (Leaves-call (LeavesAppended old.now stamp given) changes
    (λ image is. record { untouched = refl; files = image_appended stamp given old.now file image e is })
    (λ n _ image is. record { untouched = refl; files = image_prefix stamp n given old.now file image e is }))

-- the same bytes, called otherwise
pub given_leaves : {old new : History} (m : Moment) (stamp : ℕ) (bytes given : List ℕ) → given ≡ bytes → Leaves old new (LeavesAppended m stamp given) → Leaves old new (LeavesAppended m stamp bytes)
given_leaves {old = old} {new = new} m stamp bytes given same leaves = subst (λ (x : List ℕ). Leaves old new (LeavesAppended m stamp x)) same leaves

module _ (m : Moment) (stamp : ℕ) (bytes : List ℕ) (there : IsSome (m.standing stamp)) where
  pub sync_leaves : {T : Type 0} {old new : History} {result : Result T DiskError} → old.now ≡ after_append stamp bytes m →
      Changes old new result (length (bytes_at stamp old.now)) (after_sync stamp) → Leaves old new (LeavesAppended m stamp bytes)
  sync_leaves {old = old} e changes =
      let (file, stands) = some_file (m.standing stamp) there in
      let here = ap (λ (x : Moment). x.standing stamp) e ∙ changed_here (λ (f : Standing). record f { bytes = f.bytes ++ bytes }) stamp m file stands in
      Leaves-call (LeavesAppended m stamp bytes) changes
      (λ image is. record { untouched = ap (λ (x : Moment). x.told) e; files = subst (λ (x : Moment). IsImage x image) e is })
      (λ n _ image is. record {
        untouched = ap (λ (x : Moment). x.told) e;
        files = subst (λ (x : Moment). IsImage x image) e (image_synced stamp n old.now _ image here is);
      })

  safe_appended : (image : Image) → IsImage (made_safe stamp bytes m) image → IsImage (after_append stamp bytes m) image
  safe_appended image is =
      let (file, stands) = some_file (m.standing stamp) there in
      image_synced stamp (length (bytes_at stamp (after_append stamp bytes m))) (after_append stamp bytes m) _ image
      (changed_here (λ (f : Standing). record f { bytes = f.bytes ++ bytes }) stamp m file stands) is

  pub tell_leaves : {T : Type 0} {old new : History} {result : Result T DiskError} (count : ℕ) → old.now ≡ made_safe stamp bytes m →
      Changes old new result 0 (λ _. after_tell count) → Leaves old new (LeavesTold m stamp bytes count)
  tell_leaves {old = old} count e changes =
      Leaves-call (LeavesTold m stamp bytes count) changes
      (λ image is. inl (record { untouched = ap (λ (x : Moment). x.told) e; files = safe_appended image (subst (λ (x : Moment). IsImage x image) e is) }))
      (λ _ _ image is. inr (refl, subst (λ (x : Moment). IsImage x image) e is))

  pub not_told : {old new : History} (count : ℕ) → Leaves old new (LeavesAppended m stamp bytes) → Leaves old new (LeavesTold m stamp bytes count)
  not_told count = Leaves-weaken (LeavesTold m stamp bytes count) (λ told image h. inl h)
