-- Laws of the images that a list of files and lengths names: where the list is keepable, its image is one of the
-- moment; and a list that has just the files of an image, cut from those that its stamps mean, is keepable.
use Rattle.std.proofs.Common.{◌≡◌, ℕ, ◌≤◌, nat_le, Bool, true, false, ◌&&◌, ◌==◌, List, [], ◌∷◌, length, take, reverse, Option, Some, None, IsSome, option_map, Contains, refl, sym, ap, ◌∙◌, subst, inl, inr, arith}
use Rattle.std.proofs.lemmas.Bool.Decides.{nat_tests}
use Rattle.std.proofs.lemmas.List.{length-take}
use Rattle.std.specs.List.{AllByRecursion}
use Rattle.std.specs.Option.{is_some}
use Rattle.session_disk.specs.declared.memory.crash.Keep.{Keep}
use Rattle.session_disk.specs.Crashes.{Remains, remains_of_standing, remains_of_removed, last_removed, file_meant, cut_to, kept_under, IsOnce, IsKeepable, image_of, IsOfMeant, Lists, IsListedImage, resting}
use Rattle.session_disk.specs.Images.{Image, IsCut, IsImage, MayGo, MayLeave, as_it_reads}
use Rattle.session_disk.specs.Moments.{Moment, Standing, Removed, IsAtRest, safe_file}
use Rattle.session_disk.proofs.CrashLoop.{IsCuttable, kept_cut, image_kept, is_some-option_map}
use Rattle.session_disk.proofs.Finding.{found_passes, found_contained, contained_in_reverse}
use Rattle.session_disk.proofs.Leaves.{AllByRecursion-weaken}

-- a cut of a file that is there
module _ (file : Remains) (bytes : List ℕ) where
  cut_is : (kept : ℕ) → cut_to kept (Some file) ≡ Some bytes → IsCut file.synced file.bytes bytes × (length bytes ≡ kept)
  cut_is kept e = tested (nat_le file.synced kept && nat_le kept (length file.bytes)) refl
    where
      tested : (b : Bool) → (nat_le file.synced kept && nat_le kept (length file.bytes)) ≡ b → IsCut file.synced file.bytes bytes × (length bytes ≡ kept)
      tested true t =
          let low : file.synced ≤ kept = grind (arith, nat_tests) in
          let high : kept ≤ length file.bytes = grind (arith, nat_tests) in
          let prefix : bytes ≡ take kept file.bytes = grind arith in
          (record { kept = kept; synced_kept = low; within = high; prefix = prefix }, omega (arith, ap length prefix, length-take kept file.bytes))
      tested false t =
          let gone = rw t at e in
          cc

  cut_from : IsCut file.synced file.bytes bytes → cut_to (length bytes) (Some file) ≡ Some bytes
  cut_from cut =
      let long : length bytes ≡ cut.kept = omega (arith, ap length cut.prefix, length-take cut.kept file.bytes, cut.within) in
      let low : nat_le file.synced cut.kept ≡ true = grind (arith, nat_tests, cut.synced_kept) in
      let high : nat_le cut.kept (length file.bytes) ≡ true = grind (arith, nat_tests, cut.within) in
      rw (long, low, high, cut.prefix)

-- what the image has under a stamp is a cut of the file that is meant
pub image_of_meant : (m : Moment) (keeps : List Keep) → IsOfMeant m (image_of m keeps)
image_of_meant m keeps stamp bytes e = kept (kept_under stamp keeps) refl
  where
    cut : (n : ℕ) (meant : Option Remains) → file_meant m stamp ≡ meant → cut_to n meant ≡ Some bytes → (file : Remains) × (file_meant m stamp ≡ Some file) × IsCut file.synced file.bytes bytes
    cut n None is c = cc
    cut n (Some file) is c = (file, is, (cut_is file bytes n c).0)

    kept : (o : Option ℕ) → kept_under stamp keeps ≡ o → (file : Remains) × (file_meant m stamp ≡ Some file) × IsCut file.synced file.bytes bytes
    kept None none =
        let gone = rw none at e in
        cc
    kept (Some n) some = cut n (file_meant m stamp) refl (rw some at e)

-- a cut of the file that is meant may be left under its stamp
meant_may_stay : (m : Moment) (stamp : ℕ) (bytes : List ℕ) (file : Remains) → file_meant m stamp ≡ Some file → IsCut file.synced file.bytes bytes → MayLeave m stamp (Some bytes)
meant_may_stay m stamp bytes file is cut = by_standing (m.standing stamp) refl
  where
    cut_of : (x : Remains) → Some x ≡ Some file → IsCut x.synced x.bytes bytes
    cut_of x e =
        let same : x ≡ file = cc in
        subst (λ (y : Remains). IsCut y.synced y.bytes bytes) (sym same) cut

    by_removed : (o : Option Removed) → last_removed stamp m.removed ≡ o → m.standing stamp ≡ None → MayLeave m stamp (Some bytes)
    by_removed None none gone =
        let never = rw (gone, none) at is in
        cc
    by_removed (Some removed) found gone =
        let there = contained_in_reverse m.removed removed (found_contained (λ (x : Removed). x.stamp == stamp) (reverse m.removed) removed found) in
        let passes = found_passes (λ (x : Removed). x.stamp == stamp) (reverse m.removed) removed found in
        let same : removed.stamp ≡ stamp = grind (arith, nat_tests) in
        inr (removed, there, same, cut_of (remains_of_removed removed) (rw (gone, found) at is), subst MayGo (sym gone) tt)

    by_standing : (o : Option Standing) → m.standing stamp ≡ o → MayLeave m stamp (Some bytes)
    by_standing None gone = by_removed (last_removed stamp m.removed) refl gone
    by_standing (Some standing) stands = inl (standing, stands, cut_of (remains_of_standing standing) (rw stands at is))

-- where the list is keepable, its image is one that a crash at this moment may leave
pub keepable_image : (m : Moment) (keeps : List Keep) → IsKeepable m keeps → IsImage m (image_of m keeps)
keepable_image m keeps keepable stamp = left (image_of m keeps stamp) refl
  where
    may_go : is_some (kept_under stamp keeps) ≡ false → (file : Standing) → m.standing stamp ≡ Some file → (b : Bool) → file.settled ≡ b → file.settled ≡ false
    may_go none file stands true settled =
        let some = keepable.settled stamp file stands settled in
        cc
    may_go none file stands false settled = settled

    may_be_missing : is_some (kept_under stamp keeps) ≡ false → (o : Option Standing) → m.standing stamp ≡ o → MayGo o
    may_be_missing none None stands = tt
    may_be_missing none (Some file) stands = may_go none file stands file.settled refl

    left : (o : Option (List ℕ)) → image_of m keeps stamp ≡ o → MayLeave m stamp o
    left None e = may_be_missing (sym (image_kept m keeps stamp keepable.cuts) ∙ ap is_some e) (m.standing stamp) refl
    left (Some bytes) e =
        let meant = image_of_meant m keeps stamp bytes e in
        meant_may_stay m stamp bytes meant.0 meant.1 meant.2

-- a keepable list has just the files of its image
pub keepable_lists : (m : Moment) (keeps : List Keep) → IsKeepable m keeps → Lists keeps (image_of m keeps)
keepable_lists m keeps keepable = record { once = keepable.once; lengths = λ stamp. kept stamp (kept_under stamp keeps) refl }
  where
    cut : (n : ℕ) (meant : Option Remains) (o : Option (List ℕ)) → cut_to n meant ≡ o → IsSome o → Some n ≡ option_map length o
    cut n meant None c some = cc
    cut n None (Some bytes) c some = cc
    cut n (Some file) (Some bytes) c some = ap Some (sym (cut_is file bytes n c).1)

    kept : (stamp : ℕ) (o : Option ℕ) → kept_under stamp keeps ≡ o → kept_under stamp keeps ≡ option_map length (image_of m keeps stamp)
    kept stamp None e = rw e
    kept stamp (Some n) e = rw e (cut n (file_meant m stamp) (cut_to n (file_meant m stamp)) refl (kept_cut m keeps stamp n keepable.cuts e))

-- in a list with each stamp once, each entry is the one for its stamp
once_kept : (keeps : List Keep) → IsOnce keeps → AllByRecursion (λ keep. kept_under keep.stamp keeps ≡ Some keep.bytes) keeps
once_kept [] once = tt
once_kept (first ∷ keeps) once = (grind (arith, nat_tests), AllByRecursion-weaken (λ keep. kept_under keep.stamp keeps ≡ Some keep.bytes) (λ keep. kept_under keep.stamp (first ∷ keeps) ≡ Some keep.bytes) later keeps (once_kept keeps once.1))
  where
    later : (keep : Keep) → kept_under keep.stamp keeps ≡ Some keep.bytes → kept_under keep.stamp (first ∷ keeps) ≡ Some keep.bytes
    later keep e = grind (arith, nat_tests)

-- a list that has just the files of an image, each with its length
module _ (m : Moment) (keeps : List Keep) (image : Image) (meant : IsOfMeant m image) (lists : Lists keeps image) where
  -- its image is that one
  pub listed_image : (stamp : ℕ) → image_of m keeps stamp ≡ image stamp
  listed_image stamp = by_image (image stamp) refl
    where
      by_image : (o : Option (List ℕ)) → image stamp ≡ o → image_of m keeps stamp ≡ o
      by_image None e = rw (lists.lengths stamp, e)
      by_image (Some bytes) e =
          let file = meant stamp bytes e in
          rw (lists.lengths stamp, e, file.1) (cut_from file.0 bytes file.2)

  -- it is keepable if a crash at this moment may leave that one
  pub listed_keepable : IsImage m image → IsKeepable m keeps
  listed_keepable is = record {
    once = lists.once;
    cuts = AllByRecursion-weaken (λ keep. kept_under keep.stamp keeps ≡ Some keep.bytes) (IsCuttable m) cuttable keeps (once_kept keeps lists.once);
    settled = λ stamp file stands settled. ap is_some (lists.lengths stamp) ∙ is_some-option_map length (image stamp) ∙ stays stamp file stands settled (image stamp) (is stamp);
  }
    where
      cuttable : (keep : Keep) → kept_under keep.stamp keeps ≡ Some keep.bytes → IsCuttable m keep
      cuttable keep e =
          let there = sym (is_some-option_map length (image keep.stamp)) ∙ sym (ap is_some (lists.lengths keep.stamp)) ∙ ap is_some e in
          rw e at (ap is_some (listed_image keep.stamp) ∙ there)

      stays : (stamp : ℕ) (file : Standing) → m.standing stamp ≡ Some file → file.settled ≡ true → (o : Option (List ℕ)) → MayLeave m stamp o → IsSome o
      stays stamp file stands settled None may_go =
          let unsettled = subst MayGo stands may_go in
          cc
      stays stamp file stands settled (Some bytes) may = refl

-- a keepable list has its image
pub keepable_listed : (m : Moment) (keeps : List Keep) → IsKeepable m keeps → IsListedImage m keeps (image_of m keeps)
keepable_listed m keeps keepable = record {
  left = keepable_image m keeps keepable;
  meant = image_of_meant m keeps;
  lists = keepable_lists m keeps keepable;
}

-- a list that isn't keepable has none
pub no_image : (m : Moment) (keeps : List Keep) → (IsKeepable m keeps → ⊥) → (image : Image) → IsListedImage m keeps image → ⊥
no_image m keeps never image listed = never (listed_keepable m keeps image listed.meant listed.lists listed.left)

-- Where each removed file is the one that its stamp means, as where no stamp has two files, each image is of those.
pub image_meant : (m : Moment) (image : Image) → ((file : Removed) → Contains m.removed file → file_meant m file.stamp ≡ Some (remains_of_removed file)) → IsImage m image → IsOfMeant m image
image_meant m image alone is stamp bytes e = of_either (subst (MayLeave m stamp) e (is stamp))
  where
    of_either : MayLeave m stamp (Some bytes) → (file : Remains) × (file_meant m stamp ≡ Some file) × IsCut file.synced file.bytes bytes
    of_either (inl (file, stands, cut)) = (remains_of_standing file, rw stands, cut)
    of_either (inr (file, there, same, cut, may_go)) = (remains_of_removed file, subst (λ s. file_meant m s ≡ Some (remains_of_removed file)) same (alone file there), cut)

-- the disk that is left reads as the image, and is at rest
pub resting_rests : (image : Image) → IsAtRest (resting image)
resting_rests image = record { files = λ stamp file e. safe (image stamp) file e; none_removed = refl }
  where
    safe : (o : Option (List ℕ)) (file : Standing) → option_map safe_file o ≡ Some file → (file.synced ≡ length file.bytes) × (file.settled ≡ true)
    safe None file e = cc
    safe (Some bytes) file e = (grind arith, grind arith)

pub resting_reads : (image : Image) (stamp : ℕ) → as_it_reads (resting image) stamp ≡ image stamp
resting_reads image stamp = reads (image stamp)
  where
    reads : (o : Option (List ℕ)) → option_map (λ (file : Standing). file.bytes) (option_map safe_file o) ≡ o
    reads None = refl
    reads (Some bytes) = refl
