-- The files that are left are laid one by one, in the order of the list.
use Rattle.std.proofs.Common.{◌≡◌, ℕ, suc, ◌+◌, ◌<◌, ◌≤◌, ◌==◌, Bool, true, false, not, ◌||◌, List, [], ◌∷◌, ◌++◌, length, get_or, take, drop, Option, Some, None, IsSome, IsNone, option_map, option_and_then, refl, sym, ap, ◌∙◌, subst, arith, add-one}
use Rattle.std.proofs.lemmas.Bool.Decides.{nat_tests}
use Rattle.std.proofs.lemmas.List.{take_all, take-append-drop}
use Rattle.std.proofs.Math.Seq.{take-suc, drop-cons}
use Rattle.std.specs.List.{AllByRecursion, list_all}
use Rattle.std.specs.Option.{option_or, is_some}
use Rattle.session_disk.specs.declared.memory.crash.Keep.{Keep}
use Rattle.session_disk.specs.declared.memory.file_list.DiskFile.{DiskFile}
use Rattle.session_disk.specs.ChangeLog.{moment_of}
use Rattle.session_disk.specs.Crashes.{IsKeepable, IsOnce, image_of, kept_under, cut_to, file_meant, resting}
use Rattle.session_disk.specs.DiskFiles.{standing_of, standing_in, all_above, is_listed}
use Rattle.session_disk.specs.Moments.{Moment, Standing, with_file, safe_file}
use Rattle.session_disk.proofs.DiskFiles.{stands_above}
use Rattle.session_disk.proofs.Leaves.{AllByRecursion-append}

-- what a list keeps, entry by entry
pub kept_under-append : (stamp : ℕ) (xs ys : List Keep) → kept_under stamp (xs ++ ys) ≡ option_or (kept_under stamp xs) (kept_under stamp ys)
kept_under-append stamp [] ys = refl
kept_under-append stamp (x ∷ xs) ys = grind (arith, kept_under-append stamp xs ys)

IsOnce-push : (xs : List Keep) (keep : Keep) → IsOnce xs → kept_under keep.stamp xs ≡ None → IsOnce (xs ++ keep ∷ [])
IsOnce-push [] keep once none = (refl, tt)
IsOnce-push (x ∷ xs) keep once none =
    let apart : kept_under x.stamp (xs ++ keep ∷ []) ≡ None = grind (arith, nat_tests, kept_under-append x.stamp xs (keep ∷ [])) in
    (ap is_some apart, IsOnce-push xs keep once.1 (grind (arith, nat_tests)))

IsOnce-prefix : (xs ys : List Keep) (keep : Keep) → IsOnce (xs ++ keep ∷ ys) → IsNone (kept_under keep.stamp xs)
IsOnce-prefix [] ys keep once = refl
IsOnce-prefix (x ∷ xs) ys keep once = grind (arith, nat_tests, kept_under-append x.stamp xs (keep ∷ ys), IsOnce-prefix xs ys keep once.1)

abbrev pub IsCuttable : Moment → Keep → Type 0
IsCuttable m keep = IsSome (cut_to keep.bytes (file_meant m keep.stamp))

-- a stamp that the list keeps has a cut
pub kept_cut : (m : Moment) (keeps : List Keep) (stamp kept : ℕ) → AllByRecursion (IsCuttable m) keeps → kept_under stamp keeps ≡ Some kept → IsSome (cut_to kept (file_meant m stamp))
kept_cut m [] stamp kept cuts e = cc
kept_cut m (keep ∷ keeps) stamp kept cuts e = here_or_later (stamp == keep.stamp) refl (kept_cut m keeps stamp kept cuts.1)
  where
    here_or_later : (b : Bool) → (stamp == keep.stamp) ≡ b → (kept_under stamp keeps ≡ Some kept → IsSome (cut_to kept (file_meant m stamp))) → IsSome (cut_to kept (file_meant m stamp))
    here_or_later true t later =
        let same : stamp ≡ keep.stamp = grind (arith, nat_tests) in
        let length_kept : kept ≡ keep.bytes = grind (arith, nat_tests) in
        rw (same, length_kept) cuts.0
    here_or_later false t later = later (grind arith)

-- what is laid after a prefix of the list
pub record Laid (m : Moment) (prefix : List Keep) (left : List DiskFile) : Type 0 where
  pub listed : is_listed left ≡ true
  pub stands : standing_in left ≡ (resting (image_of m prefix)).standing
  pub once : IsOnce prefix
  pub cuts : AllByRecursion (IsCuttable m) prefix

pub Laid-none : (m : Moment) → Laid m [] []
Laid-none m = record { listed = refl; stands = refl; once = tt; cuts = tt }

pub is_some-option_map : {X Y : Type 0} (f : X → Y) (o : Option X) → is_some (option_map f o) ≡ is_some o
is_some-option_map f None = refl
is_some-option_map f (Some x) = refl

-- the image has just the stamps that the list keeps
pub image_kept : (m : Moment) (keeps : List Keep) (stamp : ℕ) → AllByRecursion (IsCuttable m) keeps → is_some (image_of m keeps stamp) ≡ is_some (kept_under stamp keeps)
image_kept m keeps stamp cuts = kept (kept_under stamp keeps) refl
  where
    kept : (o : Option ℕ) → kept_under stamp keeps ≡ o → is_some (image_of m keeps stamp) ≡ is_some o
    kept None e = rw e
    kept (Some n) e = rw e (kept_cut m keeps stamp n cuts e)

-- what stands among the files that are laid is what the start of the list keeps
pub laid_kept : (m : Moment) (prefix : List Keep) (left : List DiskFile) (stamp : ℕ) → Laid m prefix left → is_some (standing_in left stamp) ≡ is_some (kept_under stamp prefix)
laid_kept m prefix left stamp laid =
    ap (λ (standing : ℕ → Option Standing). is_some (standing stamp)) laid.stands ∙ is_some-option_map safe_file (image_of m prefix stamp) ∙ image_kept m prefix stamp laid.cuts

-- one more file
module _ (m : Moment) (prefix : List Keep) (left : List DiskFile) (laid : Laid m prefix left) (keep : Keep) (bytes : List ℕ) (fresh : kept_under keep.stamp prefix ≡ None) (cut : cut_to keep.bytes (file_meant m keep.stamp) ≡ Some bytes) where
  next_image : (stamp : ℕ) → with_file keep.stamp (Some (safe_file bytes)) (resting (image_of m prefix)).standing stamp ≡ (resting (image_of m (prefix ++ keep ∷ []))).standing stamp
  next_image stamp = rw (kept_under-append stamp prefix (keep ∷ [])) (at_stamp (stamp == keep.stamp) refl (kept_under stamp prefix) refl)
    where
      at_stamp : (b : Bool) → (stamp == keep.stamp) ≡ b → (o : Option ℕ) → kept_under stamp prefix ≡ o → with_file keep.stamp (Some (safe_file bytes)) (resting (image_of m prefix)).standing stamp ≡ option_map safe_file (option_and_then (λ kept. cut_to kept (file_meant m stamp)) (option_or (kept_under stamp prefix) (kept_under stamp (keep ∷ []))))
      at_stamp true t o e =
          let same : stamp ≡ keep.stamp = grind (arith, nat_tests) in
          let fresh_here : kept_under stamp prefix ≡ None = rw same fresh in
          let cut_here : cut_to keep.bytes (file_meant m stamp) ≡ Some bytes = rw same cut in
          rw (t, fresh_here, cut_here)
      at_stamp false t None e = rw (e, t)
      at_stamp false t (Some kept) e = rw (e, t)

  pub Laid-next : (left' : List DiskFile) → is_listed left' ≡ true → standing_in left' ≡ with_file keep.stamp (Some (safe_file bytes)) (standing_in left) → Laid m (prefix ++ keep ∷ []) left'
  Laid-next left' listed stands = record {
    listed = listed;
    stands = stands ∙ ap (with_file keep.stamp (Some (safe_file bytes))) laid.stands ∙ (λ j stamp. next_image stamp j);
    once = IsOnce-push prefix keep laid.once fresh;
    cuts = AllByRecursion-append (IsCuttable m) prefix (keep ∷ []) laid.cuts (ap is_some cut, tt);
  }

none_from : {X : Type 0} (o : Option X) → is_some o ≡ false → o ≡ None
none_from None h = refl
none_from (Some x) h = cc

-- the entry in a place of the list, after those before it
module _ (m : Moment) (keeps : List Keep) (i : ℕ) (left : List DiskFile) (laid : Laid m (take i keeps) left) (d : Keep) (within : i < length keeps) where
  split_at : keeps ≡ take i keeps ++ get_or keeps i d ∷ drop (suc i) keeps
  split_at = sym (take-append-drop i keeps) ∙ ap (λ rest. take i keeps ++ rest) (drop-cons keeps i d within)

  -- its stamp has come before
  pub come_again : is_some (standing_in left (get_or keeps i d).stamp) ≡ true → IsKeepable m keeps → ⊥
  come_again stands keepable =
      let none = IsOnce-prefix (take i keeps) (drop (suc i) keeps) (get_or keeps i d) (subst IsOnce split_at keepable.once) in
      let kept = laid_kept m (take i keeps) left (get_or keeps i d).stamp laid in
      cc

  -- its file is laid
  pub Laid-push : (left' : List DiskFile) (bytes : List ℕ) → is_some (standing_in left (get_or keeps i d).stamp) ≡ false → Some bytes ≡ cut_to (get_or keeps i d).bytes (file_meant m (get_or keeps i d).stamp) → is_listed left' ≡ true → standing_in left' ≡ with_file (get_or keeps i d).stamp (Some (safe_file bytes)) (standing_in left) → Laid m (take (i + 1) keeps) left'
  Laid-push left' bytes absent cut listed stands =
      let fresh = none_from (kept_under (get_or keeps i d).stamp (take i keeps)) (sym (laid_kept m (take i keeps) left (get_or keeps i d).stamp laid) ∙ absent) in
      let next = Laid-next m (take i keeps) left laid (get_or keeps i d) bytes fresh (sym cut) left' listed stands in
      rw (add-one, take-suc keeps i d within) next

-- no file whose name is settled is left out
settled_kept : (files : List DiskFile) (keeps : List Keep) → list_all (λ file. not file.settled || is_some (kept_under file.stamp keeps)) files ≡ true → (stamp : ℕ) (file : Standing) → standing_in files stamp ≡ Some file → file.settled ≡ true → IsSome (kept_under stamp keeps)
settled_kept [] keeps all stamp file e settled = cc
settled_kept (first ∷ files) keeps all stamp file e settled = grind (arith, nat_tests, settled_kept files keeps)

settled_tested : (files : List DiskFile) (keeps : List Keep) → is_listed files ≡ true → ((stamp : ℕ) (file : Standing) → standing_in files stamp ≡ Some file → file.settled ≡ true → IsSome (kept_under stamp keeps)) → list_all (λ file. not file.settled || is_some (kept_under file.stamp keeps)) files ≡ true
settled_tested [] keeps l h = refl
settled_tested (first ∷ files) keeps l h =
    let above : all_above first.stamp files ≡ true = grind (arith, nat_tests) in
    let here : (not first.settled || is_some (kept_under first.stamp keeps)) ≡ true = tested first.settled refl in
    let later = settled_tested files keeps (grind (arith, nat_tests)) (λ stamp file e settled. h stamp file (grind (arith, nat_tests, stands_above first.stamp files stamp above)) settled) in
    grind arith
  where
    tested : (b : Bool) → first.settled ≡ b → (not first.settled || is_some (kept_under first.stamp keeps)) ≡ true
    tested true e =
        let kept = h first.stamp (standing_of first) (grind (arith, nat_tests)) e in
        grind arith
    tested false e = grind arith

module _ (files removed : List DiskFile) (keeps : List Keep) where
  pub left_out : is_listed files ≡ true → list_all (λ file. not file.settled || is_some (kept_under file.stamp keeps)) files ≡ false → IsKeepable (moment_of files removed 0 0) keeps → ⊥
  left_out listed some keepable =
      let all = settled_tested files keeps listed keepable.settled in
      cc

  pub all_laid : (i : ℕ) (left : List DiskFile) → list_all (λ file. not file.settled || is_some (kept_under file.stamp keeps)) files ≡ true → length keeps ≤ i → Laid (moment_of files removed 0 0) (take i keeps) left → IsKeepable (moment_of files removed 0 0) keeps
  all_laid i left all end laid =
      let whole = take_all i keeps end in
      record { once = rw whole at laid.once; cuts = rw whole at laid.cuts; settled = settled_kept files keeps all }
