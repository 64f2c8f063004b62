-- The stamp of a fresh file is above all others, and what a crash leaves while older files are cleared away.
use Rattle.std.proofs.Common.{◌≡◌, ◌≢◌, ℕ, true, false, List, [], length, Option, Some, None, option_map, Ok, refl, sym, ap, ◌∙◌, subst, inl, inr, arith}
use Rattle.std.proofs.lemmas.Bool.{cases_Bool}
use Rattle.std.proofs.lemmas.Bool.Decides.{nat_tests}
use Rattle.std.proofs.lemmas.List.{take_all}
use Rattle.session_disk.specs.Moments.{Standing, Moment, settled_file, IsNewestBelow}
use Rattle.session_disk.specs.Images.{Image}
use Rattle.session_disk.specs.Histories.{History, Leaves}
use Rattle.session_disk.proofs.Leaves.{Leaves-trans, Leaves-weaken}
use Rattle.file_rotation.specs.Stamps.{fresh_stamp}
use Rattle.file_rotation.specs.Cleared.{goes, loosened_file, loosened, LeavesWithout}
use Rattle.file_rotation.proofs.SafeLaws.{safe_left}
use Rattle.fresh_files.specs.Lay.{IsAbove, IsAboveRemoved, safe_file, laid, LeavesLaid}
use Rattle.fresh_files.specs.Rotation.{AreRemovedOlder, IsFreshStamp, LeavesRotated}
use Rattle.fresh_files.proofs.MayLeave.{with_here, with_other, KeepsFile, may_keep, none_removed}

above_greatest : (m : Moment) (clock stamp : ℕ) (greatest : Option ℕ) → IsNewestBelow m.standing None greatest → fresh_stamp clock greatest ≡ Ok stamp → IsAbove stamp m
above_greatest m clock stamp None newest e s there = absurd (newest s there tt)
above_greatest m clock stamp (Some g) newest e s there = let small = newest.greatest s there tt in grind (arith, nat_tests)

-- a fresh stamp is above those of all files
pub fresh_above : {IsMoment : ℕ → Type 0} (m : Moment) (stamp : ℕ) → IsFreshStamp IsMoment m stamp → IsAbove stamp m
fresh_above m stamp fresh = above_greatest m fresh.clock stamp fresh.greatest fresh.newest fresh.value

pub above_removed : (m : Moment) (stamp : ℕ) → IsAbove stamp m → AreRemovedOlder m → IsAboveRemoved stamp m
above_removed m stamp above older file h =
    let (s, there, small) = older file h in omega (arith, above s there, small)

-- no file goes that has the stamp itself
kept_here : (stamp : ℕ) (file : Standing) → goes stamp stamp file ≡ false
kept_here stamp file = grind (arith, nat_tests)

-- a file that may be missing keeps all else where its name was settled first
keeps_loosened : (stamp s : ℕ) (file : Option Standing) → KeepsFile (option_map (loosened_file stamp s) file) (option_map (loosened_file stamp s) (option_map settled_file file))
keeps_loosened stamp s None = record { go = λ h. h; stands = λ f e. absurd cc }
keeps_loosened stamp s (Some file) = record {
  go = λ h. elim (cases_Bool (goes stamp s file)) [ inl yes' ↦ rw yes' refl | inr no' ↦ absurd (let settled : true ≡ false = rw no' at h in cc) ];
  stands = λ f e.
      let same : loosened_file stamp s (settled_file file) ≡ f = cc in
      (loosened_file stamp s file, refl, ap (λ (x : Standing). x.bytes) same, ap (λ (x : Standing). x.synced) same);
}

module _ (m : Moment) (stamp : ℕ) (bytes : List ℕ) (above : IsAbove stamp m) (older : IsAboveRemoved stamp m) where
  -- while the file is laid a crash leaves what one inside a rotation may leave
  laid_rotated : (told : ℕ) (image : Image) → LeavesLaid m stamp bytes told image → LeavesRotated m bytes told image
  laid_rotated told image l = record {
    untouched = l.untouched;
    files = elim l.files [
      | inl is ↦ inl is
      | inr f ↦ inr (record { stamp = stamp; above = above; above_removed = older; prefix = f.prefix; here = f.here; others = λ s other. inl (f.others s other) })
    ];
  }

  -- the file that was laid doesn't go
  here_loosened : (loosened stamp (laid stamp bytes m)).standing stamp ≡ Some (safe_file bytes)
  here_loosened =
      ap (option_map (loosened_file stamp stamp)) (with_here stamp (Some (safe_file bytes)) (λ s. option_map settled_file (m.standing s)))
      ∙ rw (kept_here stamp (safe_file bytes)) refl

  others_loosened : (s : ℕ) → s ≢ stamp → KeepsFile ((loosened stamp m).standing s) ((loosened stamp (laid stamp bytes m)).standing s)
  others_loosened s other =
      rw (with_other stamp (Some (safe_file bytes)) (λ t. option_map settled_file (m.standing t)) s other) (keeps_loosened stamp s (m.standing s))

  -- nor does a crash leave more while the older ones are cleared away
  cleared_rotated : (told : ℕ) (image : Image) → LeavesWithout (laid stamp bytes m) stamp told image → LeavesRotated m bytes told image
  cleared_rotated told image l = record {
    untouched = l.untouched;
    files = inr (record {
      stamp = stamp;
      above = above;
      above_removed = older;
      prefix = length bytes;
      here = safe_left (loosened stamp (laid stamp bytes m)) stamp (safe_file bytes) (record { stands = here_loosened; synced = refl; settled = refl }) image l.files
          ∙ ap Some (sym (take_all (length bytes) bytes (omega arith)));
      others = λ s other. inr (
        omega arith,
        may_keep (loosened stamp m) (loosened stamp (laid stamp bytes m)) s (image s) (others_loosened s other) (λ r h. absurd (none_removed [] r refl h)) (l.files s),
      );
    });
  }

module _ (old : History) (stamp : ℕ) (bytes : List ℕ) (above : IsAbove stamp old.now) (older : IsAboveRemoved stamp old.now) where
  -- after the laying, whatever it answered
  pub lay_leaves : {h : History} → Leaves old h (LeavesLaid old.now stamp bytes) → Leaves old h (LeavesRotated old.now bytes)
  lay_leaves l = Leaves-weaken (LeavesRotated old.now bytes) (laid_rotated old.now stamp bytes above older) l

  -- and after the clearing, whatever that answered
  pub clear_leaves : {h next : History} → Leaves old h (LeavesLaid old.now stamp bytes) → h.now ≡ laid stamp bytes old.now → Leaves h next (LeavesWithout h.now stamp) → Leaves old next (LeavesRotated old.now bytes)
  clear_leaves {h} {next} l e clear =
      Leaves-trans (lay_leaves l) (Leaves-weaken (LeavesRotated old.now bytes) (cleared_rotated old.now stamp bytes above older)
      (subst (λ (m : Moment). Leaves h next (LeavesWithout m stamp)) e clear))

-- the same from a moment before which nothing changed
pub rotation_leaves : {IsMoment : ℕ → Type 0} (old h new : History) (stamp : ℕ) (bytes : List ℕ) → h ≡ old → IsFreshStamp IsMoment old.now stamp → AreRemovedOlder old.now →
    (IsAboveRemoved stamp h.now → Leaves h new (LeavesRotated h.now bytes)) → Leaves old new (LeavesRotated old.now bytes)
rotation_leaves old h new stamp bytes same fresh older leaves =
    subst (λ (h' : History). IsAboveRemoved stamp h'.now → Leaves h' new (LeavesRotated h'.now bytes)) same leaves
    (above_removed old.now stamp (fresh_above old.now stamp fresh) older)
