-- The file that a stamp means, found in the lists of a disk in memory.
use Rattle.std.proofs.Common.{◌≡◌, ℕ, ◌==◌, true, List, [], ◌∷◌, map, reverse, Option, Some, None, option_map, option_copied, Bor, refl, sym, ◌∙◌, arith}
use Rattle.std.proofs.lemmas.Bool.Decides.{nat_tests}
use Rattle.std.specs.List.{find, list_all}
use Rattle.std.specs.Option.{is_some}
use Rattle.session_disk.specs.declared.memory.file_list.DiskFile.{DiskFile}
use Rattle.session_disk.specs.ChangeLog.{moment_of}
use Rattle.session_disk.specs.Crashes.{remains_of_removed, file_meant, last_removed}
use Rattle.session_disk.specs.DiskFiles.{standing_of, standing_in, removed_of, remains_of, is_bounded, is_listed}
use Rattle.session_disk.proofs.Finding.{found_passes, found_passes_all, list_all-reverse, map-reverse, find-map}

-- the file that is found is the one that stands
pub find-standing : (files : List DiskFile) (stamp : ℕ) → standing_in files stamp ≡ option_map standing_of (find (λ file. file.stamp == stamp) files)
find-standing [] stamp = refl
find-standing (file ∷ files) stamp = grind (arith, nat_tests, find-standing files stamp)

find-removed : (removed : List DiskFile) (stamp : ℕ) → last_removed stamp (map removed_of removed) ≡ option_map removed_of (find (λ file. file.stamp == stamp) (reverse removed))
find-removed removed stamp =
    rw (sym (map-reverse removed_of removed)) (find-map removed_of (λ file. file.stamp == stamp) (reverse removed))

listed_bounded : (files : List DiskFile) → is_listed files ≡ true → list_all is_bounded files ≡ true
listed_bounded [] l = refl
listed_bounded (file ∷ files) l = grind (arith, nat_tests, listed_bounded files)

module _ (files removed : List DiskFile) (stamp : ℕ) where
  pub standing_meant : (file : DiskFile) → find (λ file. file.stamp == stamp) files ≡ Some file → Some (remains_of file) ≡ file_meant (moment_of files removed 0 0) stamp
  standing_meant file e = rw (find-standing files stamp, e)

  pub removed_meant : (found : Option DiskFile) → find (λ file. file.stamp == stamp) files ≡ None → found ≡ find (λ file. file.stamp == stamp) (reverse removed) → option_map remains_of found ≡ file_meant (moment_of files removed 0 0) stamp
  removed_meant found none e = rw (find-standing files stamp, none, find-removed removed stamp, sym e) (shape found)
    where
      shape : (o : Option DiskFile) → option_map remains_of o ≡ option_map remains_of_removed (option_map removed_of o)
      shape None = refl
      shape (Some file) = refl

-- what is known of the file that is found
module _ (files : List DiskFile) (stamp : ℕ) (file : DiskFile) (found : find (λ file. file.stamp == stamp) files ≡ Some file) where
  pub found_stamp : file.stamp ≡ stamp
  found_stamp =
      let passes = found_passes (λ (file : DiskFile). file.stamp == stamp) files file found in
      grind (arith, nat_tests)

  pub standing_bounded : is_listed files ≡ true → is_bounded file ≡ true
  standing_bounded listed = found_passes_all (λ (file : DiskFile). file.stamp == stamp) is_bounded files file (listed_bounded files listed) found

-- what is known of the file that was removed last
module _ (removed : List DiskFile) (stamp : ℕ) (file : DiskFile) (found : find (λ file. file.stamp == stamp) (reverse removed) ≡ Some file) where
  pub removed_bounded : list_all is_bounded removed ≡ true → is_bounded file ≡ true
  removed_bounded all =
      found_passes_all (λ (file : DiskFile). file.stamp == stamp) is_bounded (reverse removed) file (list_all-reverse is_bounded removed ∙ all) found

pub has_standing : (files : List DiskFile) (stamp : ℕ) (found : Option (Bor DiskFile)) → option_copied found ≡ find (λ file. file.stamp == stamp) files → is_some found ≡ is_some (standing_in files stamp)
has_standing files stamp found e = rw (find-standing files stamp, sym e) (same found)
  where
    same : (o : Option (Bor DiskFile)) → is_some o ≡ is_some (option_map standing_of (option_copied o))
    same None = refl
    same (Some r) = refl
