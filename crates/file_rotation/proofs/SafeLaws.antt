-- A lawful file that is safe, with nothing newer beside it, is the chosen one of each image.
use Rattle.std.proofs.Common.{◌≡◌, ℕ, ◌<◌, ◌≤◌, true, List, length, Option, Some, None, Contains, ap, ◌∙◌, subst, inl, inr, arith}
use Rattle.std.proofs.lemmas.List.{take_all}
use Rattle.snss_frames.specs.Frame.{Frame}
use Rattle.session_disk.specs.Moments.{Standing, Removed, Moment}
use Rattle.session_disk.specs.Images.{Image, IsCut, MayGo, MayLeave, IsImage}
use Rattle.file_rotation.specs.Recovery.{IsLawful, IsChosen}

-- a file stands whole in each image
pub record IsSafe (m : Moment) (stamp : ℕ) (file : Standing) : Type 0 where
  pub stands : m.standing stamp ≡ Some file
  pub synced : file.synced ≡ length file.bytes
  pub settled : file.settled ≡ true

-- no newer file stands or was removed
pub record IsLatest (m : Moment) (stamp : ℕ) : Type 0 where
  pub standing : (s : ℕ) → stamp < s → m.standing s ≡ None
  pub removed : (gone : Removed) → Contains m.removed gone → gone.stamp ≤ stamp

settled_stays : (file : Standing) → file.settled ≡ true → MayGo (Some file) → ⊥
settled_stays file settled h = cc

module _ (m : Moment) (stamp : ℕ) (file : Standing) (safe : IsSafe m stamp file) where
  left_safe : (left : Option (List ℕ)) → MayLeave m stamp left → left ≡ Some file.bytes
  left_safe None h = absurd (settled_stays file safe.settled (subst MayGo safe.stands h))
  left_safe (Some bytes) (inl h) =
      let same : h.0 ≡ file = (let here = h.1 in let stands = safe.stands in cc) in
      let cut : IsCut file.synced file.bytes bytes = subst (λ (f : Standing). IsCut f.synced f.bytes bytes) same h.2 in
      ap Some (cut.prefix ∙ take_all cut.kept file.bytes (omega (arith, safe.synced, cut.synced_kept)))
  left_safe (Some bytes) (inr h) = absurd (settled_stays file safe.settled (subst MayGo safe.stands h.4))

  pub safe_left : (image : Image) → IsImage m image → image stamp ≡ Some file.bytes
  safe_left image is = left_safe (image stamp) (is stamp)

  none_later : IsLatest m stamp → (s : ℕ) → stamp < s → (left : Option (List ℕ)) → MayLeave m s left → (bytes : List ℕ) → left ≡ Some bytes → ⊥
  none_later latest s later None h bytes e = absurd cc
  none_later latest s later (Some b) (inl h) bytes e = let none = latest.standing s later in let some = h.1 in absurd cc
  none_later latest s later (Some b) (inr h) bytes e = let early = latest.removed h.0 h.1 in omega (arith, h.2)

  pub safe_chosen : IsLatest m stamp → (frames : List Frame) → IsLawful file.bytes frames → (image : Image) → IsImage m image → IsChosen image stamp frames
  safe_chosen latest frames lawful image is = record {
    bytes = file.bytes;
    stands = safe_left image is;
    lawful = lawful;
    newest = λ s other others later stands lawful'. none_later latest s later (image s) (is s) other stands;
  }
