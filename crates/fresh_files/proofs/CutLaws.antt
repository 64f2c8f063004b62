-- The images of a moment whose newest file restates a state and holds the commands that came since: each recovers to the
-- state after a prefix of these commands, with all that were safe in it.
use Rattle.std.proofs.Common.{◌≡◌, ℕ, ◌<◌, ◌≤◌, true, List, length, take, Option, Some, None, refl, ap, ◌∙◌, subst, inl, inr, arith}
use Rattle.std.specs.List.{AllByRecursion}
use Rattle.machine_law.specs.Kind.{Kind, fold}
use Rattle.machine_law.specs.Kind as machine
use Rattle.session_disk.specs.Moments.{Standing, Moment}
use Rattle.session_disk.specs.Images.{Image, IsCut, MayGo, MayLeave, IsImage}
use Rattle.file_rotation.specs.Recovery.{Recovers}
use Rattle.file_rotation.proofs.SafeLaws.{IsLatest}
use Rattle.fresh_files.specs.Fresh.{fresh, IsWritten, Restates}
use Rattle.fresh_files.proofs.FileLaws.{file, long_prefix}
use Rattle.fresh_files.proofs.ImageLaws.{recovers_newest}

settled_stays : (here : Standing) → here.settled ≡ true → MayGo (Some here) → ⊥
settled_stays here settled h = cc

-- what is left of a settled file
left_settled : (m : Moment) (stamp : ℕ) (here : Standing) (left : Option (List ℕ)) → m.standing stamp ≡ Some here → here.settled ≡ true → MayLeave m stamp left → (cut : List ℕ) × (left ≡ Some cut) × IsCut here.synced here.bytes cut
left_settled m stamp here None stands settled h = absurd (settled_stays here settled (subst MayGo stands h))
left_settled m stamp here (Some cut) stands settled (inl h) =
    let same : h.0 ≡ here = (let there = h.1 in cc) in
    (cut, refl, subst (λ (f : Standing). IsCut f.synced f.bytes cut) same h.2)
left_settled m stamp here (Some cut) stands settled (inr h) = absurd (settled_stays here settled (subst MayGo stands h.4))

-- nothing newer is left
left_latest : (m : Moment) (stamp : ℕ) → IsLatest m stamp → (s : ℕ) (bytes : List ℕ) → stamp < s → MayLeave m s (Some bytes) → ⊥
left_latest m stamp latest s bytes later (inl h) = let none = latest.standing s later in let some = h.1 in absurd cc
left_latest m stamp latest s bytes later (inr h) = let early = latest.removed h.0 h.1 in omega (arith, h.2)

module _ {S C : Type 0} (kind : Kind S C) (base : S) where
  -- the image recovers to the state after the first so many commands; those are among them that end within the first
  -- bytes
  pub record RecoversCut (kept : List C) (safe : ℕ) (image : Image) : Type 0 where
    pub count : ℕ
    pub within : count ≤ length kept
    pub covers : (k : ℕ) → k ≤ length kept → length (file kind base (take k kept)) ≤ safe → k ≤ count
    pub recovers : Recovers kind image (fold kind base (take count kept))

  module _ (IsState : S → Type 0) (IsCommand : C → Type 0) (laws : machine.IsLawful kind IsState IsCommand) (restates : Restates kind base) (kept : List C) (kept_written : AllByRecursion (IsWritten kind) kept)
      (m : Moment) (stamp : ℕ) (here : Standing) (stands : m.standing stamp ≡ Some here) (settled : here.settled ≡ true) (bytes : here.bytes ≡ file kind base kept) (safe : length (fresh kind base) ≤ here.synced) (latest : IsLatest m stamp) where
    recovers_left : (image : Image) → IsImage m image → (cut : List ℕ) → image stamp ≡ Some cut → IsCut here.synced here.bytes cut → RecoversCut kept here.synced image
    recovers_left image is cut left c =
        let read = long_prefix kind base IsState IsCommand laws restates kept kept_written c.kept (omega (arith, safe, c.synced_kept)) in
        record {
          count = read.count;
          within = read.within;
          covers = λ k small there. read.covers k small (omega (arith, there, c.synced_kept));
          recovers = recovers_newest kind image stamp (take c.kept (file kind base kept)) read.read (fold kind base (take read.count kept))
              (left ∙ ap Some (c.prefix ∙ ap (take c.kept) bytes)) read.lawful read.folds
              (λ s other later there. left_latest m stamp latest s other later (subst (MayLeave m s) there (is s)));
        }

    pub recovers_cut : (image : Image) → IsImage m image → RecoversCut kept here.synced image
    recovers_cut image is =
        let (cut, left, c) = left_settled m stamp here (image stamp) stands settled (is stamp) in recovers_left image is cut left c
