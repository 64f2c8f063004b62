-- What a crash inside a rotation leaves is good where the moment of entry leaves only what is good: the fresh file counts
-- only where it is whole, and then it is the newest and reads to the very state.
use Rattle.std.proofs.Common.{◌≡◌, ◌≢◌, ℕ, ◌<◌, ◌≤◌, List, length, take, Option, Some, None, option_map, IsSome, if◌then◌else◌, ◌==◌, refl, sym, ap, ◌∙◌, subst, inl, inr, arith}
use Rattle.std.proofs.lemmas.Bool.{cases_eq, cases_lt, eq-eqb, ne_eqb}
use Rattle.std.proofs.lemmas.List.{take_all}
use Rattle.machine_law.specs.Kind.{Kind, fold}
use Rattle.machine_law.specs.Kind as machine
use Rattle.snss_frames.specs.Frame.{Frame}
use Rattle.session_disk.specs.Moments.{Standing, Moment}
use Rattle.session_disk.specs.Images.{Image, MayGo, MayLeave, IsImage, OnlyLeaves}
use Rattle.session_disk.specs.Histories.{History, Leaves}
use Rattle.session_disk.proofs.Leaves.{Leaves-weaken}
use Rattle.file_rotation.specs.Recovery.{IsLawful, Recovers, IsGood}
use Rattle.file_rotation.specs.Cleared.{loosened_file, loosened}
use Rattle.fresh_files.specs.Fresh.{fresh, Restates}
use Rattle.fresh_files.specs.Lay.{IsAbove, IsAboveRemoved}
use Rattle.fresh_files.specs.Rotation.{HasFresh, LeavesRotated}
use Rattle.fresh_files.proofs.MayLeave.{none_above}
use Rattle.fresh_files.proofs.FileLaws.{fresh_short, fresh_reads}
use Rattle.fresh_files.proofs.ImageLaws.{SameLawful, recovers_same, recovers_newest}

-- the image without the file under a stamp
abbrev without : ℕ → Image → Image
without stamp image s = if s == stamp then None else image s

without_here : (stamp : ℕ) (image : Image) → without stamp image stamp ≡ None
without_here stamp image = rw (eq-eqb stamp stamp refl) refl

without_other : (stamp : ℕ) (image : Image) (s : ℕ) → s ≢ stamp → without stamp image s ≡ image s
without_other stamp image s other = rw (ne_eqb s stamp other) refl

-- a file under a stamp that isn't lawful changes no lawful file
same_without : (stamp : ℕ) (image : Image) (bytes : List ℕ) → image stamp ≡ Some bytes → ((fs : List Frame) → IsLawful bytes fs → ⊥) → SameLawful (without stamp image) image
same_without stamp image bytes here refused = record {
  there = λ s b fs lawful stands. elim (cases_eq s stamp) [
    | inl same ↦ absurd (let none = without_here stamp image in let e = ap (without stamp image) (sym same) in cc)
    | inr other ↦ sym (without_other stamp image s other) ∙ stands
  ];
  back = λ s b fs lawful stands. elim (cases_eq s stamp) [
    | inl same ↦ absurd (let is : b ≡ bytes = (let e = ap image same in cc) in refused fs (rw is at lawful))
    | inr other ↦ without_other stamp image s other ∙ stands
  ];
}

some_of : {A B : Type 0} (f : A → B) (o : Option A) (y : B) → option_map f o ≡ Some y → IsSome o
some_of f None y e = absurd cc
some_of f (Some x) y e = refl

-- a file that is left is older than a stamp above all that stand or were removed
left_older : (m : Moment) (stamp : ℕ) → IsAbove stamp m → IsAboveRemoved stamp m → (s : ℕ) (bytes : List ℕ) → MayLeave m s (Some bytes) → s < stamp
left_older m stamp above older s bytes (inl h) = above s (let there : IsSome (m.standing s) = rw h.1 refl in there)
left_older m stamp above older s bytes (inr h) = omega (arith, older h.0 h.1, h.2)

above_loosened : (m : Moment) (stamp : ℕ) → IsAbove stamp m → IsAbove stamp (loosened stamp m)
above_loosened m stamp above s there = above s (loosened_some (m.standing s) there)
  where
    loosened_some : (file : Option Standing) → IsSome (option_map (loosened_file stamp s) file) → IsSome file
    loosened_some None h = h
    loosened_some (Some file) h = refl

module _ (m : Moment) (bytes : List ℕ) (image : Image) (f : HasFresh m bytes image) where
  -- no file is newer than the fresh one
  newest : (s : ℕ) (other : List ℕ) → f.stamp < s → image s ≡ Some other → ⊥
  newest s other later e =
      elim (f.others s (λ same. omega arith)) [
        | inl left ↦ let less = left_older m f.stamp f.above f.above_removed s other (subst (MayLeave m s) e left) in omega arith
        | inr left ↦
            let less = left_older (loosened f.stamp m) f.stamp (above_loosened m f.stamp f.above) f.above_removed s other (subst (MayLeave (loosened f.stamp m) s) e left.1) in
            omega arith
      ]

  -- without the fresh file, where that isn't whole, the image is one of the moment
  image_without : f.prefix < length bytes → IsImage m (without f.stamp image)
  image_without short s =
      elim (cases_eq s f.stamp) [
        | inl same ↦
            let none : without f.stamp image s ≡ None = ap (without f.stamp image) same ∙ without_here f.stamp image in
            subst (MayLeave m s) (sym none) (subst MayGo (sym (ap m.standing same ∙ none_above m f.stamp f.above (m.standing f.stamp) refl)) tt)
        | inr other ↦
            subst (MayLeave m s) (sym (without_other f.stamp image s other))
            (elim (f.others s other) [ inl left ↦ left | inr left ↦ absurd (omega (arith, left.0)) ])
      ]

module _ {S C : Type 0} (kind : Kind S C) (IsState : S → Type 0) (IsCommand : C → Type 0) (laws : machine.IsLawful kind IsState IsCommand)
    (state : S) (restates : Restates kind state) (bytes : List ℕ) (written : bytes ≡ fresh kind state) where
  -- the whole fresh file reads to the very state
  fresh_recovers : (image : Image) (stamp : ℕ) → image stamp ≡ Some bytes → ((s : ℕ) (other : List ℕ) → stamp < s → image s ≡ Some other → ⊥) → Recovers kind image state
  fresh_recovers image stamp here newest =
      let (fs, lawful, folds) = fresh_reads kind IsState IsCommand laws state restates in
      recovers_newest kind image stamp bytes fs state here (rw written lawful) folds newest

  module _ (first : S) (q : List C) (after : state ≡ fold kind first q) (m : Moment) (told : m.told ≤ length q) (entry : OnlyLeaves (IsGood kind first q) m) where
    good_short : (image : Image) (f : HasFresh m bytes image) → f.prefix < length bytes → IsGood kind first q m.told image
    good_short image f short =
        let good = entry (without f.stamp image) (image_without m bytes image f short) in
        let refused : (fs : List Frame) → IsLawful (take f.prefix bytes) fs → ⊥ =
        λ fs l. fresh_short kind IsState IsCommand laws state restates f.prefix (omega (arith, ap length written)) fs (rw written at l) in
        record {
          count = good.count;
          holds_told = good.holds_told;
          within = good.within;
          recovers = recovers_same kind (without f.stamp image) image (fold kind first (take good.count q)) (same_without f.stamp image (take f.prefix bytes) f.here refused) good.recovers;
        }

    good_whole : (image : Image) (f : HasFresh m bytes image) → length bytes ≤ f.prefix → IsGood kind first q m.told image
    good_whole image f long =
        let all : take (length q) q ≡ q = take_all (length q) q (omega arith) in
        record {
          count = length q;
          holds_told = told;
          within = omega arith;
          recovers = subst (Recovers kind image) (after ∙ ap (fold kind first) (sym all))
              (fresh_recovers image f.stamp (f.here ∙ ap Some (take_all f.prefix bytes long)) (newest m bytes image f));
        }

    pub rotated_good : (now : ℕ) (image : Image) → LeavesRotated m bytes now image → IsGood kind first q now image
    rotated_good now image l =
        subst (λ (t : ℕ). IsGood kind first q t image) (sym l.untouched)
        (elim l.files [
          | inl same ↦ entry image same
          | inr f ↦ elim (cases_lt f.prefix (length bytes)) [ inl short ↦ good_short image f short | inr long ↦ good_whole image f long ]
        ])

  -- a rotation leaves only good pairs, whatever it answers
  pub rotation_good : (first : S) (q : List C) (old new : History) → state ≡ fold kind first q → old.now.told ≤ length q → OnlyLeaves (IsGood kind first q) old.now →
      Leaves old new (LeavesRotated old.now bytes) → Leaves old new (IsGood kind first q)
  rotation_good first q old new after told entry l = Leaves-weaken (IsGood kind first q) (rotated_good first q after old.now told entry) l
