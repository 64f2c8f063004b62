-- Which file is chosen, and what the files read to, over images: there is one answer, and it stays where the lawful
-- files stay, or where only files older than the chosen one are other ones.
use Rattle.std.proofs.Common.{◌≡◌, ◌≢◌, ℕ, ◌<◌, ◌≤◌, eqb, List, [], ◌∷◌, ◌++◌, take, Some, refl, sym, ap, ◌∙◌, inl, inr, arith}
use Rattle.std.proofs.lemmas.Bool.{cases_lt, cases_Bool}
use Rattle.std.proofs.lemmas.Bool.Decides.{nat_tests}
use Rattle.std.proofs.lemmas.List.{length-append, take-append-le}
use Rattle.machine_law.specs.Kind as law
use Rattle.machine_law.specs.Kind.{Kind, fold}
use Rattle.snss_frames.specs.Frame.{Frame}
use Rattle.session_disk.specs.Moments.{Moment, IsAtRest}
use Rattle.session_disk.specs.Images.{Image, IsImage, as_it_reads}
use Rattle.session_disk.proofs.Leaves.{image_at_rest}
use Rattle.file_rotation.specs.Recovery.{IsLawful, IsChosen, NoneLawful, AreCommands, FoldsTo, Recovers, IsGood}
use Rattle.file_rotation.proofs.FileLaws.{one_lawful}

pub record SameChoice (s t : ℕ) (fs gs : List Frame) : Type 0 where
  pub stamp : s ≡ t
  pub frames : fs ≡ gs

-- one file is chosen
pub one_chosen : (image : Image) (s t : ℕ) (fs gs : List Frame) → IsChosen image s fs → IsChosen image t gs → SameChoice s t fs gs
one_chosen image s t fs gs a b =
    let not_later : (t < s) → ⊥ = λ l. b.newest s a.bytes fs l a.stands a.lawful in
    let not_earlier : (s < t) → ⊥ = λ l. a.newest t b.bytes gs l b.stands b.lawful in
    let here : s ≡ t = (elim (cases_lt t s) [
      | inl later ↦ absurd (not_later later)
      | inr upto ↦ elim (cases_lt s t) [ inl earlier ↦ absurd (not_earlier earlier) | inr from ↦ omega arith ]
    ]) in
    let bytes : a.bytes ≡ b.bytes = (let there = ap image here in let p = a.stands in let q = b.stands in cc) in
    record { stamp = here; frames = (one_lawful b.bytes fs gs (rw bytes at a.lawful) b.lawful).frames }

-- where one is chosen, one is lawful
pub chosen_is_lawful : (image : Image) (stamp : ℕ) (frames : List Frame) → IsChosen image stamp frames → NoneLawful image → ⊥
chosen_is_lawful image stamp frames chosen none = none stamp chosen.bytes frames chosen.stands chosen.lawful

-- each lawful file of one image is there in the other
pub record HasLawful (image other : Image) : Type 0 where
  pub keeps : (s : ℕ) (bytes : List ℕ) (frames : List Frame) → image s ≡ Some bytes → IsLawful bytes frames → other s ≡ Some bytes

pub record SameLawful (image other : Image) : Type 0 where
  pub there : HasLawful image other
  pub back : HasLawful other image

-- images that differ in files that aren't lawful have the same lawful files
pub same_lawful_but : (image other : Image) (stamp : ℕ) → ((s : ℕ) → s ≢ stamp → other s ≡ image s) →
    ((bytes : List ℕ) (frames : List Frame) → image stamp ≡ Some bytes → IsLawful bytes frames → ⊥) → ((bytes : List ℕ) (frames : List Frame) → other stamp ≡ Some bytes → IsLawful bytes frames → ⊥) → SameLawful image other
same_lawful_but image other stamp same before after = record {
  there = record {
    keeps = λ s bytes frames stands lawful. elim (cases_Bool (eqb s stamp)) [
      | inl here ↦ (let e : s ≡ stamp = grind (arith, nat_tests) in absurd (before bytes frames (ap image (sym e) ∙ stands) lawful))
      | inr apart ↦ same s (grind (arith, nat_tests)) ∙ stands
    ];
  };
  back = record {
    keeps = λ s bytes frames stands lawful. elim (cases_Bool (eqb s stamp)) [
      | inl here ↦ (let e : s ≡ stamp = grind (arith, nat_tests) in absurd (after bytes frames (ap other (sym e) ∙ stands) lawful))
      | inr apart ↦ sym (same s (grind (arith, nat_tests))) ∙ stands
    ];
  };
}

-- an image that is equal at each stamp
pub same_lawful_all : (image other : Image) → ((s : ℕ) → other s ≡ image s) → SameLawful image other
same_lawful_all image other same = record {
  there = record { keeps = λ s bytes frames stands lawful. same s ∙ stands };
  back = record { keeps = λ s bytes frames stands lawful. sym (same s) ∙ stands };
}

pub chosen_same : (image other : Image) (stamp : ℕ) (frames : List Frame) → SameLawful image other → IsChosen image stamp frames → IsChosen other stamp frames
chosen_same image other stamp frames same chosen = record {
  bytes = chosen.bytes;
  stands = same.there.keeps stamp chosen.bytes frames chosen.stands chosen.lawful;
  lawful = chosen.lawful;
  newest = λ s bytes others later stands lawful. chosen.newest s bytes others later (same.back.keeps s bytes others stands lawful) lawful;
}

-- the chosen file stays where all that is older is another
pub chosen_stays : (image other : Image) (stamp : ℕ) (frames : List Frame) → ((s : ℕ) → stamp ≤ s → other s ≡ image s) → IsChosen image stamp frames → IsChosen other stamp frames
chosen_stays image other stamp frames same chosen = record {
  bytes = chosen.bytes;
  stands = same stamp (omega arith) ∙ chosen.stands;
  lawful = chosen.lawful;
  newest = λ s bytes others later stands lawful. chosen.newest s bytes others later (sym (same s (omega arith)) ∙ stands) lawful;
}

-- the chosen file stays where another lawful one stands in its place
pub chosen_replaced : (image other : Image) (stamp : ℕ) (frames gs : List Frame) (bytes : List ℕ) → ((s : ℕ) → stamp < s → other s ≡ image s) → other stamp ≡ Some bytes →
    IsLawful bytes gs → IsChosen image stamp frames → IsChosen other stamp gs
chosen_replaced image other stamp frames gs bytes same stands lawful chosen = record {
  bytes = bytes;
  stands = stands;
  lawful = lawful;
  newest = λ s b others later there lawful'. chosen.newest s b others later (sym (same s later) ∙ there) lawful';
}

module _ {S C : Type 0} (kind : Kind S C) where
  pub recovers_chosen : (image : Image) (stamp : ℕ) (frames : List Frame) (state : S) → IsChosen image stamp frames → FoldsTo kind frames state → Recovers kind image state
  recovers_chosen image stamp frames state chosen folds = inl (stamp, frames, chosen, folds)

  pub recovers_same : (image other : Image) (state : S) → SameLawful image other → Recovers kind image state → Recovers kind other state
  recovers_same image other state same (inl h) = inl (h.0, h.1, chosen_same image other h.0 h.1 same h.2, h.3)
  recovers_same image other state same (inr h) = inr (λ s bytes frames stands lawful. h.0 s bytes frames (same.back.keeps s bytes frames stands lawful) lawful, h.1)

  -- of a disk at rest each image reads to the state to which the disk reads
  pub recovers_at_rest : (m : Moment) (image : Image) (state : S) → IsAtRest m → IsImage m image → Recovers kind (as_it_reads m) state → Recovers kind image state
  recovers_at_rest m image state rest is = recovers_same (as_it_reads m) image state (same_lawful_all (as_it_reads m) image (image_at_rest m image rest is))

  -- what reads to the first state is good before anything is told
  pub good_first : (image : Image) (first : S) (commands : List C) → Recovers kind image first → IsGood kind first commands 0 image
  good_first image first commands recovers = record { count = 0; holds_told = omega arith; within = omega arith; recovers = recovers }

  -- a good image stays good as more commands are issued
  pub good_longer : (image : Image) (first : S) (commands more : List C) (told : ℕ) → IsGood kind first commands told image → IsGood kind first (commands ++ more) told image
  good_longer image first commands more told good = record {
    count = good.count;
    holds_told = good.holds_told;
    within = omega (arith, good.within, length-append commands more);
    recovers = let prefix = take-append-le good.count commands more good.within in rw prefix good.recovers;
  }

  pub good_same : (image other : Image) (first : S) (commands : List C) (told : ℕ) → SameLawful image other → IsGood kind first commands told image → IsGood kind first commands told other
  good_same image other first commands told same good = record {
    count = good.count;
    holds_told = good.holds_told;
    within = good.within;
    recovers = recovers_same image other (fold kind first (take good.count commands)) same good.recovers;
  }

  module _ (IsState : S → Type 0) (IsCommand : C → Type 0) (laws : law.IsLawful kind IsState IsCommand) where
    -- frames are commands in one way
    pub one_commands : (frames : List Frame) (cs ds : List C) → AreCommands kind frames cs → AreCommands kind frames ds → cs ≡ ds
    one_commands [] [] [] a b = refl
    one_commands [] [] (d ∷ ds) a b = absurd b
    one_commands [] (c ∷ cs) ds a b = absurd a
    one_commands (f ∷ fs) [] ds a b = absurd a
    one_commands (f ∷ fs) (c ∷ cs) [] a b = absurd b
    one_commands (f ∷ fs) (c ∷ cs) (d ∷ ds) a b =
        let first : c ≡ d = laws.only f.id f.payload d c b.0 a.0 in
        let later = one_commands fs cs ds a.1 b.1 in cc

    -- frames fold to one state
    pub folds_one : (frames : List Frame) (s t : S) → FoldsTo kind frames s → FoldsTo kind frames t → s ≡ t
    folds_one frames s t a b = a.2 ∙ ap (fold kind kind.start) (one_commands frames a.0 b.0 a.1 b.1) ∙ sym b.2

    -- files read to one state
    pub recovers_one : (image : Image) (s t : S) → Recovers kind image s → Recovers kind image t → s ≡ t
    recovers_one image s t (inl a) (inl b) =
        let same = one_chosen image a.0 b.0 a.1 b.1 a.2 b.2 in folds_one b.1 s t (rw same.frames at a.3) b.3
    recovers_one image s t (inl a) (inr b) = absurd (chosen_is_lawful image a.0 a.1 a.2 b.0)
    recovers_one image s t (inr a) (inl b) = absurd (chosen_is_lawful image b.0 b.1 b.2 a.0)
    recovers_one image s t (inr a) (inr b) = a.1 ∙ sym b.1
