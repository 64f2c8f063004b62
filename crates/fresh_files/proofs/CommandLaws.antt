-- What a file of a restated state and commands since reads to, cut anywhere behind that state: the newest one counts, up
-- to the cut. What is good stays good where all commands are there.
use Rattle.std.proofs.Common.{◌≡◌, ℕ, ◌≤◌, List, ◌++◌, length, take, Some, Ok, sym, ap, ◌∙◌, subst, append_assoc, arith}
use Rattle.std.proofs.lemmas.List.{take_all}
use Rattle.std.specs.List.{AllByRecursion}
use Rattle.snss_frames.specs.Header.{header, header_of}
use Rattle.snss_frames.specs.Frame.{frame_bytes, marker}
use Rattle.snss_frames.specs.declared.header.Version.TheVariants.{Three}
use Rattle.snss_frames.proofs.HeaderLaws.{header_of-header, take-header}
use Rattle.machine_law.specs.Kind.{Kind, fold, IsLawful}
use Rattle.session_disk.specs.Images.{Image}
use Rattle.file_rotation.specs.Recovery.{Recovers, IsGood}
use Rattle.fresh_files.specs.Fresh.{frames, fresh, IsWritten, Restates}
use Rattle.fresh_files.proofs.FileLaws.{file, ReadsCut, long_prefix, whole_file}
use Rattle.fresh_files.proofs.ImageLaws.{recovers_newest}

-- the laws of a kind, for the values of some machine
pub record OfMachine {S C : Type 0} (kind : Kind S C) : Type 1 where
  pub IsState : S → Type 0
  pub IsCommand : C → Type 0
  pub laws : IsLawful kind IsState IsCommand

pub machine_of : {S C : Type 0} {IsState : S → Type 0} {IsCommand : C → Type 0} (kind : Kind S C) → IsLawful kind IsState IsCommand → OfMachine kind
machine_of {S} {C} {IsState} {IsCommand} kind laws = record { IsState = IsState; IsCommand = IsCommand; laws = laws }

module _ {S C : Type 0} (kind : Kind S C) where
  -- a file's header is that of version 3
  pub header_written : (bytes : List ℕ) (base : S) (commands : List C) → bytes ≡ file kind base commands → header_of (take 8 bytes) ≡ Ok Three
  unfolding fresh
  header_written bytes base commands e =
      let restating = frames kind (kind.compaction base) ++ frame_bytes marker in
      let split = e ∙ append_assoc (header Three) restating (frames kind commands) in
      ap (λ (x : List ℕ). header_of (take 8 x)) split ∙ ap header_of (take-header Three (restating ++ frames kind commands)) ∙ header_of-header Three

  -- an image recovers to the state after the commands up to the cut
  pub record RecoversUpTo (base : S) (commands : List C) (n : ℕ) (image : Image) : Type 0 where
    pub read : ReadsCut kind base commands n
    pub recovers : Recovers kind image (fold kind base (take read.count commands))

  module _ (of_machine : OfMachine kind) (image : Image) (stamp : ℕ) (base : S) (commands : List C) (restates : Restates kind base) (written : AllByRecursion (IsWritten kind) commands)
      (greatest : (s : ℕ) (other : List ℕ) → image s ≡ Some other → s ≤ stamp) where
    pub recovers_prefix : (n : ℕ) → length (fresh kind base) ≤ n → image stamp ≡ Some (take n (file kind base commands)) → RecoversUpTo base commands n image
    recovers_prefix n long here =
        let read = long_prefix kind base of_machine.IsState of_machine.IsCommand of_machine.laws restates commands written n long in
        record {
          read = read;
          recovers = recovers_newest kind image stamp (take n (file kind base commands)) read.read (fold kind base (take read.count commands)) here read.lawful read.folds
              (λ s other later there. let most = greatest s other there in omega arith);
        }

    -- the whole file reads to the state after all of them
    pub recovers_whole : (n : ℕ) → length (file kind base commands) ≤ n → length (fresh kind base) ≤ n → image stamp ≡ Some (take n (file kind base commands)) → Recovers kind image (fold kind base commands)
    recovers_whole n all long here =
        let r = recovers_prefix n long here in
        let count = whole_file kind base of_machine.IsState of_machine.IsCommand of_machine.laws restates commands written n all r.read in
        subst (λ (x : List C). Recovers kind image (fold kind base x)) (take_all r.read.count commands (omega (arith, count))) r.recovers

  -- all commands are there
  pub good_whole : (first : S) (q : List C) (told : ℕ) (image : Image) (state : S) → Recovers kind image state → state ≡ fold kind first q → told ≤ length q → IsGood kind first q told image
  good_whole first q told image state recovers e safe = record {
    count = length q;
    holds_told = safe;
    within = omega arith;
    recovers = subst (λ (s : S). Recovers kind image s) (e ∙ ap (fold kind first) (sym (take_all (length q) q (omega arith)))) recovers;
  }
