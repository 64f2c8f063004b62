-- What stands after a rotation: the fresh file, whole and safe, and the foreign files that stood; so each image recovers
-- to the state that the fresh file restates.
use Rattle.std.proofs.Common.{◌≡◌, ◌≢◌, ℕ, ◌<◌, true, false, List, [], Option, Some, None, option_map, refl, sym, ap, ◌∙◌, subst, inl, arith}
use Rattle.std.proofs.lemmas.Bool.Decides.{nat_tests}
use Rattle.machine_law.specs.Kind.{Kind}
use Rattle.machine_law.specs.Kind as machine
use Rattle.session_disk.specs.Moments.{Standing, Moment, settled_file}
use Rattle.session_disk.specs.Images.{OnlyLeaves}
use Rattle.file_rotation.specs.Foreign.{is_foreign}
use Rattle.file_rotation.specs.Cleared.{goes}
use Rattle.file_rotation.specs.Recovery.{Recovers}
use Rattle.file_rotation.proofs.ClearedLaws.{was_kept, cleared_newer, cleared_foreign}
use Rattle.file_rotation.proofs.SafeLaws.{IsSafe, IsLatest, safe_chosen}
use Rattle.fresh_files.specs.Fresh.{fresh, Restates}
use Rattle.fresh_files.specs.Lay.{IsAbove, safe_file, laid}
use Rattle.fresh_files.specs.Rotation.{rotated}
use Rattle.fresh_files.proofs.FileLaws.{fresh_reads}
use Rattle.fresh_files.proofs.MayLeave.{with_here, with_other, none_removed, of_settled}

-- a foreign file that stood before and is settled now
pub record WasForeign (m : Moment) (stamp s : ℕ) (file : Standing) : Type 0 where
  pub before : Standing
  pub stood : m.standing s ≡ Some before
  pub settled : file ≡ settled_file before
  pub foreign : is_foreign before.bytes ≡ true
  pub below : s < stamp

stays_foreign : (stamp s : ℕ) (file : Standing) → s < stamp → goes stamp s file ≡ false → is_foreign file.bytes ≡ true
stays_foreign stamp s file less e = grind (arith, nat_tests)

module _ (m : Moment) (stamp : ℕ) (bytes : List ℕ) where
  pub rotated_here : (rotated stamp bytes m).standing stamp ≡ Some (safe_file bytes)
  rotated_here = cleared_newer stamp stamp (laid stamp bytes m) (safe_file bytes) (omega arith) (with_here stamp (Some (safe_file bytes)) (λ s. option_map settled_file (m.standing s)))

  laid_other : (s : ℕ) → s ≢ stamp → (laid stamp bytes m).standing s ≡ option_map settled_file (m.standing s)
  laid_other s other = with_other stamp (Some (safe_file bytes)) (λ t. option_map settled_file (m.standing t)) s other

  -- of the other files the foreign ones stay
  pub rotated_foreign : (s : ℕ) (file : Standing) → s ≢ stamp → m.standing s ≡ Some file → is_foreign file.bytes ≡ true → (rotated stamp bytes m).standing s ≡ Some (settled_file file)
  rotated_foreign s file other stands foreign =
      cleared_foreign stamp s (laid stamp bytes m) (settled_file file) foreign (laid_other s other ∙ ap (option_map settled_file) stands)

  -- and only these
  pub rotated_other : IsAbove stamp m → (s : ℕ) (file : Standing) → s ≢ stamp → (rotated stamp bytes m).standing s ≡ Some file → WasForeign m stamp s file
  rotated_other above s file other there =
      let kept = was_kept stamp s (laid stamp bytes m) file there in
      let (before, stood, settled) = of_settled (m.standing s) kept.before (sym (laid_other s other) ∙ kept.stood) in
      let below = above s (rw stood refl) in
      let same : before.bytes ≡ kept.before.bytes = ap (λ (f : Standing). f.bytes) settled in
      record {
        before = before;
        stood = stood;
        settled = kept.settled ∙ ap settled_file (sym settled);
        foreign = ap is_foreign same ∙ stays_foreign stamp s kept.before below kept.stays;
        below = below;
      }

  no_later : IsAbove stamp m → (s : ℕ) → stamp < s → (file : Option Standing) → (rotated stamp bytes m).standing s ≡ file → file ≡ None
  no_later above s later None e = refl
  no_later above s later (Some file) e = let other = rotated_other above s file (λ same. omega arith) e in absurd (omega (arith, other.below))

  -- the fresh file is the newest
  rotated_latest : IsAbove stamp m → IsLatest (rotated stamp bytes m) stamp
  rotated_latest above = record {
    standing = λ s later. no_later above s later ((rotated stamp bytes m).standing s) refl;
    removed = λ gone h. absurd (none_removed [] gone refl h);
  }

-- what stands afterwards recovers to the state that was restated
pub rotated_recovers : {S C : Type 0} (kind : Kind S C) (IsState : S → Type 0) (IsCommand : C → Type 0) → machine.IsLawful kind IsState IsCommand → (state : S) → Restates kind state →
    (m next : Moment) (stamp : ℕ) (bytes : List ℕ) → bytes ≡ fresh kind state → IsAbove stamp m → next ≡ rotated stamp bytes m → OnlyLeaves (λ told image. Recovers kind image state) next
rotated_recovers kind IsState IsCommand laws state restates m next stamp bytes written above e =
    let (fs, lawful, folds) = fresh_reads kind IsState IsCommand laws state restates in
    let safe : IsSafe (rotated stamp bytes m) stamp (safe_file bytes) = record { stands = rotated_here m stamp bytes; synced = refl; settled = refl } in
    subst (OnlyLeaves (λ told image. Recovers kind image state)) (sym e)
    (λ image is. inl (stamp, fs, safe_chosen (rotated stamp bytes m) stamp (safe_file bytes) safe (rotated_latest m stamp bytes above) fs (rw written lawful) image is, folds))
