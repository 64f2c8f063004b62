-- The files before a stamp, cleared away one after another: what stands so far, and what a crash may leave of it.
use Rattle.std.proofs.Common.{◌≡◌, ◌≢◌, ◌⊎◌, ℕ, ◌<◌, ◌≤◌, Bool, true, false, eqb, cond, List, [], ◌∷◌, Option, Some, None, option_map, IsSome, Contains, Result, Ok, refl, sym, ap, ◌∙◌, subst, inl, inr, arith}
use Rattle.std.proofs.lemmas.Bool.{cases_Bool, cases_lt}
use Rattle.std.proofs.lemmas.Bool.Decides.{nat_tests}
use Rattle.std.proofs.lemmas.List.Elements.{Contains-append_cases, Contains-push_cases}
use Rattle.session_disk.specs.declared.failure.DiskError.{DiskError}
use Rattle.session_disk.specs.Moments.{Standing, Removed, Moment, bytes_of, bytes_at, removed_file, after_remove, after_settle, settled_file, IsNewestBelow}
use Rattle.session_disk.specs.Images.{IsCut, MayGo, MayLeave, IsOfStanding, OnlyLeaves}
use Rattle.session_disk.specs.Histories.{History, after, Changes, Leaves}
use Rattle.session_disk.proofs.Leaves.{Leaves-refl, Leaves-after, Leaves-call, Leaves-trans}
use Rattle.file_rotation.specs.Foreign.{is_foreign}
use Rattle.file_rotation.specs.Cleared.{goes, loosened_file, loosened, LeavesWithout, IsToGo}
use Rattle.file_rotation.specs.Clearing.{HadStood, PartlyCleared, without_own, TakesOwn}

pub partly_none : (stamp : ℕ) (old : Moment) → PartlyCleared stamp old old
partly_none stamp old = record { standing = λ s. inl refl; removed = λ gone h. inl h; told = refl; creates = refl }

-- what may be missing may be so in the loosened moment too
may_go_loosened : (stamp s : ℕ) (file : Option Standing) → MayGo file → MayGo (option_map (loosened_file stamp s) file)
may_go_loosened stamp s None h = tt
may_go_loosened stamp s (Some file) h =
    elim (cases_Bool (goes stamp s file)) [ inl yes' ↦ rw yes' refl | inr no' ↦ rw no' h ]

module _ (stamp : ℕ) (old : Moment) where
  -- a file that goes may be missing
  may_go : (s : ℕ) → IsToGo old stamp s → MayGo ((loosened stamp old).standing s)
  may_go s going = rw going.stands (rw going.older refl)

  of_standing : (s : ℕ) (bytes : List ℕ) → IsOfStanding old s bytes → MayLeave (loosened stamp old) s (Some bytes)
  of_standing s bytes h = inl (loosened_file stamp s h.0, ap (option_map (loosened_file stamp s)) h.1, h.2)

  of_gone : (s : ℕ) (bytes : List ℕ) (gone : Removed) → gone.stamp ≡ s → HadStood old gone → IsCut gone.synced gone.bytes bytes → MayLeave (loosened stamp old) s (Some bytes)
  of_gone s bytes gone here had cut =
      of_standing s bytes (
        had.file,
        ap old.standing (sym here) ∙ had.stood,
        subst (λ (n : ℕ). IsCut n had.file.bytes bytes) had.synced (subst (λ (b : List ℕ). IsCut gone.synced b bytes) had.bytes cut),
      )

  module _ (new : Moment) (partly : PartlyCleared stamp old new) where
    may_go_partly : (s : ℕ) → MayGo (new.standing s) → MayGo ((loosened stamp old).standing s)
    may_go_partly s h =
        elim (partly.standing s) [
          | inl same ↦ may_go_loosened stamp s (old.standing s) (subst MayGo same h)
          | inr gone ↦ may_go s gone.1
        ]

    standing_partly : (s : ℕ) (file : Standing) → new.standing s ≡ Some file → old.standing s ≡ Some file
    standing_partly s file e =
        elim (partly.standing s) [ inl same ↦ sym same ∙ e | inr gone ↦ absurd (let none = gone.0 in cc) ]

    left_partly : (s : ℕ) (left : Option (List ℕ)) → MayLeave new s left → MayLeave (loosened stamp old) s left
    left_partly s None h = may_go_partly s h
    left_partly s (Some bytes) (inl h) = of_standing s bytes (h.0, standing_partly s h.0 h.1, h.2)
    left_partly s (Some bytes) (inr h) =
        elim (partly.removed h.0 h.1) [
          | inl before ↦ inr (h.0, before, h.2, h.3, may_go_partly s h.4)
          | inr had ↦ of_gone s bytes h.0 h.2 had h.3
        ]

    pub partly_leaves : OnlyLeaves (LeavesWithout old stamp) new
    partly_leaves image is = record { untouched = partly.told; files = λ s. left_partly s (image s) (is s) }

    settled_standing : (s : ℕ) (bytes : List ℕ) (file : Option Standing) → new.standing s ≡ file → IsOfStanding (after_settle new) s bytes → MayLeave (loosened stamp old) s (Some bytes)
    settled_standing s bytes None e h = absurd (let none = ap (option_map settled_file) e in let some = h.1 in cc)
    settled_standing s bytes (Some file) e h =
        let same : settled_file file ≡ h.0 = (let there = ap (option_map settled_file) e in let here = h.1 in cc) in
        of_standing s bytes (
          file,
          standing_partly s file e,
          subst (λ (f : Standing). IsCut f.synced f.bytes bytes) (sym same) h.2,
        )

    settled_gone : (s : ℕ) (file : Option Standing) → new.standing s ≡ file → MayGo (option_map settled_file file) → MayGo ((loosened stamp old).standing s)
    settled_gone s None e h = may_go_partly s (rw e tt)
    settled_gone s (Some file) e h = absurd cc

    left_settled : (s : ℕ) (left : Option (List ℕ)) → MayLeave (after_settle new) s left → MayLeave (loosened stamp old) s left
    left_settled s None h = settled_gone s (new.standing s) refl h
    left_settled s (Some bytes) (inl h) = settled_standing s bytes (new.standing s) refl h
    left_settled s (Some bytes) (inr h) = absurd (omega (arith, h.1.1))

    pub settled_leaves : OnlyLeaves (LeavesWithout old stamp) (after_settle new)
    settled_leaves image is = record { untouched = partly.told; files = λ s. left_settled s (image s) (is s) }

  -- a file that goes is taken away
  module _ (m : Moment) (older : ℕ) (file : Standing) (partly : PartlyCleared stamp old m) (stands : m.standing older ≡ Some file) (going : goes stamp older file ≡ true) where
    stood : old.standing older ≡ Some file
    stood = standing_partly m partly older file stands

    gone_here : (s : ℕ) (b : Bool) → (b ≡ true → s ≡ older) → (cond b None (m.standing s) ≡ old.standing s) ⊎ ((cond b None (m.standing s) ≡ None) × IsToGo old stamp s)
    gone_here s true here = inr (refl, (let at' = here refl in record { file = file; stands = ap old.standing at' ∙ stood; older = ap (λ (n : ℕ). goes stamp n file) at' ∙ going }))
    gone_here s false here = partly.standing s

    gone_now : (gone : Removed) → Contains (removed_file older (m.standing older)) gone → HadStood old gone
    gone_now gone h =
        let one : Contains (record { stamp = older; bytes = file.bytes; synced = file.synced } ∷ []) gone = rw (ap (removed_file older) stands) at h in
        elim (Contains-push_cases [] (record { stamp = older; bytes = file.bytes; synced = file.synced }) gone one) [
          | inl none ↦ absurd (omega (arith, none.1))
          | inr same ↦ record {
            file = file;
            stood = ap (λ (r : Removed). old.standing r.stamp) (sym same) ∙ stood;
            bytes = ap (λ (r : Removed). r.bytes) (sym same);
            synced = ap (λ (r : Removed). r.synced) (sym same);
          }
        ]

    partly_remove : PartlyCleared stamp old (after_remove older m)
    partly_remove = record {
      standing = λ s. gone_here s (eqb s older) (λ e. grind (arith, nat_tests));
      removed = λ gone h. elim (Contains-append_cases m.removed (removed_file older (m.standing older)) gone h) [
        | inl before ↦ partly.removed gone before
        | inr now' ↦ inr (gone_now gone now')
      ];
      told = partly.told;
      creates = partly.creates;
    }

-- so far all files from a bound on that go are gone
pub record ClearedFrom (stamp bound : ℕ) (old h : History) : Type 0 where
  pub leaves : Leaves old h (LeavesWithout old.now stamp)
  pub partly : PartlyCleared stamp old.now h.now
  pub above : (s : ℕ) (file : Standing) → h.now.standing s ≡ Some file → goes stamp s file ≡ true → s < bound

goes_below : (stamp s : ℕ) (file : Standing) → goes stamp s file ≡ true → s < stamp
goes_below stamp s file e = grind (arith, nat_tests)

pub cleared_none : (stamp : ℕ) (h : History) → ClearedFrom stamp stamp h h
cleared_none stamp h = record {
  leaves = Leaves-refl (LeavesWithout h.now stamp) h (partly_leaves stamp h.now h.now (partly_none stamp h.now));
  partly = partly_none stamp h.now;
  above = λ s file stands going. goes_below stamp s file going;
}

-- the file found next
module _ (stamp bound older : ℕ) (old h : History) (so_far : ClearedFrom stamp bound old h) (within : bound ≤ stamp) (newest : IsNewestBelow h.now.standing (Some bound) (Some older)) where
  file_here : (file : Option Standing) → h.now.standing older ≡ file → IsSome file → (own : Standing) × (h.now.standing older ≡ Some own)
  file_here None e some = absurd (let is = some in cc)
  file_here (Some own) e some = (own, e)

  goes_here : (file : Standing) → h.now.standing older ≡ Some file → is_foreign (bytes_at older h.now) ≡ false → goes stamp older file ≡ true
  goes_here file stands own =
      let below : older < stamp = omega (arith, newest.within) in
      let own' : is_foreign file.bytes ≡ false = ap (λ (f : Option Standing). is_foreign (bytes_of f)) (sym stands) ∙ own in
      grind (arith, nat_tests)

  partly_by : (foreign : Bool) → is_foreign (bytes_at older h.now) ≡ foreign → PartlyCleared stamp old.now (cond foreign h (after (after_remove older) h)).now
  partly_by true e = so_far.partly
  partly_by false e =
      let (file, stands) = file_here (h.now.standing older) refl newest.stands in
      partly_remove stamp old.now h.now older file so_far.partly stands (goes_here file stands e)

  leaves_by : (foreign : Bool) → is_foreign (bytes_at older h.now) ≡ foreign → Leaves old (cond foreign h (after (after_remove older) h)) (LeavesWithout old.now stamp)
  leaves_by true e = so_far.leaves
  leaves_by false e =
      Leaves-trans so_far.leaves (Leaves-after (LeavesWithout old.now stamp) h (after_remove older) (partly_leaves stamp old.now h.now so_far.partly)
      (partly_leaves stamp old.now (after_remove older h.now) (partly_by false e)))

  upto : (s : ℕ) (file : Standing) → h.now.standing s ≡ Some file → goes stamp s file ≡ true → s ≤ older
  upto s file stands going = newest.greatest s (rw stands refl) (so_far.above s file stands going)

  above_foreign : is_foreign (bytes_at older h.now) ≡ true → (s : ℕ) (file : Standing) → h.now.standing s ≡ Some file → goes stamp s file ≡ true → s < older
  above_foreign foreign s file stands going =
      elim (cases_lt s older) [
        | inl less ↦ less
        | inr not_less ↦
            let small = upto s file stands going in
            let here : s ≡ older = omega arith in
            let own : is_foreign file.bytes ≡ true = ap (λ (f : Option Standing). is_foreign (bytes_of f)) (sym stands ∙ ap h.now.standing here) ∙ foreign in
            absurd (grind (arith, nat_tests))
      ]

  above_removed : (s : ℕ) (b : Bool) → eqb s older ≡ b → (file : Standing) → cond b None (h.now.standing s) ≡ Some file → goes stamp s file ≡ true → s < older
  above_removed s true e file stands going = absurd cc
  above_removed s false e file stands going =
      let small = upto s file stands going in
      let other : s ≢ older = grind (arith, nat_tests) in omega arith

  above_by : (foreign : Bool) → is_foreign (bytes_at older h.now) ≡ foreign → (s : ℕ) (file : Standing) → (cond foreign h (after (after_remove older) h)).now.standing s ≡ Some file → goes stamp s file ≡ true → s < older
  above_by true e = above_foreign e
  above_by false e = λ s file stands going. above_removed s (eqb s older) refl file stands going

  next : ClearedFrom stamp older old (without_own older h)
  next = record {
    leaves = leaves_by (is_foreign (bytes_at older h.now)) refl;
    partly = partly_by (is_foreign (bytes_at older h.now)) refl;
    above = above_by (is_foreign (bytes_at older h.now)) refl;
  }

  pub cleared_more : {T : Type 0} {new : History} {x : T} → TakesOwn older h new (Ok x) → ClearedFrom stamp older old new
  cleared_more takes = subst (ClearedFrom stamp older old) (sym takes.ok) next

  -- whatever the call answers
  pub takes_leaves : {T : Type 0} {new : History} {r : Result T DiskError} → TakesOwn older h new r → Leaves old new (LeavesWithout old.now stamp)
  takes_leaves takes =
      elim takes.done [
        | inl same ↦ subst (λ (k : History). Leaves old k (LeavesWithout old.now stamp)) (sym same) so_far.leaves
        | inr taken ↦ subst (λ (k : History). Leaves old k (LeavesWithout old.now stamp)) (sym taken) next.leaves
      ]

  pub takes_partly : {T : Type 0} {new : History} {r : Result T DiskError} → TakesOwn older h new r → PartlyCleared stamp old.now new.now
  takes_partly takes =
      elim takes.done [
        | inl same ↦ subst (λ (k : History). PartlyCleared stamp old.now k.now) (sym same) so_far.partly
        | inr taken ↦ subst (λ (k : History). PartlyCleared stamp old.now k.now) (sym taken) next.partly
      ]

-- the settling at the end
module _ (stamp : ℕ) (old h : History) (partly : PartlyCleared stamp old.now h.now) (leaves : Leaves old h (LeavesWithout old.now stamp)) where
  pub settle_leaves : {T : Type 0} {new : History} {r : Result T DiskError} → Changes h new r 0 (λ _. after_settle) → Leaves old new (LeavesWithout old.now stamp)
  settle_leaves changes =
      Leaves-trans leaves (Leaves-call (LeavesWithout old.now stamp) changes (partly_leaves stamp old.now h.now partly) (λ n _. settled_leaves stamp old.now h.now partly))
