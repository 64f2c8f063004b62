-- Laws of the crash clause `Leaves`, for code that calls a disk several times: it begins at a moment whose
-- crash leaves only what has P, comes from one call, composes and weakens. A disk at rest has one image.
use Rattle.std.proofs.Common.{◌≡◌, ℕ, ◌≤◌, List, [], ◌∷◌, ◌++◌, length, Option, Some, None, option_map, Contains, Result, refl, sym, ap, ◌∙◌, subst, inl, inr, append_assoc, arith}
use Rattle.std.proofs.lemmas.List.{take_all, append_cancel_right}
use Rattle.std.proofs.lemmas.List.Elements.{Contains-append_left, Contains-append_cases, Contains-push_cases}
use Rattle.std.specs.List.{AllByRecursion}
use Rattle.session_disk.specs.declared.failure.DiskError.{DiskError}
use Rattle.session_disk.specs.Moments.{Moment, Standing, Removed, IsAtRest}
use Rattle.session_disk.specs.Images.{Image, IsCut, IsImage, MayGo, MayLeave, OnlyLeaves, as_it_reads}
use Rattle.session_disk.specs.Histories.{History, moments, after, Changes, Leaves}

-- where nothing has changed yet
pub Leaves-refl : (P : ℕ → Image → Type 0) (old : History) → OnlyLeaves P old.now → Leaves old old P
Leaves-refl P old entry = record {
  since = [];
  grew = refl;
  pairs = λ m among. elim (Contains-push_cases [] old.now m among) [
    | inl none ↦ absurd (omega (arith, none.1))
    | inr same ↦ subst (OnlyLeaves P) same entry
  ];
}

-- one step later
pub Leaves-after : (P : ℕ → Image → Type 0) (old : History) (step : Moment → Moment) → OnlyLeaves P old.now → OnlyLeaves P (step old.now) → Leaves old (after step old) P
Leaves-after P old step entry next = record {
  since = step old.now ∷ [];
  grew = refl;
  pairs = λ m among. elim (Contains-append_cases (step old.now ∷ []) (old.now ∷ []) m among) [
    | inl later ↦ subst (OnlyLeaves P) (only_one (step old.now) m later) next
    | inr first ↦ subst (OnlyLeaves P) (only_one old.now m first) entry
  ];
}
  where
    only_one : (x m : Moment) → Contains (x ∷ []) m → x ≡ m
    only_one x m among = elim (Contains-push_cases [] x m among) [
      | inl none ↦ absurd (omega (arith, none.1))
      | inr same ↦ same
    ]

-- what holds of each of two lists holds of each of their join
pub AllByRecursion-append : {X : Type 0} (P : X → Type 0) (xs ys : List X) → AllByRecursion P xs → AllByRecursion P ys → AllByRecursion P (xs ++ ys)
AllByRecursion-append P [] ys p q = q
AllByRecursion-append P (x ∷ xs) ys p q = (p.0, AllByRecursion-append P xs ys p.1 q)

-- what holds of each moves along an implication
pub AllByRecursion-weaken : {X : Type 0} (P Q : X → Type 0) → ((x : X) → P x → Q x) → (xs : List X) → AllByRecursion P xs → AllByRecursion Q xs
AllByRecursion-weaken P Q f [] p = tt
AllByRecursion-weaken P Q f (x ∷ xs) p = (f x p.0, AllByRecursion-weaken P Q f xs p.1)

-- one run of calls, and then another
pub Leaves-trans : {P : ℕ → Image → Type 0} {a b c : History} → Leaves a b P → Leaves b c P → Leaves a c P
Leaves-trans {P} {a} {b} {c} p q = record {
  since = q.since ++ p.since;
  grew = q.grew ∙ ap (λ ms. q.since ++ ms) p.grew ∙ sym (append_assoc q.since p.since (moments a));
  pairs = λ m among. elim (Contains-append_cases q.since (p.since ++ a.now ∷ []) m (subst (λ (ms : List Moment). Contains ms m) (append_assoc q.since p.since (a.now ∷ [])) among)) [
    | inl later ↦ q.pairs m (Contains-append_left q.since (b.now ∷ []) m later)
    | inr earlier ↦ p.pairs m earlier
  ];
}

-- from P to what follows from it
pub Leaves-weaken : {P : ℕ → Image → Type 0} (Q : ℕ → Image → Type 0) {old new : History} → ((told : ℕ) (image : Image) → P told image → Q told image) → Leaves old new P → Leaves old new Q
Leaves-weaken {P} Q f p = record {
  since = p.since;
  grew = p.grew;
  pairs = λ m among image is. f m.told image (p.pairs m among image is);
}

-- two properties at once
pub Leaves-both : {P Q : ℕ → Image → Type 0} {old new : History} → Leaves old new P → Leaves old new Q → Leaves old new (λ told image. P told image × Q told image)
Leaves-both {P} {Q} {old} p q =
    let same = append_cancel_right p.since q.since (moments old) (sym p.grew ∙ q.grew) in
    record {
      since = p.since;
      grew = p.grew;
      pairs = λ m among image is. (p.pairs m among image is, q.pairs m (subst (λ (since : List Moment). Contains (since ++ old.now ∷ []) m) same among) image is);
    }

-- the last moment is among those since the entry
pub Leaves-now : {P : ℕ → Image → Type 0} {old new : History} → Leaves old new P → OnlyLeaves P new.now
Leaves-now {P} {old} {new} p = p.pairs new.now (last_moment p.since p.grew)
  where
    last_moment : (since : List Moment) → moments new ≡ since ++ moments old → Contains (since ++ old.now ∷ []) new.now
    last_moment [] grew = (0, omega arith, let same : old.now ≡ new.now = cc in same)
    last_moment (m ∷ ms) grew = (0, omega arith, let same : m ≡ new.now = cc in same)

-- from one call: the moment of entry leaves only P, and so does each moment that the call may have made of it
pub Leaves-call : {T : Type 0} {old new : History} {result : Result T DiskError} {all : ℕ} {step : ℕ → Moment → Moment} (P : ℕ → Image → Type 0) → Changes old new result all step → OnlyLeaves P old.now → ((n : ℕ) → n ≤ all → OnlyLeaves P (step n old.now)) → Leaves old new P
Leaves-call {old = old} {step = step} P changes entry next =
    elim changes.done [
      | inl same ↦ subst (λ h. Leaves old h P) (sym same) (Leaves-refl P old entry)
      | inr some ↦ subst (λ h. Leaves old h P) (sym some.2) (Leaves-after P old (step some.0) entry (next some.0 some.1))
    ]

-- a cut of what is synced whole is the whole
whole_cut : (bytes cut : List ℕ) (synced : ℕ) → synced ≡ length bytes → IsCut synced bytes cut → cut ≡ bytes
whole_cut bytes cut synced e c = c.prefix ∙ take_all c.kept bytes (omega (arith, e, c.synced_kept))

none_contained : (xs : List Removed) (x : Removed) → xs ≡ [] → Contains xs x → ⊥
none_contained xs x e h = omega (arith, h.1, ap length e)

-- at rest a crash may leave only what stands under a stamp
left_at_rest : (m : Moment) → IsAtRest m → (stamp : ℕ) (standing : Option Standing) (left : Option (List ℕ)) → m.standing stamp ≡ standing → MayLeave m stamp left → left ≡ option_map (λ file. file.bytes) standing
left_at_rest m rest stamp None None e h = refl
left_at_rest m rest stamp (Some file) None e h =
    let settled = (rest.files stamp file e).1 in
    let unsettled = subst MayGo e h in
    cc
left_at_rest m rest stamp standing (Some bytes) e (inl h) =
    ap Some (whole_cut h.0.bytes bytes h.0.synced (rest.files stamp h.0 h.1).0 h.2) ∙ ap (option_map (λ file. file.bytes)) (sym h.1 ∙ e)
left_at_rest m rest stamp standing (Some bytes) e (inr h) = absurd (none_contained m.removed h.0 rest.none_removed h.1)

-- a disk at rest has one image, the files as they read
pub image_at_rest : (m : Moment) (image : Image) → IsAtRest m → IsImage m image → (stamp : ℕ) → image stamp ≡ as_it_reads m stamp
image_at_rest m image rest is stamp = left_at_rest m rest stamp (m.standing stamp) (image stamp) refl (is stamp)
