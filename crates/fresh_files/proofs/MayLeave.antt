-- What a crash may leave under one stamp, from a moment to an earlier one whose files are the same or not yet settled.
use Rattle.std.proofs.Common.{◌≡◌, ◌≢◌, ℕ, ◌<◌, true, false, List, [], length, take, Option, Some, None, option_map, IsSome, Contains, sym, ap, ◌∙◌, subst, inl, inr, refl, arith}
use Rattle.std.proofs.lemmas.Bool.{eq-eqb, ne_eqb}
use Rattle.std.proofs.lemmas.List.{length-take, take-take}
use Rattle.session_disk.specs.Moments.{Standing, Removed, Moment, with_file, settled_file}
use Rattle.session_disk.specs.Images.{IsCut, MayGo, MayLeave}
use Rattle.fresh_files.specs.Lay.{IsAbove}

-- the file that was put under a stamp, and the others
pub with_here : (stamp : ℕ) (file : Option Standing) (standing : ℕ → Option Standing) → with_file stamp file standing stamp ≡ file
with_here stamp file standing = rw (eq-eqb stamp stamp refl) refl

pub with_other : (stamp : ℕ) (file : Option Standing) (standing : ℕ → Option Standing) (s : ℕ) → s ≢ stamp → with_file stamp file standing s ≡ standing s
with_other stamp file standing s other = rw (ne_eqb s stamp other) refl

-- nothing stands under a stamp above all others
pub none_above : (m : Moment) (stamp : ℕ) → IsAbove stamp m → (file : Option Standing) → m.standing stamp ≡ file → file ≡ None
none_above m stamp above None e = refl
none_above m stamp above (Some file) e = absurd (let there : IsSome (m.standing stamp) = subst IsSome (sym e) refl in omega (arith, above stamp there))

pub none_removed : (rs : List Removed) (r : Removed) → rs ≡ [] → Contains rs r → ⊥
none_removed rs r e h = omega (arith, h.1, ap length e)

-- a file that is settled now stood before
pub of_settled : (here : Option Standing) (file : Standing) → option_map settled_file here ≡ Some file → (before : Standing) × (here ≡ Some before) × (settled_file before ≡ file)
of_settled None file e = absurd cc
of_settled (Some before) file e = (before, refl, cc)

-- what a later moment may leave of a file, an earlier one may leave too
pub record KeepsFile (old new : Option Standing) : Type 0 where
  pub go : MayGo new → MayGo old
  pub stands : (file : Standing) → new ≡ Some file → (before : Standing) × (old ≡ Some before) × (before.bytes ≡ file.bytes) × (before.synced ≡ file.synced)

keeps_same : (file : Option Standing) → KeepsFile file file
keeps_same file = record { go = λ h. h; stands = λ f e. (f, e, refl, refl) }

go_settled : (file : Option Standing) → MayGo (option_map settled_file file) → MayGo file
go_settled None h = tt
go_settled (Some file) h = absurd (let e : true ≡ false = h in cc)

keeps_settled : (file : Option Standing) → KeepsFile file (option_map settled_file file)
keeps_settled file = record {
  go = go_settled file;
  stands = λ f e.
      let (before, stood, same) = of_settled file f e in
      (before, stood, ap (λ (x : Standing). x.bytes) same, ap (λ (x : Standing). x.synced) same);
}

keeps_cut : (before file : Standing) (bytes : List ℕ) → before.bytes ≡ file.bytes → before.synced ≡ file.synced → IsCut file.synced file.bytes bytes → IsCut before.synced before.bytes bytes
keeps_cut before file bytes e f cut =
    subst (λ (n : ℕ). IsCut n before.bytes bytes) (sym f) (subst (λ (b : List ℕ). IsCut file.synced b bytes) (sym e) cut)

pub may_keep : (m next : Moment) (s : ℕ) (left : Option (List ℕ)) → KeepsFile (m.standing s) (next.standing s) → ((r : Removed) → Contains next.removed r → Contains m.removed r) → MayLeave next s left → MayLeave m s left
may_keep m next s None keeps removed h = keeps.go h
may_keep m next s (Some bytes) keeps removed (inl h) =
    let (before, stands, same, synced) = keeps.stands h.0 h.1 in inl (before, stands, keeps_cut before h.0 bytes same synced h.2)
may_keep m next s (Some bytes) keeps removed (inr h) = inr (h.0, removed h.0 h.1, h.2, h.3, keeps.go h.4)

-- where the file and the removed ones are the same
pub may_same : (m next : Moment) (s : ℕ) (left : Option (List ℕ)) → next.standing s ≡ m.standing s → next.removed ≡ m.removed → MayLeave next s left → MayLeave m s left
may_same m next s left e f h =
    may_keep m next s left (subst (KeepsFile (m.standing s)) (sym e) (keeps_same (m.standing s))) (λ r c. subst (λ rs. Contains rs r) f c) h

-- where the file is the same, but settled, and no file is left that was removed
pub may_settled : (m next : Moment) (s : ℕ) (left : Option (List ℕ)) → next.standing s ≡ option_map settled_file (m.standing s) → next.removed ≡ [] → MayLeave next s left → MayLeave m s left
may_settled m next s left e f h =
    may_keep m next s left (subst (KeepsFile (m.standing s)) (sym e) (keeps_settled (m.standing s))) (λ r c. absurd (none_removed next.removed r f c)) h

-- what is left of a file with a prefix of the bytes, where no removed file has its stamp: nothing, or a prefix
pub data Left (bytes : List ℕ) (left : Option (List ℕ)) : Type 0 where
  gone : left ≡ None → Left bytes left
  kept : (prefix : ℕ) → left ≡ Some (take prefix bytes) → Left bytes left

cut_left : (file : Standing) (bytes cut : List ℕ) (prefix : ℕ) → file.bytes ≡ take prefix bytes → IsCut file.synced file.bytes cut → Left bytes (Some cut)
cut_left file bytes cut prefix e c =
    kept c.kept (ap Some (c.prefix ∙ ap (take c.kept) e ∙ take-take c.kept prefix bytes (omega (arith, c.within, ap length e, length-take prefix bytes))))

pub left_of_prefix : (m : Moment) (stamp prefix : ℕ) (bytes : List ℕ) (file : Standing) (left : Option (List ℕ)) → m.standing stamp ≡ Some file → file.bytes ≡ take prefix bytes →
    ((r : Removed) → Contains m.removed r → r.stamp < stamp) → MayLeave m stamp left → Left bytes left
left_of_prefix m stamp prefix bytes file None stands e older h = gone refl
left_of_prefix m stamp prefix bytes file (Some cut) stands e older (inl h) =
    let same : h.0 ≡ file = (let a = h.1 in cc) in cut_left file bytes cut prefix e (subst (λ (f : Standing). IsCut f.synced f.bytes cut) same h.2)
left_of_prefix m stamp prefix bytes file (Some cut) stands e older (inr h) = absurd (omega (arith, older h.0 h.1, h.2))
