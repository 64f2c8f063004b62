-- The calls that lay a fresh file, one after another: what stands after each, and what a crash leaves of it.
use Rattle.std.proofs.Common.{◌≡◌, ◌≢◌, ℕ, ◌+◌, ◌<◌, true, false, max, List, [], ◌++◌, length, take, Option, Some, None, option_map, Contains, Result, Ok, refl, sym, ap, ◌∙◌, subst, inl, inr, arith}
use Rattle.std.proofs.Math.Path.{fun_ext}
use Rattle.std.proofs.lemmas.Bool.{cases_eq}
use Rattle.std.proofs.lemmas.List.{take_all}
use Rattle.session_disk.specs.declared.failure.DiskError.{DiskError}
use Rattle.session_disk.specs.Moments.{Standing, Removed, Moment, with_file, settled_file, after_create, after_append, after_sync, after_settle, bytes_of, bytes_at}
use Rattle.session_disk.specs.Images.{Image, MayGo, MayLeave, OnlyLeaves}
use Rattle.session_disk.specs.Histories.{History, Changes, Leaves}
use Rattle.session_disk.proofs.Leaves.{Leaves-call, Leaves-trans}
use Rattle.file_rotation.proofs.SafeLaws.{safe_left}
use Rattle.fresh_files.specs.Lay.{IsAbove, IsAboveRemoved, safe_file, laid, LeavesLaid, HasWhole}
use Rattle.fresh_files.proofs.MayLeave.{with_here, with_other, none_above, may_same, may_settled, Left, gone, kept, left_of_prefix, none_removed}

module _ (stamp : ℕ) (bytes : List ℕ) (old : History) where
  -- the file as it is laid, with so many bytes and so many of them synced
  abbrev pub part : ℕ → ℕ → Standing
  part prefix synced = record { bytes = take prefix bytes; synced = synced; settled = false }

  -- this file was added to the moment of entry
  pub record IsLaying (m : Moment) (prefix synced : ℕ) : Type 0 where
    pub here : m.standing stamp ≡ Some (part prefix synced)
    pub others : (s : ℕ) → s ≢ stamp → m.standing s ≡ old.now.standing s
    pub removed : m.removed ≡ old.now.removed
    pub told : m.told ≡ old.now.told
    pub creates : m.creates ≡ old.now.creates + 1

  laying_create : IsLaying (after_create stamp old.now) 0 0
  laying_create = record {
    here = with_here stamp _ old.now.standing;
    others = λ s other. with_other stamp _ old.now.standing s other;
    removed = refl;
    told = refl;
    creates = refl;
  }

  laying_append : (m : Moment) (prefix : ℕ) → IsLaying m 0 0 → IsLaying (after_append stamp (take prefix bytes) m) prefix 0
  laying_append m prefix l = record {
    here = with_here stamp _ m.standing ∙ ap (option_map (λ (f : Standing). record f { bytes = f.bytes ++ take prefix bytes })) l.here;
    others = λ s other. with_other stamp _ m.standing s other ∙ l.others s other;
    removed = l.removed;
    told = l.told;
    creates = l.creates;
  }

  laying_sync : (m : Moment) (prefix synced reached : ℕ) → IsLaying m prefix synced → IsLaying (after_sync stamp reached m) prefix (max synced reached)
  laying_sync m prefix synced reached l = record {
    here = with_here stamp _ m.standing ∙ ap (option_map (λ (f : Standing). record f { synced = max f.synced reached })) l.here;
    others = λ s other. with_other stamp _ m.standing s other ∙ l.others s other;
    removed = l.removed;
    told = l.told;
    creates = l.creates;
  }

  all_bytes : Some (settled_file (part (length bytes) (length bytes))) ≡ Some (safe_file bytes)
  all_bytes = ap (λ (b : List ℕ). Some (record { bytes = b; synced = length bytes; settled = true })) (take_all (length bytes) bytes (omega arith))

  -- under each stamp the settled files are those that are laid
  laid_here : (m : Moment) → IsLaying m (length bytes) (length bytes) → (s : ℕ) →
      option_map settled_file (m.standing s) ≡ with_file stamp (Some (safe_file bytes)) (λ t. option_map settled_file (old.now.standing t)) s
  laid_here m l s =
      elim (cases_eq s stamp) [
        | inl same ↦
            ap (λ (t : ℕ). option_map settled_file (m.standing t)) same ∙ ap (option_map settled_file) l.here ∙ all_bytes
            ∙ sym (ap (with_file stamp (Some (safe_file bytes)) (λ t. option_map settled_file (old.now.standing t))) same ∙ with_here stamp (Some (safe_file bytes)) (λ t. option_map settled_file (old.now.standing t)))
        | inr other ↦ ap (option_map settled_file) (l.others s other) ∙ sym (with_other stamp (Some (safe_file bytes)) (λ t. option_map settled_file (old.now.standing t)) s other)
      ]

  settled_laid : (m : Moment) → IsLaying m (length bytes) (length bytes) → after_settle m ≡ laid stamp bytes old.now
  settled_laid m l =
      let standing = fun_ext (laid_here m l) in
      λ i. record { standing = standing i; removed = []; told = l.told i; creates = l.creates i }

  abbrev pub Creates : {T : Type 0} → History → Result T DiskError → Type 0
  Creates h r = Changes old h r 0 (λ _. after_create stamp)

  abbrev pub Appends : {T : Type 0} → History → History → Result T DiskError → Type 0
  Appends h next r = Changes h next r (length bytes) (λ n. after_append stamp (take n bytes))

  abbrev pub Syncs : {T : Type 0} → History → History → Result T DiskError → Type 0
  Syncs h next r = Changes h next r (length (bytes_at stamp h.now)) (after_sync stamp)

  abbrev pub Settles : {T : Type 0} → History → History → Result T DiskError → Type 0
  Settles h next r = Changes h next r 0 (λ _. after_settle)

  created : {T : Type 0} {h : History} {x : T} → Creates h (Ok x) → IsLaying h.now 0 0
  created c = subst (λ (h : History). IsLaying h.now 0 0) (sym c.ok) laying_create

  appended : {T : Type 0} {h next : History} {x : T} → IsLaying h.now 0 0 → Appends h next (Ok x) → IsLaying next.now (length bytes) 0
  appended {h = h} l c = subst (λ (h' : History). IsLaying h'.now (length bytes) 0) (sym c.ok) (laying_append h.now (length bytes) l)

  synced : {T : Type 0} {h next : History} {x : T} → IsLaying h.now (length bytes) 0 → Syncs h next (Ok x) → IsLaying next.now (length bytes) (length bytes)
  synced {h = h} l c =
      let all : max 0 (length (bytes_at stamp h.now)) ≡ length bytes =
      omega (arith, ap (λ (f : Option Standing). length (bytes_of f)) l.here, ap length (take_all (length bytes) bytes (omega arith))) in
      subst (λ (h' : History). IsLaying h'.now (length bytes) (length bytes)) (sym c.ok)
      (subst (IsLaying (after_sync stamp (length (bytes_at stamp h.now)) h.now) (length bytes)) all (laying_sync h.now (length bytes) 0 (length (bytes_at stamp h.now)) l))

  -- after all four calls the file is laid
  pub settled : {T : Type 0} {h1 h2 h3 h4 : History} {x y z w : T} → Creates h1 (Ok x) → Appends h1 h2 (Ok y) → Syncs h2 h3 (Ok z) → Settles h3 h4 (Ok w) → h4.now ≡ laid stamp bytes old.now
  settled {h3 = h3} c1 c2 c3 c4 = ap (λ (h : History). h.now) c4.ok ∙ settled_laid h3.now (synced (appended (created c1) c2) c3)

  abbrev Laid : ℕ → Image → Type 0
  Laid = LeavesLaid old.now stamp bytes

  module _ (above : IsAbove stamp old.now) (older : IsAboveRemoved stamp old.now) where
    none_here : (image : Image) → image stamp ≡ None → MayLeave old.now stamp (image stamp)
    none_here image none = subst (MayLeave old.now stamp) (sym none) (subst MayGo (sym (none_above old.now stamp above (old.now.standing stamp) refl)) tt)

    -- nothing, or a prefix of the file, is added to what the moment of entry may leave
    files_left : (image : Image) → Left bytes (image stamp) → ((s : ℕ) → s ≢ stamp → MayLeave old.now s (image s)) → Laid old.now.told image
    files_left image (gone none) others = record {
      untouched = refl;
      files = inl (λ s. elim (cases_eq s stamp) [
        | inl same ↦ subst (λ (t : ℕ). MayLeave old.now t (image t)) (sym same) (none_here image none)
        | inr other ↦ others s other
      ]);
    }
    files_left image (kept prefix here) others = record { untouched = refl; files = inr (record { prefix = prefix; here = here; others = others }) }

    entry_leaves : OnlyLeaves Laid old.now
    entry_leaves image is = record { untouched = refl; files = inl is }

    laying_leaves : (m : Moment) (prefix synced : ℕ) → IsLaying m prefix synced → OnlyLeaves Laid m
    laying_leaves m prefix synced l image is =
        let removed : (r : Removed) → Contains m.removed r → r.stamp < stamp = λ r h. older r (subst (λ rs. Contains rs r) l.removed h) in
        subst (λ (t : ℕ). Laid t image) (sym l.told)
        (files_left image (left_of_prefix m stamp prefix bytes (part prefix synced) (image stamp) l.here refl removed (is stamp))
        (λ s other. may_same old.now m s (image s) (l.others s other) l.removed (is s)))

    settled_leaves : (m : Moment) (prefix synced : ℕ) → IsLaying m prefix synced → OnlyLeaves Laid (after_settle m)
    settled_leaves m prefix synced l image is =
        subst (λ (t : ℕ). Laid t image) (sym l.told)
        (files_left image (left_of_prefix (after_settle m) stamp prefix bytes (settled_file (part prefix synced)) (image stamp) (ap (option_map settled_file) l.here) refl (λ r h. absurd (none_removed [] r refl h)) (is stamp))
        (λ s other. may_settled old.now (after_settle m) s (image s) (ap (option_map settled_file) (l.others s other)) refl (is s)))

    -- whatever the last of the calls so far answers
    pub create_leaves : {T : Type 0} {h1 : History} {r : Result T DiskError} → Creates h1 r → Leaves old h1 Laid
    create_leaves c1 = Leaves-call Laid c1 entry_leaves (λ _ _. laying_leaves _ 0 0 laying_create)

    pub append_leaves : {T : Type 0} {h1 h2 : History} {x : T} {r : Result T DiskError} → Creates h1 (Ok x) → Appends h1 h2 r → Leaves old h2 Laid
    append_leaves {h1 = h1} c1 c2 =
        let l = created c1 in
        Leaves-trans (create_leaves c1) (Leaves-call Laid c2 (laying_leaves h1.now 0 0 l) (λ n _. laying_leaves _ n 0 (laying_append h1.now n l)))

    pub sync_leaves : {T : Type 0} {h1 h2 h3 : History} {x y : T} {r : Result T DiskError} → Creates h1 (Ok x) → Appends h1 h2 (Ok y) → Syncs h2 h3 r → Leaves old h3 Laid
    sync_leaves {h2 = h2} c1 c2 c3 =
        let l = appended (created c1) c2 in
        Leaves-trans (append_leaves c1 c2) (Leaves-call Laid c3 (laying_leaves h2.now (length bytes) 0 l) (λ n _. laying_leaves _ (length bytes) (max 0 n) (laying_sync h2.now (length bytes) 0 n l)))

    pub settle_leaves : {T : Type 0} {h1 h2 h3 h4 : History} {x y z : T} {r : Result T DiskError} → Creates h1 (Ok x) → Appends h1 h2 (Ok y) → Syncs h2 h3 (Ok z) → Settles h3 h4 r → Leaves old h4 Laid
    settle_leaves {h3 = h3} c1 c2 c3 c4 =
        let l = synced (appended (created c1) c2) c3 in
        Leaves-trans (sync_leaves c1 c2 c3) (Leaves-call Laid c4 (laying_leaves h3.now (length bytes) (length bytes) l) (λ _ _. settled_leaves h3.now (length bytes) (length bytes) l))

-- the file that was laid stands whole after a crash
pub laid_whole : (stamp : ℕ) (bytes : List ℕ) (m next : Moment) → next ≡ laid stamp bytes m → OnlyLeaves (HasWhole stamp bytes) next
laid_whole stamp bytes m next e image is =
    safe_left next stamp (safe_file bytes) (record {
      stands = ap (λ (n : Moment). n.standing stamp) e ∙ with_here stamp (Some (safe_file bytes)) (λ s. option_map settled_file (m.standing s));
      synced = refl;
      settled = refl;
    }) image is
