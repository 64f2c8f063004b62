-- What a list keeps when its last item is changed, when an item goes to its end and when some go.
use Rattle.std.proofs.Common.{◌≡◌, ℕ, ◌+◌, ◌-◌, ◌<◌, ◌≤◌, zero, suc, Bool, true, false, not, List, [], ◌∷◌, ◌++◌, length, take, drop, set, get_or, refl, ap, ◌∙◌, length-append, length-take, length-drop, arith}
use Rattle.std.specs.List.{AllByRecursion, after_last, before_last, remove, suffix_len}
use Rattle.std.proofs.lemmas.List.Sums.{suffix_len_is}
use Rattle.closed_entries.specs.LastItem.{on_last, HoldsOfLast}

module _ {X : Type 0} where
  -- behind others, the last item is the last item still
  pub on_last-behind : (change : X → X) (xs : List X) (y : X) (ys : List X) → on_last change (xs ++ y ∷ ys) ≡ xs ++ on_last change (y ∷ ys)
  on_last-behind change [] y ys = refl
  on_last-behind change (x ∷ []) y ys = refl
  on_last-behind change (x ∷ z ∷ zs) y ys = ap (λ l. x ∷ l) (on_last-behind change (z ∷ zs) y ys)

  pub on_last-appended : (change : X → X) (xs : List X) (x : X) → on_last change (xs ++ x ∷ []) ≡ xs ++ change x ∷ []
  on_last-appended change xs x = on_last-behind change xs x []

  pub length-on_last : (change : X → X) (xs : List X) → length (on_last change xs) ≡ length xs
  length-on_last change [] = refl
  length-on_last change (x ∷ []) = refl
  length-on_last change (x ∷ y ∷ ys) = let rest = length-on_last change (y ∷ ys) in omega arith

  pub all-on_last : (P : X → Type 0) (change : X → X) → ((x : X) → P x → P (change x)) → (xs : List X) → AllByRecursion P xs → AllByRecursion P (on_last change xs)
  all-on_last P change keeps [] all = tt
  all-on_last P change keeps (x ∷ []) all = (keeps x all.0, tt)
  all-on_last P change keeps (x ∷ y ∷ ys) all = (all.0, all-on_last P change keeps (y ∷ ys) all.1)

  pub all-on_last-given : (P R : X → Type 0) (change : X → X) → ((x : X) → P x → R x → P (change x)) → (xs : List X) → AllByRecursion P xs → HoldsOfLast R xs → AllByRecursion P (on_last change xs)
  all-on_last-given P R change keeps [] all last = tt
  all-on_last-given P R change keeps (x ∷ []) all last = (keeps x all.0 last, tt)
  all-on_last-given P R change keeps (x ∷ y ∷ ys) all last = (all.0, all-on_last-given P R change keeps (y ∷ ys) all.1 last)

  pub last-on_last : (P Q : X → Type 0) (change : X → X) → ((x : X) → P x → Q (change x)) → (xs : List X) → HoldsOfLast P xs → HoldsOfLast Q (on_last change xs)
  last-on_last P Q change keeps [] last = last
  last-on_last P Q change keeps (x ∷ []) last = keeps x last
  last-on_last P Q change keeps (x ∷ y ∷ []) last = keeps y last
  last-on_last P Q change keeps (x ∷ y ∷ z ∷ zs) last = last-on_last P Q change keeps (y ∷ z ∷ zs) last

  pub last-appended : (P : X → Type 0) (xs : List X) (x : X) → P x → HoldsOfLast P (xs ++ x ∷ [])
  last-appended P [] x holds = holds
  last-appended P (y ∷ []) x holds = holds
  last-appended P (y ∷ z ∷ zs) x holds = last-appended P (z ∷ zs) x holds

  -- a list is as empty as before
  pub last-some : (change : X → X) (xs : List X) → (on_last change xs ≡ []) → xs ≡ []
  last-some change [] e = refl
  last-some change (x ∷ []) e = absurd cc
  last-some change (x ∷ y ∷ ys) e = absurd cc

  -- the last item of a list is replaced by what a change makes of it
  set-at : (change : X → X) (xs : List X) (n : ℕ) (y d : X) → n + 1 ≡ length xs → y ≡ change (get_or xs n d) → set xs n y ≡ on_last change xs
  set-at change [] n y d last e = absurd (omega arith)
  set-at change (x ∷ []) zero y d last e = ap (λ v. v ∷ []) e
  set-at change (x ∷ []) (suc n) y d last e = absurd (omega arith)
  set-at change (x ∷ z ∷ zs) zero y d last e = absurd (omega arith)
  set-at change (x ∷ z ∷ zs) (suc n) y d last e = ap (λ l. x ∷ l) (set-at change (z ∷ zs) n y d (omega arith) e)

  pub set-last : (change : X → X) (xs : List X) (n : ℕ) (x y : X) → 0 < n → n ≡ length xs → x ≡ get_or xs (n - 1) x → y ≡ change x → set xs (n - 1) y ≡ on_last change xs
  set-last change xs n x y some is here e = set-at change xs (n - 1) y x (omega arith) (e ∙ ap change here)

  pub all-appended : (P : X → Type 0) (xs : List X) (x : X) → AllByRecursion P xs → P x → AllByRecursion P (xs ++ x ∷ [])
  all-appended P [] x all holds = (holds, tt)
  all-appended P (y ∷ ys) x all holds = (all.0, all-appended P ys x all.1 holds)

  pub all-take : (P : X → Type 0) (n : ℕ) (xs : List X) → AllByRecursion P xs → AllByRecursion P (take n xs)
  all-take P zero xs all = tt
  all-take P (suc n) [] all = tt
  all-take P (suc n) (x ∷ xs) all = (all.0, all-take P n xs all.1)

  pub all-drop : (P : X → Type 0) (n : ℕ) (xs : List X) → AllByRecursion P xs → AllByRecursion P (drop n xs)
  all-drop P zero xs all = all
  all-drop P (suc n) [] all = tt
  all-drop P (suc n) (x ∷ xs) all = all-drop P n xs all.1

  pub all-append : (P : X → Type 0) (xs ys : List X) → AllByRecursion P xs → AllByRecursion P ys → AllByRecursion P (xs ++ ys)
  all-append P [] ys all others = others
  all-append P (x ∷ xs) ys all others = (all.0, all-append P xs ys all.1 others)

  -- without the newest item of a kind: what stands before it and behind it, all where there is none
  pub all-without : (P : X → Type 0) (p : X → Bool) (xs : List X) → AllByRecursion P xs → AllByRecursion P (before_last p xs ++ after_last p xs)
  all-without P p xs all = all-append P (before_last p xs) (after_last p xs) (all-take P _ xs all) (all-drop P _ xs all)

  pub length-without : (p : X → Bool) (xs : List X) → length (before_last p xs ++ after_last p xs) ≤ length xs
  length-without p xs = let n = suffix_len (λ x. not (p x)) xs in omega (arith, length-append (before_last p xs) (after_last p xs), length-take (length xs - n - 1) xs, length-drop (length xs - n) xs)

  without-at-one : (p : X → Bool) (xs : List X) (i : ℕ) (d : X) → i < length xs → p (get_or xs i d) ≡ true → ((k : ℕ) → i + 1 ≤ k → k < length xs → p (get_or xs k d) ≡ false) → remove xs i ≡ before_last p xs ++ after_last p xs
  without-at-one p xs i d inside here later =
      let same : i + 1 - 1 ≡ i = omega arith in
      let behind = suffix_len_is (λ x. not (p x)) xs (i + 1) d (omega arith) (λ k from below. ap not (later k from below)) (λ _. rw same (ap not here)) in
      let before : length xs - suffix_len (λ x. not (p x)) xs - 1 ≡ i = omega (arith, behind) in
      let after : length xs - suffix_len (λ x. not (p x)) xs ≡ suc i = omega (arith, behind) in
      rw (before, after) refl

  pub without-at : (p : X → Bool) (xs : List X) (i : ℕ) → i < length xs → ((d : X) → p (get_or xs i d) ≡ true) → ((k : ℕ) (d : X) → i + 1 ≤ k → k < length xs → p (get_or xs k d) ≡ false) → remove xs i ≡ before_last p xs ++ after_last p xs
  without-at p [] i inside here later = absurd (omega arith)
  without-at p (x ∷ xs) i inside here later = without-at-one p (x ∷ xs) i x inside (here x) (λ k. later k x)

  without-none-one : (p : X → Bool) (xs : List X) (d : X) → ((k : ℕ) → k < length xs → p (get_or xs k d) ≡ false) → before_last p xs ++ after_last p xs ≡ xs
  without-none-one p xs d none =
      let all = suffix_len_is (λ x. not (p x)) xs 0 d (omega arith) (λ k from below. ap not (none k below)) (λ h. absurd (omega arith)) in
      let after : length xs - suffix_len (λ x. not (p x)) xs ≡ 0 = omega (arith, all) in
      let before : length xs - suffix_len (λ x. not (p x)) xs - 1 ≡ 0 = omega (arith, all) in
      rw (before, after) refl

  pub without-none : (p : X → Bool) (xs : List X) → ((k : ℕ) (d : X) → k < length xs → p (get_or xs k d) ≡ false) → before_last p xs ++ after_last p xs ≡ xs
  without-none p [] none = refl
  without-none p (x ∷ xs) none = without-none-one p (x ∷ xs) x (λ k. none k x)
