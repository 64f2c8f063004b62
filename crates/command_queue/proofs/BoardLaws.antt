-- Each step on a board keeps its rule, from any state in which it holds. The joined seat knows how the words end.
use Rattle.std.proofs.Common.{◌≡◌, ◌≢◌, ◌≤◌, ℕ, zero, suc, true, false, true≢false, List, [], ◌∷◌, length, max, set, slice_index, slice_set, sym, refl, ap, ◌∙◌, subst, ⊎_elim, arith}
use Rattle.std.proofs.lemmas.List.{set-get_or}
use mathlib.Core.Option.{some, none, some-injective}
use lib.ListN.{get_elem?}
use Rattle.atomic_table.specs.Table.{Me, Allows, Splits, Joins, Final, Seen, step, keeps}
use Rattle.atomic_table.proofs.Lists.{at_set, at_snoc}
use Rattle.command_queue.specs.declared.board_rule.Acks.{Acks}
use Rattle.command_queue.specs.declared.board.Word.{Word}
use Rattle.command_queue.specs.declared.board.Word.TheVariants.{Session, Tabs, Ended}
use Rattle.command_queue.specs.Seats.{number, at_word, with_word, in_words}
use Rattle.command_queue.specs.BoardRule.{acks, Below, Agrees, Kept, raised, Posts, Looks}

below_raised : (xs : List ℕ) (i n : ℕ) → Below xs (raised xs i n)
below_raised [] i n j = omega arith
below_raised (x ∷ xs) zero n zero = omega arith
below_raised (x ∷ xs) zero n (suc j) = omega arith
below_raised (x ∷ xs) (suc i) n zero = omega arith
below_raised (x ∷ xs) (suc i) n (suc j) = below_raised xs i n j

set_below : (xs ys : List ℕ) (i n : ℕ) → Below xs ys → n ≤ slice_index ys i → Below (slice_set xs i n) ys
set_below [] ys i n b h j = b j
set_below (x ∷ xs) ys zero n b h zero = h
set_below (x ∷ xs) ys zero n b h (suc j) = b (suc j)
set_below (x ∷ xs) [] (suc i) n b h zero = b zero
set_below (x ∷ xs) [] (suc i) n b h (suc j) = set_below xs [] i n (λ k. b (suc k)) h j
set_below (x ∷ xs) (y ∷ ys) (suc i) n b h zero = b zero
set_below (x ∷ xs) (y ∷ ys) (suc i) n b h (suc j) = set_below xs ys i n (λ k. b (suc k)) h j

off : false ≡ true → ⊥
off e = true≢false (sym e)

abbrev All : (ℕ → Acks → Type 0) → List Acks → Type 0
All F views = (by : ℕ) (v : Acks) → get_elem? views by ≡ some v → F by v

all_set : (F : ℕ → Acks → Type 0) (views : List Acks) (by : ℕ) (w : Acks) → F by w
    → ((j : ℕ) (u : Acks) → j ≢ by → get_elem? views j ≡ some u → F j u) → All F (set views by w)
all_set F views by w mine others j u e = ⊎_elim
    (λ (x : (j ≡ by) × (w ≡ u)). subst (λ (y : ℕ × Acks). F y.0 y.1) (λ i. (sym x.0 i, x.1 i)) mine)
    (λ (x : (j ≢ by) × (get_elem? views j ≡ some u)). others j u x.0 x.1) (at_set views by j w u e)

-- three words, each read
pub three : (ws : List ℕ) (a b c : ℕ) → length ws ≡ 3
    → get_elem? ws 0 ≡ some a → get_elem? ws 1 ≡ some b → get_elem? ws 2 ≡ some c
    → record { session = a; tabs = b; ended = c } ≡ in_words ws
three [] a b c e x y z = absurd (omega arith)
three (p ∷ []) a b c e x y z = absurd (omega arith)
three (p ∷ q ∷ []) a b c e x y z = absurd (omega arith)
three (p ∷ q ∷ r ∷ l) a b c e x y z = λ i.
    record {
      session = sym (some-injective p a x) i;
      tabs = sym (some-injective q b y) i;
      ended = sym (some-injective r c z) i;
    }

-- a word of three is written
pub written : (w : Word) (xs : List ℕ) (n : ℕ) → length xs ≡ 3
    → in_words (slice_set xs (number w) n) ≡ with_word w n (in_words xs)
written w [] n e = absurd (omega arith)
written w (p ∷ []) n e = absurd (omega arith)
written w (p ∷ q ∷ []) n e = absurd (omega arith)
written Session (p ∷ q ∷ r ∷ l) n e = refl
written Tabs (p ∷ q ∷ r ∷ l) n e = refl
written Ended (p ∷ q ∷ r ∷ l) n e = refl

pub read_at : (w : Word) (xs : List ℕ) → slice_index xs (number w) ≡ at_word w (in_words xs)
read_at Session xs = refl
read_at Tabs xs = refl
read_at Ended xs = refl

module _ {S : Type 0} where
  -- the one writer raises a word
  pub posts : (slots id i k : ℕ) (me : Me S Acks) → me.0.posts ≡ true
      → Allows Kept slots id me i (λ n. max n k) (λ _. Posts (step slots i k 0 none) me)
  posts slots id i k me may s h len at small =
      let v = me.0 in
      let mine = (h.1 id v at).0 may in
      let w : Acks = acks v.posts v.looks (raised v.posted i k) v.seen in
      let new = raised s.words i k in
      let more : (xs : List ℕ) → Below xs s.words → Below xs new = λ xs b j.
      let r = below_raised s.words i k j in let q = b j in omega arith in (
        w,
        keeps,
        tt,
        (
          h.0,
          all_set (Agrees h.0 new) s.views id w
              ((λ _. (mine.0, ap (λ ws. raised ws i k) mine.1)), (λ l. more v.seen ((h.1 id v at).1 l)))
              (λ j u apart e.
              ((λ p. absurd (apart (((h.1 j u e).0 p).0 ∙ sym mine.0))), (λ l. more u.seen ((h.1 j u e).1 l)))),
        ),
        refl,
      )

  -- who may look sees a word
  pub looks : (slots id i : ℕ) (me : Me S Acks) → me.0.looks ≡ true
      → Allows Kept slots id me i (λ n. n) (Looks (step slots i 0 0 none) me)
  looks slots id i me may s h len at small =
      let v = me.0 in
      let found = slice_index s.words i in
      let below = (h.1 id v at).1 may in
      let w : Acks = acks v.posts v.looks v.posted (slice_set v.seen i found) in
      let same : s.words ≡ slice_set s.words i found = sym (set-get_or s.words i 0) in (
        w,
        keeps,
        tt,
        subst (λ (ws : List ℕ). (writer : ℕ) × All (Agrees writer ws) (set s.views id w)) same (
          h.0,
          all_set (Agrees h.0 s.words) s.views id w
              ((h.1 id v at).0, (λ _. set_below v.seen s.words i found below (omega arith)))
              (λ j u _ e. h.1 j u e),
        ),
        (refl, below i),
      )

  pub splits : (id : ℕ) (v : Acks) → v.posts ≡ true → v.looks ≡ true
      → Splits {S = S} Kept id v (acks true false v.posted []) (acks false true [] v.seen)
  splits id v a b s h at =
      let l = acks true false v.posted [] in
      let r = acks false true [] v.seen in
      let mine = h.1 id v at in
      let old : All (Agrees h.0 s.words) (set s.views id l) = all_set (Agrees h.0 s.words) s.views id l
      ((λ _. mine.0 a), (λ p. absurd (off p))) (λ j u _ e. h.1 j u e) in (
        h.0,
        λ j u e. ⊎_elim (λ x. old j u x)
            (λ (is : r ≡ u). subst (Agrees h.0 s.words j) is ((λ p. absurd (off p)), (λ _. mine.1 b)))
            (at_snoc (set s.views id l) r u j e),
      )

  pub joins : (id : ℕ) (v : Acks) (other : ℕ) (u : Acks) → v.posts ≡ true → u.looks ≡ true
      → Joins {S = S} Kept id v other u (acks true true v.posted u.seen) (acks false false [] [])
  joins id v other u a b s h at apart there =
      let w = acks true true v.posted u.seen in
      let mine = (h.1 id v at).0 a in
      let was : get_elem? s.views other ≡ some u = ⊎_elim (λ x. absurd (apart x.0)) (λ x. x.1)
      (at_set s.views id other w u there) in
      let theirs = (h.1 other u was).1 b in
      let now : All (Agrees h.0 s.words) (set s.views id w) = all_set (Agrees h.0 s.words) s.views id w
      ((λ _. mine), (λ _. theirs)) (λ j y _ e. h.1 j y e) in (
        h.0,
        all_set (Agrees h.0 s.words) (set s.views id w) other (acks false false [] [])
            ((λ p. absurd (off p)), (λ p. absurd (off p))) (λ j y _ e. now j y e),
      )

  -- what a board holds at its end
  pub ends : (id : ℕ) (v : Acks) (ws : List ℕ) (xs : List S) → v.posts ≡ true → v.looks ≡ true
      → Final (Seen Kept id v) ws xs → (ws ≡ v.posted) × Below v.seen v.posted
  ends id v ws xs a b f =
      let s = f.0 in
      let mine = f.1.0.1 id v f.1.1 in
      let same = (mine.0 a).1 in
      (sym f.2 ∙ same, subst (Below v.seen) same (mine.1 b))
