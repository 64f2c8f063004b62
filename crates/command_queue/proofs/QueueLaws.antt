-- Each move on a queue keeps its rule, from any state in which it holds. The joined pass knows what is left.
use Rattle.std.proofs.Common.{◌≡◌, ◌≢◌, ℕ, zero, suc, true, false, true≢false, List, [], ◌∷◌, ◌++◌, length, drop, set, sym, refl, ap, ◌∙◌, subst, ⊎_elim, append_assoc, arith, Result, Ok, Err}
use Rattle.std.specs.Prelude.{MatchResult}
use mathlib.Core.Option.{some, some-ne-none}
use lib.ListN.{get_elem?}
use Rattle.crossbeam_channel.specs.Fifo.{Pushes, Pops, Forks, Merges, Learns, Held}
use Rattle.atomic_table.proofs.Lists.{at_set, at_snoc}
use Rattle.command_queue.specs.declared.queue_rule.Log.{Log}
use Rattle.command_queue.specs.QueueRule.{log, left_of, Fits, Ordered, TakesFirst}

module _ {T : Type 0} where
  at_end : (l : List (Log T)) (a b : Log T) (j : ℕ) → get_elem? l j ≢ some b
      → get_elem? (l ++ a ∷ []) j ≡ some b → j ≡ length l
  at_end [] a b zero n e = refl
  at_end [] a b (suc j) n e = absurd (some-ne-none b (sym e))
  at_end (x ∷ xs) a b zero n e = absurd (n e)
  at_end (x ∷ xs) a b (suc j) n e = ap suc (at_end xs a b j n e)

  abbrev All : (ℕ → Log T → Type 0) → List (Log T) → Type 0
  All F views = (pass : ℕ) (v : Log T) → get_elem? views pass ≡ some v → F pass v

  all_set : (F : ℕ → Log T → Type 0) (views : List (Log T)) (pass : ℕ) (w : Log T) → F pass w
      → ((j : ℕ) (u : Log T) → j ≢ pass → get_elem? views j ≡ some u → F j u) → All F (set views pass w)
  all_set F views pass w mine others j u e = ⊎_elim
      (λ (x : (j ≡ pass) × (w ≡ u)). subst (λ (y : ℕ × Log T). F y.0 y.1) (λ i. (sym x.0 i, x.1 i)) mine)
      (λ (x : (j ≢ pass) × (get_elem? views j ≡ some u)). others j u x.0 x.1) (at_set views pass j w u e)

  pub begins : Ordered {T = T} [] (log true true [] [] ∷ [])
  begins = (
    0,
    0,
    [],
    [],
    refl,
    all_set (Fits 0 0 [] []) (log true true [] [] ∷ []) 0 (log true true [] [])
        ((λ _. (refl, refl)), λ _. (refl, refl))
        (λ j u other e. absurd (other (at_end [] _ u j (λ x. some-ne-none u (sym x)) e))),
  )

  pub puts : (n pass : ℕ) (v : Log T) (x : T) → v.puts ≡ true
      → Pushes Ordered n pass v x (λ w. w ≡ log v.puts v.takes (v.sent ++ x ∷ []) v.taken)
  puts n pass v x may items views _ h at = let w : Log T = log v.puts v.takes (v.sent ++ x ∷ []) v.taken in
      let mine = h.5 pass v at in let sent = h.2 ++ x ∷ [] in (
        w,
        (
          h.0,
          h.1,
          sent,
          h.3,
          ap (λ l. l ++ x ∷ []) h.4 ∙ append_assoc h.3 items (x ∷ []),
          all_set (Fits h.0 h.1 sent h.3) views pass w
              ((λ _. ((mine.0 may).0, ap (λ l. l ++ x ∷ []) (mine.0 may).1)), mine.1)
              (λ j u other e. ((λ p. absurd (other (((h.5 j u e).0 p).0 ∙ sym (mine.0 may).0))), (h.5 j u e).1)),
        ),
        refl,
      )

  pub takes : (pass : ℕ) (v : Log T) → v.takes ≡ true
      → Pops Ordered pass v (λ x w. w ≡ log v.puts v.takes v.sent (v.taken ++ x ∷ []))
  takes pass v may x items views h at = let w : Log T = log v.puts v.takes v.sent (v.taken ++ x ∷ []) in
      let mine = h.5 pass v at in let taken = h.3 ++ x ∷ [] in (
        w,
        (
          h.0,
          h.1,
          h.2,
          taken,
          h.4 ∙ sym (append_assoc h.3 (x ∷ []) items),
          all_set (Fits h.0 h.1 h.2 taken) views pass w
              (mine.0, λ _. ((mine.1 may).0, ap (λ l. l ++ x ∷ []) (mine.1 may).1))
              (λ j u other e. ((h.5 j u e).0, λ p. absurd (other (((h.5 j u e).1 p).0 ∙ sym (mine.1 may).0)))),
        ),
        refl,
      )

  pub totals : (pass : ℕ) (v : Log T) → v.puts ≡ true → v.takes ≡ true
      → Learns Ordered pass v (λ items. v.sent ≡ v.taken ++ items)
  totals pass v a b items views h at = let mine = h.5 pass v at in
      (mine.0 a).1 ∙ h.4 ∙ ap (λ l. l ++ items) (sym (mine.1 b).1)

  -- with both rights, what is taken was the first of what was left
  pub takes_first : (pass : ℕ) (v : Log T) → v.puts ≡ true → v.takes ≡ true → Pops Ordered pass v (TakesFirst v)
  takes_first pass v a b x items views h at = let r = takes pass v b x items views h at in
      (r.0, r.1, (r.2, (items, totals pass v a b (x ∷ items) views h at)))

  pub forks : (pass : ℕ) (v : Log T) → v.puts ≡ true → v.takes ≡ true
      → Forks Ordered pass v (log true false v.sent []) (log false true [] v.taken)
  forks pass v a b items views h at =
      let l : Log T = log true false v.sent [] in let r : Log T = log false true [] v.taken in
      let mine = h.5 pass v at in let vs : List (Log T) = set views pass l in
      let Old : ℕ → Log T → Type 0 = λ j u. (u.puts ≡ true → (j ≡ h.0) × (u.sent ≡ h.2)) × (u.takes ≢ true) in
      let old : All Old vs = all_set Old views pass l ((λ _. mine.0 a), λ p. true≢false (sym p))
      (λ j u other e. ((h.5 j u e).0, λ p. other (((h.5 j u e).1 p).0 ∙ sym (mine.1 b).0))) in (
        h.0,
        length vs,
        h.2,
        h.3,
        h.4,
        λ j u e. ⊎_elim (λ x. ((old j u x).0, λ p. absurd ((old j u x).1 p)))
            (λ (is : r ≡ u). (
              (λ p. absurd (true≢false (sym (ap (λ (y : Log T). y.puts) is ∙ p)))),
              λ p. (at_end vs r u j (λ x. (old j u x).1 p) e, ap (λ (y : Log T). y.taken) (sym is) ∙ (mine.1 b).1),
            ))
            (at_snoc vs r u j e),
      )

  pub merges : (pass : ℕ) (v : Log T) (other : ℕ) (u : Log T) → v.puts ≡ true → u.takes ≡ true
      → Merges Ordered pass v other u (log true true v.sent u.taken) (log false false [] [])
  merges pass v other u a b items views h at two at' = let both : Log T = log true true v.sent u.taken in
      let mine = h.5 pass v at in let vs : List (Log T) = set views pass both in
      let was : get_elem? views other ≡ some u = ⊎_elim (λ x. absurd (two x.0)) (λ x. x.1)
      (at_set views pass other both u at') in
      let theirs = (h.5 other u was).1 b in
      let Now : ℕ → Log T → Type 0 = λ j y. j ≢ other → Fits h.0 pass h.2 h.3 j y in
      let now : All Now vs = all_set Now views pass both (λ _. ((λ _. mine.0 a), λ _. (refl, theirs.1)))
      (λ j y _ e apart. ((h.5 j y e).0, λ p. absurd (apart (((h.5 j y e).1 p).0 ∙ sym theirs.0)))) in (
        h.0,
        pass,
        h.2,
        h.3,
        h.4,
        all_set (Fits h.0 pass h.2 h.3) vs other (log false false [] [])
            ((λ p. absurd (true≢false (sym p))), λ p. absurd (true≢false (sym p))) (λ j y apart e. now j y e apart),
      )

  -- what follows a beginning of a list
  pub drop_front : (xs ys : List T) → drop (length xs) (xs ++ ys) ≡ ys
  drop_front [] ys = refl
  drop_front (x ∷ xs) ys = drop_front xs ys

  left : (v : Log T) (items : List T) → v.sent ≡ v.taken ++ items → left_of v ≡ items
  left v items e = ap (drop (length v.taken)) e ∙ drop_front v.taken items

  pub next_left : (v w : Log T) (x : T) → TakesFirst v x w
      → (left_of v ≡ x ∷ left_of w) × (w.sent ≡ w.taken ++ left_of w)
  next_left v w x t = let items = t.1.0 in
      let whole : w.sent ≡ w.taken ++ items = ap (λ (u : Log T). u.sent) t.0 ∙ t.1.1
      ∙ sym (append_assoc v.taken (x ∷ []) items) ∙ ap (λ (u : Log T). u.taken ++ items) (sym t.0) in
      let rest = left w items whole in
      (left v (x ∷ items) t.1.1 ∙ ap (λ l. x ∷ l) (sym rest), whole ∙ ap (λ l. w.taken ++ l) (sym rest))

  nil : (xs : List T) → length xs ≡ 0 → xs ≡ []
  nil [] e = refl
  nil (x ∷ xs) e = absurd (omega arith)

  pub none_left : (v : Log T) → Held 0 (λ items. v.sent ≡ v.taken ++ items) → left_of v ≡ []
  none_left v h = left v h.0 h.2 ∙ nil h.0 h.1

  -- what a call of `next` leaves
  pub next_whole : {E : Type 0} (r : Result T E) (v w : Log T) → v.puts ≡ true → v.takes ≡ true
      → v.sent ≡ v.taken ++ left_of v
      → MatchResult r (λ x. TakesFirst v x w) (λ _. (w ≡ v) × Held 0 (λ items. v.sent ≡ v.taken ++ items))
      → (w.puts ≡ true) × (w.takes ≡ true) × (w.sent ≡ w.taken ++ left_of w)
  next_whole (Ok x) v w a b e t =
      (ap (λ (u : Log T). u.puts) t.0 ∙ a, ap (λ (u : Log T). u.takes) t.0 ∙ b, (next_left v w x t).1)
  next_whole (Err x) v w a b e t = subst
      (λ (u : Log T). (u.puts ≡ true) × (u.takes ≡ true) × (u.sent ≡ u.taken ++ left_of u)) (sym t.0) (a, b, e)
