-- Orders of tabs to which a tab comes, and from which it goes again.
use Rattle.std.proofs.Common.{◌≡◌, ℕ, zero, suc, ◌<◌, ◌≤◌, Bool, true, false, if◌then◌else◌, ℤ, List, [], ◌∷◌, length}
use Rattle.std.proofs.Common.{remove, refl, ap, ◌∙◌, arith}
use Rattle.std.specs.List.{insert}
use Rattle.std.specs.Ordering.{int_eq}
use Rattle.std.proofs.lemmas.List.Edits.{length-insert}
use Rattle.window_state.proofs.IdLaws.{equals_itself, same_key}
use Rattle.browser_driver.specs.Orders.{order_of, SameOrders, SetsOrder}

-- an element that comes and goes
remove-insert : (ids : List ℤ) (place : ℕ) (id : ℤ) → place ≤ length ids → remove (insert ids place id) place ≡ ids
remove-insert [] zero id le = refl
remove-insert [] (suc n) id le = absurd (omega arith)
remove-insert (x ∷ xs) zero id le = refl
remove-insert (x ∷ xs) (suc n) id le = ap (λ ys. x ∷ ys) (remove-insert xs n id (omega arith))

-- the order that was set
pub order-set : (window : ℤ) (ids : List ℤ) (old new : List (ℤ × List ℤ)) → SetsOrder window ids old new
    → order_of window new ≡ ids
order-set window ids old new sets =
    sets window ∙ ap (λ same. if same then ids else order_of window old) (equals_itself window)

module _ (window id : ℤ) (place : ℕ) (old mid : List (ℤ × List ℤ)) (within : place ≤ length (order_of window old))
    (comes : SetsOrder window (insert (order_of window old) place id) old mid) where
  pub place-inserted : place < length (order_of window mid)
  place-inserted =
      let whole = ap length (order-set window (insert (order_of window old) place id) old mid comes)
      ∙ length-insert (order_of window old) place id within in
      omega (arith, whole)

  pub same-again : (new : List (ℤ × List ℤ)) → SetsOrder window (remove (order_of window mid) place) mid new
      → SameOrders old new
  same-again new goes w = goes w ∙ by (int_eq window w) refl
    where
      by : (b : Bool) → int_eq window w ≡ b
          → (if b then remove (order_of window mid) place else order_of w mid) ≡ order_of w old
      by true e =
          ap (λ ids. remove ids place) (order-set window (insert (order_of window old) place id) old mid comes)
          ∙ remove-insert (order_of window old) place id within ∙ ap (λ v. order_of v old) (same_key window w e)
      by false e =
          comes w ∙ ap (λ same. if same then insert (order_of window old) place id else order_of w old) e
