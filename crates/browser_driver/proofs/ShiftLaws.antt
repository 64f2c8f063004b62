-- A list of which one element passes others: its parts before and after.
use Rattle.std.proofs.Common.{◌≡◌, ℕ, zero, suc, ◌+◌, ◌-◌, ◌<◌, ◌≤◌, List, [], ◌∷◌, ◌++◌, take, drop, length, remove, ℤ}
use Rattle.std.proofs.Common.{Bool, true, false, if◌then◌else◌, append_assoc, refl, sym, ap, ◌∙◌, arith}
use Rattle.std.specs.List.{insert}
use Rattle.std.specs.Ordering.{int_eq}
use Rattle.std.proofs.lemmas.List.{length-take, length-drop, length-append, take-append-drop, take_at, drop_at}
use Rattle.window_state.proofs.IdLaws.{same_key, flip}
use Rattle.browser_driver.specs.Orders.{moved, order_of, SameOrders, SetsOrder}
use Rattle.browser_driver.specs.SeatPlans.{set_order}
use Rattle.browser_driver.proofs.OrderLaws.{order-set}
use Rattle.browser_driver.proofs.SeatLaws.{remove-here}

-- an element at a place, and what stands around it
pub record Around (place : ℕ) (ids : List ℤ) : Type 0 where
  pub pre : List ℤ
  pub id : ℤ
  pub post : List ℤ
  pub is : ids ≡ pre ++ id ∷ post
  pub place_is : place ≡ length pre

pub around : (place : ℕ) (ids : List ℤ) → place < length ids → Around place ids
around place [] within = absurd (omega arith)
around zero (x ∷ xs) within = record { pre = []; id = x; post = xs; is = refl; place_is = refl }
around (suc n) (x ∷ xs) within =
    let rest = around n xs (omega arith) in
    record {
      pre = x ∷ rest.pre;
      id = rest.id;
      post = rest.post;
      is = ap (λ ids. x ∷ ids) rest.is;
      place_is = ap suc rest.place_is;
    }

-- it goes to another place
pub moved-around : (pre post : List ℤ) (id : ℤ) (from to : ℕ) → from ≡ length pre
    → moved from to (pre ++ id ∷ post) ≡ take to (pre ++ post) ++ id ∷ drop to (pre ++ post)
moved-around pre post id from to from_is =
    let ids = pre ++ id ∷ post in
    ap (λ n. moved n to ids) from_is
    ∙ ap (λ us. take to us ++ (take 1 (drop (length pre) ids) ++ drop to us)) (remove-here pre post id)
    ∙ ap (λ us. take to (pre ++ post) ++ (take 1 us ++ drop to (pre ++ post)))
    (drop_at pre (id ∷ post) (length pre) refl)

-- it goes behind those that it passes
pub record Behind (from to : ℕ) (ids : List ℤ) : Type 0 where
  pub pre : List ℤ
  pub id : ℤ
  pub passed : List ℤ
  pub post : List ℤ
  pub is : ids ≡ pre ++ (id ∷ passed ++ post)
  pub from_is : from ≡ length pre
  pub to_is : to ≡ length pre + length passed
  pub moved_is : moved from to ids ≡ pre ++ ((passed ++ id ∷ []) ++ post)

pub behind : (from to : ℕ) (ids : List ℤ) → from ≤ to → to < length ids → Behind from to ids
behind from to ids least within =
    let a = around from ids (omega arith) in
    let pre = a.pre in
    let k = to - from in
    let passed = take k a.post in
    let post = drop k a.post in
    let apart = take-append-drop k a.post in
    let from_is = a.place_is in
    let whole = ap length a.is ∙ length-append pre (a.id ∷ a.post) in
    let count : length passed ≡ k = simp length-take (omega (arith, whole, from_is)) in
    let to_is : to ≡ length pre + length passed = omega (arith, count, from_is) in
    let long : length (pre ++ passed) ≡ to = length-append pre passed ∙ sym to_is in
    let split : pre ++ a.post ≡ (pre ++ passed) ++ post =
    ap (λ us. pre ++ us) (sym apart) ∙ sym (append_assoc pre passed post) in
    record {
      pre = pre;
      id = a.id;
      passed = passed;
      post = post;
      is = a.is ∙ ap (λ us. pre ++ a.id ∷ us) (sym apart);
      from_is = from_is;
      to_is = to_is;
      moved_is = ap (moved from to) a.is ∙ moved-around pre a.post a.id from to from_is
          ∙ ap (λ us. take to us ++ a.id ∷ drop to us) split
          ∙ ap (λ us. us ++ a.id ∷ drop to ((pre ++ passed) ++ post)) (take_at (pre ++ passed) post to long)
          ∙ ap (λ us. (pre ++ passed) ++ a.id ∷ us) (drop_at (pre ++ passed) post to long)
          ∙ append_assoc pre passed (a.id ∷ post)
          ∙ ap (λ us. pre ++ us) (sym (append_assoc passed (a.id ∷ []) post));
    }

-- it goes before those that it passes
pub record Before (from to : ℕ) (ids : List ℤ) : Type 0 where
  pub pre : List ℤ
  pub passed : List ℤ
  pub id : ℤ
  pub post : List ℤ
  pub is : ids ≡ pre ++ ((passed ++ id ∷ []) ++ post)
  pub to_is : to ≡ length pre
  pub from_is : from ≡ length pre + length passed
  pub moved_is : moved from to ids ≡ pre ++ (id ∷ passed ++ post)

pub before : (from to : ℕ) (ids : List ℤ) → to ≤ from → from < length ids → Before from to ids
before from to ids least within =
    let a = around from ids within in
    let pre = take to a.pre in
    let passed = drop to a.pre in
    let apart = take-append-drop to a.pre in
    let place_is = a.place_is in
    let long : length pre ≡ to = simp length-take (omega (arith, place_is)) in
    let rest = length-drop to a.pre in
    let split : a.pre ++ a.post ≡ pre ++ (passed ++ a.post) =
    ap (λ us. us ++ a.post) (sym apart) ∙ append_assoc pre passed a.post in
    record {
      pre = pre;
      passed = passed;
      id = a.id;
      post = a.post;
      is = a.is ∙ ap (λ us. us ++ a.id ∷ a.post) (sym apart) ∙ append_assoc pre passed (a.id ∷ a.post)
          ∙ ap (λ us. pre ++ us) (sym (append_assoc passed (a.id ∷ []) a.post));
      to_is = sym long;
      from_is = omega (arith, long, rest, place_is);
      moved_is = ap (moved from to) a.is ∙ moved-around a.pre a.post a.id from to place_is
          ∙ ap (λ us. take to us ++ a.id ∷ drop to us) split
          ∙ ap (λ us. us ++ a.id ∷ drop to (pre ++ (passed ++ a.post))) (take_at pre (passed ++ a.post) to long)
          ∙ ap (λ us. pre ++ a.id ∷ us) (drop_at pre (passed ++ a.post) to long);
    }

-- a part of a list
pub part-is : (pre part post : List ℤ) (n k : ℕ) → n ≡ length pre → k ≡ length part
    → take k (drop n (pre ++ (part ++ post))) ≡ part
part-is pre part post n k n_is k_is =
    ap (take k) (drop_at pre (part ++ post) n (sym n_is)) ∙ take_at part post k (sym k_is)

-- a part becomes another
pub part-put : (pre part new post : List ℤ) (n k : ℕ) → n ≡ length pre → k ≡ length part
    → take n (pre ++ (part ++ post)) ++ (new ++ drop k (drop n (pre ++ (part ++ post)))) ≡ pre ++ (new ++ post)
part-put pre part new post n k n_is k_is =
    let ids = pre ++ (part ++ post) in
    ap (λ us. us ++ (new ++ drop k (drop n ids))) (take_at pre (part ++ post) n (sym n_is))
    ∙ ap (λ us. pre ++ (new ++ drop k us)) (drop_at pre (part ++ post) n (sym n_is))
    ∙ ap (λ us. pre ++ (new ++ us)) (drop_at part post k (sym k_is))

pub rotated-behind : (from to : ℕ) (ids new : List ℤ) → from ≤ to → to < length ids
    → new ≡ drop 1 (take (to + 1 - from) (drop from ids)) ++ take 1 (take (to + 1 - from) (drop from ids))
    → take from ids ++ (new ++ drop (to + 1 - from) (drop from ids)) ≡ moved from to ids
rotated-behind from to ids new least within turned =
    let v = behind from to ids least within in
    let k = to + 1 - from in
    let from_is = v.from_is in
    let to_is = v.to_is in
    let k_is : k ≡ length (v.id ∷ v.passed) = omega (arith, from_is, to_is) in
    let part : take k (drop from ids) ≡ v.id ∷ v.passed =
    ap (λ us. take k (drop from us)) v.is ∙ part-is v.pre (v.id ∷ v.passed) v.post from k from_is k_is in
    let new_is : new ≡ v.passed ++ v.id ∷ [] = turned ∙ ap (λ us. drop 1 us ++ take 1 us) part in
    ap (λ us. take from us ++ (new ++ drop k (drop from us))) v.is
    ∙ part-put v.pre (v.id ∷ v.passed) new v.post from k from_is k_is
    ∙ ap (λ us. v.pre ++ (us ++ v.post)) new_is ∙ sym v.moved_is

pub rotated-before : (from to : ℕ) (ids new : List ℤ) → to ≤ from → from < length ids
    → new ≡ drop (length (take (from + 1 - to) (drop to ids)) - 1) (take (from + 1 - to) (drop to ids))
    ++ take (length (take (from + 1 - to) (drop to ids)) - 1) (take (from + 1 - to) (drop to ids))
    → take to ids ++ (new ++ drop (from + 1 - to) (drop to ids)) ≡ moved from to ids
rotated-before from to ids new least within turned =
    let v = before from to ids least within in
    let k = from + 1 - to in
    let from_is = v.from_is in
    let to_is = v.to_is in
    let count = length-append v.passed (v.id ∷ []) in
    let k_is : k ≡ length (v.passed ++ v.id ∷ []) = omega (arith, from_is, to_is, count) in
    let part : take k (drop to ids) ≡ v.passed ++ v.id ∷ [] =
    ap (λ us. take k (drop to us)) v.is ∙ part-is v.pre (v.passed ++ v.id ∷ []) v.post to k to_is k_is in
    let n_is : length v.passed ≡ length (v.passed ++ v.id ∷ []) - 1 = omega (arith, count) in
    let new_is : new ≡ v.id ∷ v.passed =
    turned ∙ ap (λ us. drop (length us - 1) us ++ take (length us - 1) us) part
    ∙ ap (λ us. us ++ take (length (v.passed ++ v.id ∷ []) - 1) (v.passed ++ v.id ∷ []))
    (drop_at v.passed (v.id ∷ []) (length (v.passed ++ v.id ∷ []) - 1) n_is)
    ∙ ap (λ us. v.id ∷ us) (take_at v.passed (v.id ∷ []) (length (v.passed ++ v.id ∷ []) - 1) n_is) in
    ap (λ us. take to us ++ (new ++ drop k (drop to us))) v.is
    ∙ part-put v.pre (v.passed ++ v.id ∷ []) new v.post to k to_is k_is
    ∙ ap (λ us. v.pre ++ (us ++ v.post)) new_is ∙ sym v.moved_is

-- as many stand in the list as before
pub length-moved : (from to : ℕ) (ids : List ℤ) → from < length ids → length (moved from to ids) ≡ length ids
length-moved from to ids within =
    let a = around from ids within in
    let rest = a.pre ++ a.post in
    let new = ap (λ us. length (moved from to us)) a.is ∙ ap length (moved-around a.pre a.post a.id from to a.place_is)
    ∙ length-append (take to rest) (a.id ∷ drop to rest) in
    let old = ap length a.is ∙ length-append a.pre (a.id ∷ a.post) in
    let all = sym (length-append (take to rest) (drop to rest)) ∙ ap length (take-append-drop to rest)
    ∙ length-append a.pre a.post in
    omega (arith, new, old, all)

-- and it comes back
pub moved-back : (from to : ℕ) (ids : List ℤ) → from < length ids → to < length ids
    → moved to from (moved from to ids) ≡ ids
moved-back from to ids within room =
    let a = around from ids within in
    let rest = a.pre ++ a.post in
    let whole = ap length a.is ∙ length-append a.pre (a.id ∷ a.post) in
    let few = length-append a.pre a.post in
    let to_is : to ≡ length (take to rest) = sym (simp length-take (omega (arith, whole, few))) in
    let parts = take-append-drop to rest in
    let from_is = a.place_is in
    ap (moved to from) (ap (moved from to) a.is ∙ moved-around a.pre a.post a.id from to from_is)
    ∙ moved-around (take to rest) (drop to rest) a.id to from to_is
    ∙ ap (λ us. take from us ++ a.id ∷ drop from us) parts
    ∙ ap (λ us. us ++ a.id ∷ drop from rest) (take_at a.pre a.post from (sym from_is))
    ∙ ap (λ us. a.pre ++ a.id ∷ us) (drop_at a.pre a.post from (sym from_is))
    ∙ sym a.is

module _ (window : ℤ) (from to : ℕ) (old mid : List (ℤ × List ℤ)) (within : from < length (order_of window old))
    (shifted : SetsOrder window (moved from to (order_of window old)) old mid) where
  pub shifted-is : order_of window mid ≡ moved from to (order_of window old)
  shifted-is = order-set window (moved from to (order_of window old)) old mid shifted

  pub shifted-length : length (order_of window mid) ≡ length (order_of window old)
  shifted-length = ap length shifted-is ∙ length-moved from to (order_of window old) within

  pub shifted-back : (new : List (ℤ × List ℤ)) → to < length (order_of window old)
      → SetsOrder window (moved to from (order_of window mid)) mid new → SameOrders old new
  shifted-back new room back w = back w ∙ by (int_eq window w) refl
    where
      by : (b : Bool) → int_eq window w ≡ b
          → (if b then moved to from (order_of window mid) else order_of w mid) ≡ order_of w old
      by true e =
          ap (moved to from) shifted-is ∙ moved-back from to (order_of window old) within room
          ∙ ap (λ v. order_of v old) (same_key window w e)
      by false e = shifted w ∙ ap (λ same. if same then moved from to (order_of window old) else order_of w old) e

-- a tab comes into one window and goes from another
pub drop-inserted : (ids : List ℤ) (place : ℕ) (id : ℤ) → place ≤ length ids
    → drop place (insert ids place id) ≡ id ∷ drop place ids
drop-inserted ids place id within =
    drop_at (take place ids) (id ∷ drop place ids) place (simp length-take (omega (arith, within)))

module _ (own window : ℤ) (apart : int_eq own window ≡ false) (from : ℕ) (ids : List ℤ) (old mid : List (ℤ × List ℤ))
    (comes : SetsOrder window ids old mid) where
  pub own-beside : order_of own mid ≡ order_of own old
  own-beside = comes own ∙ ap (λ same. if same then ids else order_of own old) (flip own window apart)

  pub comes-goes : (new : List (ℤ × List ℤ)) → SetsOrder own (remove (order_of own mid) from) mid new → (w : ℤ)
      → order_of w new ≡ (if int_eq own w then remove (order_of own old) from else set_order window ids old w)
  comes-goes new goes w = goes w ∙ by (int_eq own w)
    where
      by : (b : Bool) → (if b then remove (order_of own mid) from else order_of w mid)
          ≡ (if b then remove (order_of own old) from else set_order window ids old w)
      by true = ap (λ us. remove us from) own-beside
      by false = comes w
