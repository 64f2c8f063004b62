-- Pages that calls make are those that verbs make.
use Rattle.std.proofs.Common.{◌≡◌, ℕ, zero, suc, ◌+◌, ◌-◌, ◌*◌, ◌%◌, ◌<◌, ◌≤◌, nat_le, nat_lt, Bool, true, false}
use Rattle.std.proofs.Common.{if◌then◌else◌, ℤ, List, [], ◌∷◌, ◌++◌, length, replicate, append_assoc, refl, sym, ap, ◌∙◌}
use Rattle.std.proofs.Common.{arith}
use Rattle.std.specs.Int.{w64, cast_unsigned, to_le_bytes}
use Rattle.std.proofs.lemmas.Bool.Decides.{nat_tests}
use Rattle.std.proofs.lemmas.List.{append-nil}
use Rattle.navigation_entry.specs.declared.navigation.Navigation.{Navigation}
use Rattle.navigation_entry.specs.Fitting.{fitted_url, fitted_title, fitted_page_state, limit, title_sum}
use Rattle.navigation_entry.specs.Layouts.{navigation_size}
use Rattle.pickle_cells.specs.Cell.{int, int64, flag, counted, padding, uint32, unit_bytes}
use Rattle.pickle_cells.specs.PickleLayout.{item_bytes, items_bytes}
use Rattle.browser_model.specs.Navigations.{state_from, titled_page, titled_where, untitled_short}
use Rattle.browser_model.specs.Navigations.{visit_rest, visit_state}
use Rattle.browser_driver.specs.MadePages.{short_state, untitled}
use Rattle.browser_driver.proofs.ValueLaws.{page-same}

-- the fields of a page under a title, as its rest is short or not
module _ (title : List ℕ) (p : Navigation) where
  url-of : (b : Bool) (few : nat_le (length p.rest) 984 ≡ b)
      → (titled_where b title p few).url ≡ (if b then fitted_url p.url else p.url)
  url-of true few = refl
  url-of false few = refl

  title-of : (b : Bool) (few : nat_le (length p.rest) 984 ≡ b)
      → (titled_where b title p few).title ≡ (if b then fitted_title p.url title else [])
  title-of true few = refl
  title-of false few = refl

  state-of : (b : Bool) (few : nat_le (length p.rest) 984 ≡ b)
      → (titled_where b title p few).page_state
      ≡ (if b then fitted_page_state p.url title p.page_state else p.page_state)
  state-of true few = refl
  state-of false few = refl

  transition-of : (b : Bool) (few : nat_le (length p.rest) 984 ≡ b)
      → (titled_where b title p few).transition ≡ p.transition
  transition-of true few = refl
  transition-of false few = refl

  rest-of : (b : Bool) (few : nat_le (length p.rest) 984 ≡ b) → (titled_where b title p few).rest ≡ p.rest
  rest-of true few = refl
  rest-of false few = refl

  module _ (new : Navigation) where
    here : (b : Bool) → nat_le (length p.rest) 984 ≡ b
        → new.url ≡ (if b then fitted_url p.url else p.url)
        → new.title ≡ (if b then fitted_title p.url title else [])
        → new.page_state ≡ (if b then fitted_page_state p.url title p.page_state else p.page_state)
        → new.transition ≡ p.transition → new.rest ≡ p.rest → new ≡ titled_page title p
    here b is url title_is state transition rest =
        let own = nat_le (length p.rest) 984 in
        page-same new (titled_page title p)
        (url ∙ sym (url-of own refl ∙ ap (λ x. if x then fitted_url p.url else p.url) is))
        (title_is ∙ sym (title-of own refl ∙ ap (λ x. if x then fitted_title p.url title else []) is))
        (state ∙ sym (state-of own refl
        ∙ ap (λ x. if x then fitted_page_state p.url title p.page_state else p.page_state) is))
        (transition ∙ sym (transition-of own refl)) (rest ∙ sym (rest-of own refl))

    -- fitted anew
    pub fitted-is : length p.rest ≤ 984 → new.url ≡ fitted_url p.url → new.title ≡ fitted_title p.url title
        → new.page_state ≡ fitted_page_state p.url title p.page_state → new.transition ≡ p.transition
        → new.rest ≡ p.rest → new ≡ titled_page title p
    fitted-is few url title_is state transition rest =
        let within : nat_le (length p.rest) 984 ≡ true = grind (arith, nat_tests) in
        here true within url title_is state transition rest

    pub untitled-is : 984 + 1 ≤ length p.rest → new ≡ untitled p → new ≡ titled_page title p
    untitled-is many is =
        let beyond : nat_le (length p.rest) 984 ≡ false = grind (arith, nat_tests) in
        here false beyond (ap (λ (x : Navigation). x.url) is) (ap (λ (x : Navigation). x.title) is)
        (ap (λ (x : Navigation). x.page_state) is) (ap (λ (x : Navigation). x.transition) is)
        (ap (λ (x : Navigation). x.rest) is)

-- a page that is made without its title has a payload, and is the page without it
pub untitled-room : (p : Navigation) (url title page_state rest : List ℕ) → url ≡ p.url → title ≡ []
    → page_state ≡ p.page_state → rest ≡ p.rest
    → navigation_size (length url) (2 * length title) (length page_state) (length rest) ≤ 65534
untitled-room p url title page_state rest url_is title_is state_is rest_is =
    rw (url_is, title_is, state_is, rest_is) (untitled_short p)

pub untitled-whole : (p : Navigation) (rest : List ℕ) → rest ≡ p.rest → length rest % 4 ≡ 0
untitled-whole p rest is = rw is p.whole

-- the page state of a visit, byte after byte
pub one-more : (len place : ℕ) (xs ys : List ℕ) → place < len → ys ≡ xs ++ (place % 251) ∷ []
    → xs ++ state_from place (len - place) ≡ visit_state len
    → ys ++ state_from (place + 1) (len - (place + 1)) ≡ visit_state len
one-more len place xs ys within pushed before =
    let left : len - place ≡ suc (len - (place + 1)) = omega (arith, within) in
    let next : place + 1 ≡ suc place = omega arith in
    let rest = state_from (place + 1) (len - (place + 1)) in
    ap (λ zs. zs ++ rest) pushed ∙ append_assoc xs (place % 251 ∷ []) rest
    ∙ ap (λ n. xs ++ (place % 251 ∷ state_from n (len - (place + 1)))) next
    ∙ sym (ap (λ n. xs ++ state_from place n) left) ∙ before

pub all-there : (len place : ℕ) (xs : List ℕ) → len ≤ place → xs ++ state_from place (len - place) ≡ visit_state len
    → xs ≡ visit_state len
all-there len place xs beyond before =
    let none : len - place ≡ zero = omega (arith, beyond) in
    sym (append-nil xs) ∙ sym (ap (λ n. xs ++ state_from place n) none) ∙ before

length-state : (place n : ℕ) → length (state_from place n) ≡ n
length-state place zero = refl
length-state place (suc n) = ap suc (length-state (suc place) n)

either : (b : Bool) (xs : List ℕ) → (if b then xs else xs) ≡ xs
either true xs = refl
either false xs = refl

-- one that is empty from the start is emptied otherwise
pub short-fits : (url title : List ℕ) (len : ℕ)
    → fitted_page_state url title (short_state len) ≡ fitted_page_state url title (visit_state len)
short-fits url title len = by (nat_le limit len) refl
  where
    by : (b : Bool) → nat_le limit len ≡ b
        → fitted_page_state url title (if b then [] else visit_state len)
        ≡ fitted_page_state url title (visit_state len)
    by false e = refl
    by true e =
        let many : limit ≤ len = grind (arith, nat_tests) in
        let long = length-state zero len in
        let sum = title_sum url title in
        let out : nat_lt (sum + length (visit_state len)) limit ≡ false = grind (arith, nat_tests) in
        either (nat_lt (sum + zero) limit) []
        ∙ sym (ap (λ b. if b then visit_state len else []) out)

-- what stands behind the transition of a visited page, around its time
pub visit_rest-is : (moment : ℤ) (time rest : List ℕ) → time ≡ to_le_bytes w64 (cast_unsigned w64 moment)
    → rest ≡ replicate 20 0 ++ (time ++ (0 ∷ 0 ∷ 0 ∷ 0 ∷ 200 ∷ replicate 11 0)) → rest ≡ visit_rest moment
unfolding items_bytes item_bytes int int64 flag counted padding uint32 unit_bytes
visit_rest-is moment time rest time_is is =
    is ∙ ap (λ bytes. replicate 20 0 ++ (bytes ++ (0 ∷ 0 ∷ 0 ∷ 0 ∷ 200 ∷ replicate 11 0))) time_is
