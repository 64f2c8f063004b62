-- The pages and groups that verbs make: a page as it is visited, a page under another title, and a group. Long texts of
-- a page are emptied until it fits its payload, as wherever a page is made.
use Rattle.std.proofs.Common.{◌≡◌, ℕ, zero, suc, ◌+◌, ◌*◌, ◌%◌, ◌≤◌, ℤ, pos, Bool, true, false, List, [], ◌∷◌, length, refl, sym, ap, subst, ◌∙◌, nat_le, arith}
use Rattle.std.proofs.lemmas.Bool.Decides.{nat_tests}
use Rattle.pickle_cells.specs.Cell.{int, int64, flag, counted, padding, uint32, unit_bytes}
use Rattle.pickle_cells.proofs.CellLaws.{padding_small}
use Rattle.pickle_cells.specs.PickleLayout.{Item, Int, Int64, Flag, Text, Units, item_bytes, items_bytes}
use Rattle.navigation_entry.specs.declared.group.GroupInfo.{GroupInfo}
use Rattle.navigation_entry.specs.declared.navigation.Navigation.{Navigation}
use Rattle.navigation_entry.specs.Layouts.{group_size, navigation_size}
use Rattle.navigation_entry.specs.Fitting.{url_sum, title_sum, fitted_url, fitted_title, fitted_page_state}
use Rattle.navigation_entry.proofs.FittingLaws.{fitted_short}

-- a page whose long texts are emptied
abbrev pub fitted : (url title page_state : List ℕ) → ℤ → (rest : List ℕ) → length rest % 4 ≡ 0 → length rest ≤ 984
    → Navigation
fitted url title page_state transition rest whole few = record {
  url = fitted_url url;
  title = fitted_title url title;
  page_state = fitted_page_state url title page_state;
  transition = transition;
  rest = rest;
  whole = whole;
  short = fitted_short url title page_state _ _ _ (url_sum url) (title_sum url title) (length rest) few
      refl refl refl refl refl;
}

-- What stands behind the transition of a visited page: the type mask, an empty referrer, its old policy, an empty
-- original address, that the user agent isn't overridden, the time, empty search terms, the status, the referrer's
-- policy, and the number of extra pairs.
abbrev pub visit_items : ℤ → List Item
visit_items moment =
    Int (pos 0) ∷ Text [] ∷ Int (pos 0) ∷ Text [] ∷ Flag false ∷ Int64 moment ∷ Units [] ∷ Int (pos 200)
    ∷ Int (pos 0) ∷ Int (pos 0) ∷ []

abbrev pub visit_rest : ℤ → List ℕ
visit_rest moment = items_bytes (visit_items moment) []

length-visit_rest : (moment : ℤ) → length (visit_rest moment) ≡ 44
unfolding items_bytes item_bytes int int64 flag counted padding uint32 unit_bytes
length-visit_rest moment = refl

pub visit_rest-whole : (moment : ℤ) → length (visit_rest moment) % 4 ≡ 0
visit_rest-whole moment = ap (λ (n : ℕ). n % 4) (length-visit_rest moment)

pub visit_rest-few : (moment : ℤ) → length (visit_rest moment) ≤ 984
visit_rest-few moment = subst (λ (n : ℕ). n ≤ 984) (sym (length-visit_rest moment)) (omega arith)

-- a page as it is visited
abbrev pub visited_page : (url title page_state : List ℕ) → ℤ → Navigation
visited_page url title page_state moment =
    fitted url title page_state (pos 0) (visit_rest moment) (visit_rest-whole moment) (visit_rest-few moment)

-- the page state of so many bytes that a visit has: each byte is its place, mod 251
abbrev pub state_from : ℕ → ℕ → List ℕ
state_from place zero = []
state_from place (suc n) = place % 251 ∷ state_from (suc place) n

abbrev pub visit_state : ℕ → List ℕ
visit_state n = state_from zero n

no_padding : padding 0 ≡ 0
unfolding padding
no_padding = refl

-- a page has a payload without its title
pub untitled_short : (p : Navigation) → navigation_size (length p.url) 0 (length p.page_state) (length p.rest) ≤ 65534
untitled_short p = let given = p.short in omega (arith, no_padding)

pub few_rest : {n : ℕ} → nat_le n 984 ≡ true → n ≤ 984
few_rest few = grind (arith, nat_tests)

-- a page is fitted anew under a title where its rest is short enough, else it has no title
abbrev pub titled_where : (b : Bool) → (title : List ℕ) (p : Navigation) → nat_le (length p.rest) 984 ≡ b → Navigation
titled_where true title p few = fitted p.url title p.page_state p.transition p.rest p.whole (few_rest few)
titled_where false title p few = record {
  url = p.url;
  title = [];
  page_state = p.page_state;
  transition = p.transition;
  rest = p.rest;
  whole = p.whole;
  short = untitled_short p;
}

abbrev pub titled_page : List ℕ → Navigation → Navigation
titled_page title p = titled_where (nat_le (length p.rest) 984) title p refl

-- a group without a rest
abbrev pub plain_group : ℕ → ℕ → (title : List ℕ) → ℕ → group_size (2 * length title) 0 ≤ 65534 → GroupInfo
plain_group high low title colour short =
    record { high = high; low = low; title = title; colour = colour; rest = []; whole = refl; short = short }

pub untitled_group_short : group_size 0 0 ≤ 65534
untitled_group_short = omega (arith, no_padding)

pub group_short : (title : List ℕ) → nat_le (length title) 8192 ≡ true → group_size (2 * length title) 0 ≤ 65534
group_short title few =
    let padded = padding_small (2 * length title) in
    let within : length title ≤ 8192 = grind (arith, nat_tests) in
    omega arith

-- a group that is only known by its token
abbrev pub bare_group : ℕ → ℕ → GroupInfo
bare_group high low = plain_group high low [] 0 untitled_group_short

-- a group as a verb gives it, whose title has at most 8,192 units
abbrev pub given_where : (b : Bool) → ℕ → ℕ → (title : List ℕ) → ℕ → nat_le (length title) 8192 ≡ b → GroupInfo
given_where true high low title colour few = plain_group high low title colour (group_short title few)
given_where false high low title colour few = bare_group high low

abbrev pub given_group : ℕ → ℕ → List ℕ → ℕ → GroupInfo
given_group high low title colour = given_where (nat_le (length title) 8192) high low title colour refl
