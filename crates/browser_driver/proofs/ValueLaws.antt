-- Groups and pages with equal fields are equal: what they keep of their lengths has one proof.
use Rattle.std.proofs.Common.{◌≡◌, ℕ, ◌*◌, ◌%◌, ◌≤◌, ℤ, List, length, ap, subst, ◌∙◌}
use Rattle.std.proofs.Math.Bridge.{le_prop}
use Rattle.std.proofs.Math.Nat.{ℕ_set}
use Rattle.navigation_entry.specs.declared.group.GroupInfo.{GroupInfo}
use Rattle.navigation_entry.specs.declared.navigation.Navigation.{Navigation}
use Rattle.navigation_entry.specs.Layouts.{group_size, navigation_size}

-- the group is each one with these fields
abbrev IsGroup : GroupInfo → ℕ × ℕ × List ℕ × ℕ × List ℕ → Type 0
IsGroup x f = (whole : length f.4 % 4 ≡ 0) (short : group_size (2 * length f.2) (length f.4) ≤ 65534)
    → x ≡ record { high = f.0; low = f.1; title = f.2; colour = f.3; rest = f.4; whole = whole; short = short }

pub group-same : (x y : GroupInfo) → x.high ≡ y.high → x.low ≡ y.low → x.title ≡ y.title → x.colour ≡ y.colour
    → x.rest ≡ y.rest → x ≡ y
group-same x y high low title colour rest =
    let there : IsGroup x (y.high, y.low, y.title, y.colour, y.rest) =
    subst (IsGroup x) (λ i. (high i, low i, title i, colour i, rest i)) here in
    there y.whole y.short
  where
    here : IsGroup x (x.high, x.low, x.title, x.colour, x.rest)
    here whole short =
        ap (λ (w : length x.rest % 4 ≡ 0). record x { whole = w }) (ℕ_set (length x.rest % 4) 0 x.whole whole)
        ∙ ap (λ (s : group_size (2 * length x.title) (length x.rest) ≤ 65534). record x { whole = whole; short = s })
        (le_prop x.short short)

abbrev IsPage : Navigation → List ℕ × List ℕ × List ℕ × ℤ × List ℕ → Type 0
IsPage x f = (whole : length f.4 % 4 ≡ 0)
    (short : navigation_size (length f.0) (2 * length f.1) (length f.2) (length f.4) ≤ 65534)
    → x ≡ record {
      url = f.0;
      title = f.1;
      page_state = f.2;
      transition = f.3;
      rest = f.4;
      whole = whole;
      short = short;
    }

pub page-same : (x y : Navigation) → x.url ≡ y.url → x.title ≡ y.title → x.page_state ≡ y.page_state
    → x.transition ≡ y.transition → x.rest ≡ y.rest → x ≡ y
page-same x y url title page_state transition rest =
    let there : IsPage x (y.url, y.title, y.page_state, y.transition, y.rest) =
    subst (IsPage x) (λ i. (url i, title i, page_state i, transition i, rest i)) here in
    there y.whole y.short
  where
    here : IsPage x (x.url, x.title, x.page_state, x.transition, x.rest)
    here whole short =
        ap (λ (w : length x.rest % 4 ≡ 0). record x { whole = w }) (ℕ_set (length x.rest % 4) 0 x.whole whole)
        ∙ ap (λ (s : navigation_size (length x.url) (2 * length x.title) (length x.page_state) (length x.rest) ≤ 65534).
        record x { whole = whole; short = s }) (le_prop x.short short)
