use Rattle.std.proofs.Common.{◌≡◌, ℕ, ◌*◌, ◌%◌, ◌≤◌, List, [], length, refl, sym, subst}
use Rattle.navigation_entry.specs.Layouts.{group_size}
use Rattle.browser_model.specs.Navigations.{bare_group, untitled_group_short}
use Rattle.browser_driver.proofs.ValueLaws.{group-same}
use Rattle.browser_driver.proofs.entries.bare_group.Goals as goal

pub invariant_of-result : goal.invariant_of-result
invariant_of-result c =
    let title : c.in_ok-title.title ≡ [] = c.in_ok-title.ensures in
    let rest : c.in_ok-rest.rest ≡ [] = c.in_ok-rest.ensures in
    record {
      whole = subst (λ (r : List ℕ). length r % 4 ≡ 0) (sym rest) refl;
      short = subst (λ (r : List ℕ). group_size (2 * length c.in_ok-title.title) (length r) ≤ 65534) (sym rest)
          (subst (λ (t : List ℕ). group_size (2 * length t) 0 ≤ 65534) (sym title) untitled_group_short);
    }

pub returns : goal.returns
returns c =
    group-same _ (bare_group c.args.id.high c.args.id.low) refl refl c.in_ok-title.ensures refl
    c.in_ok-rest.ensures
