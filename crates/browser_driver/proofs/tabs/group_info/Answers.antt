use Rattle.std.proofs.Common.{◌≡◌, ℕ, ◌*◌, ◌%◌, ◌≤◌, nat_le, true, List, [], length, refl, sym, subst, arith}
use Rattle.std.proofs.lemmas.Bool.Decides.{nat_tests}
use Rattle.navigation_entry.specs.Layouts.{group_size}
use Rattle.browser_model.specs.Navigations.{group_short}
use Rattle.browser_driver.proofs.GroupLaws.{given-is}
use Rattle.browser_driver.proofs.tabs.group_info.Goals as goal

pub invariant_of-result : goal.invariant_of-result
invariant_of-result c =
    let given = c.args.title.now in
    let room = c.requires in
    let few : nat_le (length given) 8192 ≡ true = grind (arith, nat_tests) in
    let title : c.in_ok-title.title ≡ given = c.in_ok-title.ensures in
    let rest : c.in_ok-rest.rest ≡ [] = c.in_ok-rest.ensures in
    record {
      whole = subst (λ (r : List ℕ). length r % 4 ≡ 0) (sym rest) refl;
      short = subst (λ (r : List ℕ). group_size (2 * length c.in_ok-title.title) (length r) ≤ 65534) (sym rest)
          (subst (λ (t : List ℕ). group_size (2 * length t) 0 ≤ 65534) (sym title) (group_short given few));
    }

pub returns : goal.returns
returns c =
    given-is c.args.group.high c.args.group.low c.args.title.now c.args.colour _ c.requires refl refl
    c.in_ok-title.ensures refl c.in_ok-rest.ensures
