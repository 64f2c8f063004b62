-- The gaps between pages, one page after another.
use Rattle.std.proofs.Common.{◌≡◌, ℕ, suc, ℤ, pos, ◌+ℤ◌, ◌≤ℤ◌, List, ◌∷◌, ◌++◌, map, sym, ap, subst, ◌∙◌, arith}
use Rattle.std.proofs.lemmas.Int.{ints}
use Rattle.std.proofs.lemmas.List.{map-append}
use Rattle.navigation_entry.specs.declared.navigation.Navigation.{Navigation}
use Rattle.session_commands.specs.declared.command.SessionCommand.{SessionCommand}
use Rattle.tab_pages.specs.PageLists.{IsRising}
use Rattle.browser_model.specs.Tidying.{gaps}
use Rattle.session_tidying.specs.Gaps.{gap_before, gap_pruned}
use Rattle.session_tidying.proofs.WindowLaws.{pushed}

-- What was pushed, and the commands of the gaps that are left: so many pages stand before, and the next index without a
-- gap is this one.
pub record IsUnderWay (tab : ℤ) (place : ℕ) (next : ℤ) (out all : List SessionCommand)
    (left : List (ℤ × Navigation)) : Type 0 where
  pub rising : IsRising next left
  pub behind : pos place ≤ℤ next
  pub gaps_left : out ++ map (gap_pruned tab) (gaps place next left) ≡ all

pub next-page : (tab : ℤ) (place place' : ℕ) (next next' : ℤ) (old new all : List SessionCommand)
    (left rest : List (ℤ × Navigation)) (page : ℤ × Navigation)
    → IsUnderWay tab place next old all left → left ≡ page ∷ rest
    → new ≡ old ++ map (gap_pruned tab) (gap_before place next page.0) → place' ≡ suc place
    → next' ≡ page.0 +ℤ pos 1
    → IsUnderWay tab place' next' new all rest
next-page tab place place' next next' old new all left rest page so_far first put one after =
    let now = subst (λ pages. IsUnderWay tab place next old all pages) first so_far in
    let from = now.rising.0 in
    let behind' = now.behind in
    let split = map-append (gap_pruned tab) (gap_before place next page.0) (gaps (suc place) (page.0 +ℤ pos 1) rest) in
    record {
      rising = rw after now.rising.1;
      behind = omega (arith, ints);
      gaps_left = rw (one, after) (pushed old new all (map (gap_pruned tab) (gap_before place next page.0))
          (map (gap_pruned tab) (gaps (suc place) (page.0 +ℤ pos 1) rest))
          (ap (λ l. old ++ l) (sym split) ∙ now.gaps_left) put);
    }
