-- A step back among a tab's pages.
use Rattle.std.proofs.Common.{◌≡◌, ℕ, zero, suc, ◌<◌, int_lt, false, ℤ, pos, negsuc, ◌-ℤ◌, List, [], ◌∷◌, length, Some}
use Rattle.std.proofs.Common.{refl, ap, subst, arith}
use Rattle.std.proofs.lemmas.Int.{ints}
use Rattle.navigation_entry.specs.declared.navigation.Navigation.{Navigation}
use Rattle.session_commands.specs.declared.command.SessionCommand.TheVariants.{SelectNavigation}
use Rattle.window_state.specs.States.{State}
use Rattle.replay_machine.specs.Step.{fold}
use Rattle.browser_model.specs.Running.{IsRunning}
use Rattle.browser_model.specs.Browsers.{Browser, Stand, Matches, AtPage, IsAtPage, HasGroup}
use Rattle.browser_model.specs.Tabs.{stand_of, put_tab}
use Rattle.browser_model.specs.OneTab.{went_back, back}
use Rattle.browser_model.proofs.TabLaws.{TurnsTab, tab-one, one-tab, own-id, of-found}

pub at-back : (ps : List Navigation) (c : ℤ) → AtPage ps c → int_lt c (pos 1) ≡ false → AtPage ps (c -ℤ pos 1)
at-back [] c at h = let low : int_lt c (pos 1) ≡ int_lt (negsuc zero) (pos 1) = ap (λ z. int_lt z (pos 1)) at in
    absurd cc
at-back (p ∷ ps) c at h = by at.0 at.1 at.2
  where
    by : (n : ℕ) → c ≡ pos n → n < suc (length ps) → AtPage (p ∷ ps) (c -ℤ pos 1)
    by zero is less = let low : int_lt c (pos 1) ≡ int_lt (pos zero) (pos 1) = ap (λ z. int_lt z (pos 1)) is in
        absurd cc
    by (suc n) is less = let down : c -ℤ pos 1 ≡ pos n = omega (arith, ints, is) in (n, down, omega (arith, less))

pub back-matches : (s : State) (b : Browser) (id : ℤ) (st : Stand) → IsRunning s → Matches s b → stand_of id b ≡ Some st
    → int_lt st.tab.current (pos 1) ≡ false → Matches (fold s (back st.tab))
    (record b { windows = put_tab id (went_back st.tab) b.windows })
back-matches s b id st r m found there =
    let c = st.tab.current -ℤ pos 1 in
    one-tab s b id st (went_back st.tab) (λ t. record t { current = c }) (back st.tab) r m found
    (subst (λ q. TurnsTab id (λ t. record t { current = c }) (SelectNavigation q c ∷ [])) (own-id s b id st r m found)
    (tab-one id (λ t. record t { current = c }) (SelectNavigation id c) (λ t. refl) (λ s. refl)))
    refl (of-found (HasGroup b.groups s.groups) s b id st r m found m.groups)
    (at-back st.tab.pages st.tab.current (of-found IsAtPage s b id st r m found m.at_page) there)
