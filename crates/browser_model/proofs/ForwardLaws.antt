-- A step forward among a tab's pages.
use Rattle.std.proofs.Common.{◌≡◌, suc, ◌<◌, int_le, false, ℤ, pos, negsuc, ◌+ℤ◌, List, [], ◌∷◌, length, Some}
use Rattle.std.proofs.Common.{refl, ap, subst, arith}
use Rattle.std.proofs.lemmas.Int.{ints}
use Rattle.navigation_entry.specs.declared.navigation.Navigation.{Navigation}
use Rattle.session_commands.specs.declared.command.SessionCommand.TheVariants.{SelectNavigation}
use Rattle.window_state.specs.States.{State}
use Rattle.replay_machine.specs.Step.{fold}
use Rattle.browser_model.specs.Running.{IsRunning}
use Rattle.browser_model.specs.Browsers.{Browser, Stand, Matches, AtPage, IsAtPage, HasGroup}
use Rattle.browser_model.specs.Tabs.{stand_of, put_tab}
use Rattle.browser_model.specs.OneTab.{went_forward, forward}
use Rattle.browser_model.proofs.TabLaws.{TurnsTab, tab-one, one-tab, own-id, of-found}

pub at-forward : (ps : List Navigation) (c : ℤ) → AtPage ps c → int_le (pos (length ps)) (c +ℤ pos 1) ≡ false
    → AtPage ps (c +ℤ pos 1)
at-forward [] c at h =
    let last : int_le (pos 0) (c +ℤ pos 1) ≡ int_le (pos 0) (negsuc 0 +ℤ pos 1) =
    ap (λ z. int_le (pos 0) (z +ℤ pos 1)) at in
    absurd cc
at-forward (p ∷ ps) c at h =
    let n = at.0 in
    let is = at.1 in
    let up : c +ℤ pos 1 ≡ pos (suc n) = omega (arith, ints, is) in
    let less : suc n < suc (length ps) = grind (arith, ints) in
    (suc n, up, less)

pub forward-matches : (s : State) (b : Browser) (id : ℤ) (st : Stand) → IsRunning s → Matches s b
    → stand_of id b ≡ Some st → int_le (pos (length st.tab.pages)) (st.tab.current +ℤ pos 1) ≡ false
    → Matches (fold s (forward st.tab)) (record b { windows = put_tab id (went_forward st.tab) b.windows })
forward-matches s b id st r m found there =
    let c = st.tab.current +ℤ pos 1 in
    one-tab s b id st (went_forward st.tab) (λ t. record t { current = c }) (forward st.tab) r m found
    (subst (λ q. TurnsTab id (λ t. record t { current = c }) (SelectNavigation q c ∷ [])) (own-id s b id st r m found)
    (tab-one id (λ t. record t { current = c }) (SelectNavigation id c) (λ t. refl) (λ s. refl)))
    refl (of-found (HasGroup b.groups s.groups) s b id st r m found m.groups)
    (at-forward st.tab.pages st.tab.current (of-found IsAtPage s b id st r m found m.at_page) there)
