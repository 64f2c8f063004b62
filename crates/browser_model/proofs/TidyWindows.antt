-- Windows that no tab is in are closed: nothing else goes with them.
use Rattle.std.proofs.Common.{◌≡◌, nat_le, Bool, true, false, cond, not, ◌&&◌, ℤ, List, []}
use Rattle.std.proofs.Common.{◌∷◌, filter, length, refl, sym, ap, ◌∙◌}
use Rattle.std.proofs.Common.{arith}
use Rattle.std.specs.Ordering.{int_cmp, is_eq}
use Rattle.std.specs.List.{AllByRecursion}
use Rattle.std.proofs.lemmas.Bool.Decides.{nat_tests}
use Rattle.window_state.specs.declared.tab.Tab.{Tab}
use Rattle.window_state.specs.declared.window.Window.{Window}
use Rattle.window_state.specs.Limits.{limit}
use Rattle.window_state.specs.Keys.{window_key}
use Rattle.window_state.specs.RowLists.{without_row}
use Rattle.window_state.specs.States.{State, is_in, stands, window_closed}
use Rattle.window_state.proofs.RowLaws.{length-without}
use Rattle.replay_machine.specs.Step as machine
use Rattle.window_state.proofs.OrderLaws.{sorted-without}
use Rattle.browser_model.specs.Running.{IsRunning}
use Rattle.browser_model.specs.Tidying.{close_windows}
use Rattle.browser_model.proofs.TidyClose.{without_windows}

-- a window that no tab is in goes alone
all-pass : (id : ℤ) (ts : List Tab) → AllByRecursion (λ t. is_in id t.window ≡ false) ts
    → filter (λ t. not (is_in id t.window)) ts ≡ ts
all-pass id [] all = refl
all-pass id (t ∷ ts) all = let out = all.0 in
    ap (λ b. cond (not b) (t ∷ filter (λ t. not (is_in id t.window)) ts) (filter (λ t. not (is_in id t.window)) ts)) out
    ∙ ap (λ xs. t ∷ xs) (all-pass id ts all.1)

absent-stays : (id : ℤ) (ws : List Window) → stands id ws ≡ false → without_row int_cmp window_key id ws ≡ ws
absent-stays id [] out = refl
absent-stays id (w ∷ ws) out = by (absent-stays id ws) (is_eq (int_cmp id w.info.id)) refl
  where
    by : (stands id ws ≡ false → without_row int_cmp window_key id ws ≡ ws) → (b : Bool)
        → is_eq (int_cmp id w.info.id) ≡ b → without_row int_cmp window_key id (w ∷ ws) ≡ w ∷ ws
    by rest true e = let no = rw e at out in absurd cc
    by rest false e = rw e (ap (λ vs. w ∷ vs) (rest (rw e at out)))

window-gone : (id : ℤ) (s : State) → AllByRecursion (λ t. is_in id t.window ≡ false) s.tabs
    → window_closed id s ≡ record s { windows = without_row int_cmp window_key id s.windows }
window-gone id s all = by (stands id s.windows) refl
  where
    by : (b : Bool) → stands id s.windows ≡ b
        → window_closed id s ≡ record s { windows = without_row int_cmp window_key id s.windows }
    by true e = rw e (ap (λ (ts : List Tab). record s
        { tabs = ts; windows = without_row int_cmp window_key id s.windows }) (all-pass id s.tabs all))
    by false e = rw e (ap (λ (ws : List Window). record s { windows = ws }) (sym (absent-stays id s.windows e)))

running-out : (id : ℤ) (s : State) → IsRunning s
    → IsRunning (record s { windows = without_row int_cmp window_key id s.windows })
running-out id s r = record {
  tabs = r.tabs;
  windows = sorted-without int_cmp window_key id s.windows r.windows;
  within =
      let fewer = length-without int_cmp window_key id s.windows in
      let e = r.within in
      let few : nat_le (length s.windows) limit ≡ true =
      second (nat_le (length s.tabs) limit) (nat_le (length s.windows) limit) e in
      let small : nat_le (length (without_row int_cmp window_key id s.windows)) limit ≡ true =
      grind (arith, nat_tests) in
      let wide : nat_le (length s.tabs) limit ≡ true =
      first (nat_le (length s.tabs) limit) (nat_le (length s.windows) limit) e in
      rw (small, wide) refl;
}
  where
    first : (a b : Bool) → (a && b) ≡ true → a ≡ true
    first true b e = refl
    first false b e = absurd cc

    second : (a b : Bool) → (a && b) ≡ true → b ≡ true
    second true b e = e
    second false b e = absurd cc

pub windows-run : (s : State) (cs : List Window)
    → AllByRecursion (λ c. AllByRecursion (λ t. is_in c.info.id t.window ≡ false) s.tabs) cs
    → machine.fold s (close_windows cs) ≡ record s { windows = without_windows cs s.windows }
windows-run s [] all = refl
windows-run s (c ∷ cs) all = ap (λ z. machine.fold z (close_windows cs)) (window-gone c.info.id s all.0)
    ∙ windows-run (record s { windows = without_row int_cmp window_key c.info.id s.windows }) cs all.1

pub running-windows : (s : State) (cs : List Window) → IsRunning s
    → IsRunning (record s { windows = without_windows cs s.windows })
running-windows s [] r = r
running-windows s (c ∷ cs) r = running-windows
    (record s { windows = without_row int_cmp window_key c.info.id s.windows }) cs (running-out c.info.id s r)
