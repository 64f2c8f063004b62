-- The windows of a view, one after another.
use Rattle.std.proofs.Common.{◌≡◌, ℤ, List, [], ◌∷◌, ◌++◌, refl, sym, ap, ◌∙◌, append_assoc}
use Rattle.window_state.specs.declared.tab.Tab.{Tab}
use Rattle.window_state.specs.declared.window.Window.{Window}
use Rattle.window_state.specs.declared.view_parts.ViewWindow.{ViewWindow}
use Rattle.window_state.specs.Views.{view_windows, with_shown}

with_shown-others : (w : Window) (tabs : List Tab) (others : List ViewWindow) → with_shown w tabs others ≡ with_shown w tabs [] ++ others
with_shown-others w [] others = refl
with_shown-others w (t ∷ ts) others = refl

-- one more window, where it is shown
pub next-window : (tabs_of : ℤ → List Tab) (views new all : List ViewWindow) (left rest : List Window) (w : Window) → views ++ view_windows tabs_of left ≡ all → left ≡ w ∷ rest
    → new ≡ views ++ with_shown w (tabs_of w.info.id) [] → new ++ view_windows tabs_of rest ≡ all
next-window tabs_of views new all left rest w whole first put =
    rw put (append_assoc views (with_shown w (tabs_of w.info.id) []) (view_windows tabs_of rest)
    ∙ ap (λ vs. views ++ vs) (sym (with_shown-others w (tabs_of w.info.id) (view_windows tabs_of rest)))
    ∙ ap (λ ws. views ++ view_windows tabs_of ws) (sym first)
    ∙ whole)
