-- Whether the active window is among the shown ones.
use Rattle.std.specs.Prelude.{ℤ, Bool, false, List, Option, Some, None}
use Rattle.std.specs.List.{list_any}
use Rattle.std.specs.Ordering.{int_eq}
use Rattle.window_state.specs.declared.view_parts.ViewWindow.{ViewWindow}

abbrev pub is_listed : Option ℤ → List ViewWindow → Bool
is_listed None windows = false
is_listed (Some id) windows = list_any (λ w. int_eq w.info.id id) windows
