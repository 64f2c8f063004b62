-- The texts of objects as they are made: a start, a list, an end.
use Rattle.std.proofs.Common.{◌≡◌, ℕ, ℤ, pos, negsuc, Bool, true, false, List, ◌++◌, append_assoc, map, codes, decimal, Option, None, Some, refl, ap, ◌∙◌}
use Rattle.std.specs.Fmt.{signed_decimal}
use Rattle.serde_json.specs.Data.{Data, array, boolean}
use Rattle.serde_json.specs.Find.{of_integer}
use Rattle.serde_json.specs.View.{items_of}
use Rattle.serde_json.specs.Written.{compact_text, number_text}
use Rattle.serde_json.proofs.OnLiterals.{serde_json_on_literals}
use Rattle.window_state.specs.declared.view_parts.ViewTab.{ViewTab}
use Rattle.window_state.specs.declared.view_parts.ViewWindow.{ViewWindow}
use Rattle.window_state.specs.declared.view_parts.View.{View}
use Rattle.closed_entries.specs.declared.closed_tab.ClosedTab.{ClosedTab}
use Rattle.closed_entries.specs.declared.closed_window.ClosedWindow.{ClosedWindow}
use Rattle.closed_entries.specs.declared.entry.Entry.{Entry}
use Rattle.view_reports.specs.ObjectTexts.{tab_start, tab_end, window_start, closed_tab_start, closed_window_start, view_start}
use Rattle.view_reports.specs.PageValue.{pages_value}
use Rattle.view_reports.specs.RecoveredValue.{tab_value, window_value, closed_tab_value, closed_window_value, entry_value, active_value, recovered_value, json_line}

int_text : (z : ℤ) → number_text (of_integer z) ≡ signed_decimal z
int_text (pos n) = refl
int_text (negsuc n) = refl

-- the text of a list of values
abbrev pub list_text : {X : Type 0} → (X → Data) → List X → List ℕ
list_text f xs = compact_text (array (items_of (map f xs)))

three_first : (a b c rest : List ℕ) → a ++ (b ++ (c ++ rest)) ≡ (a ++ (b ++ c)) ++ rest
three_first a b c rest = simp append_assoc

five_first : (a b c d e rest : List ℕ) → a ++ (b ++ (c ++ (d ++ (e ++ rest)))) ≡ (a ++ (b ++ (c ++ (d ++ e)))) ++ rest
five_first a b c d e rest = simp append_assoc

end_text : (pinned : Bool) → codes ",\"pinned\":" ++ (compact_text (boolean pinned) ++ codes "}") ≡ tab_end pinned
end_text true = refl
end_text false = refl

tab_pieces : (t : ViewTab) → compact_text (tab_value t) ≡ codes "{\"current\":" ++ (decimal t.current ++ (codes ",\"id\":" ++ (signed_decimal t.info.id ++ (codes ",\"pages\":" ++
    (compact_text (pages_value t.pages) ++ (codes ",\"pinned\":" ++ (compact_text (boolean t.info.pinned) ++ codes "}")))))))
unfolding serde_json_on_literals
tab_pieces t = rw (int_text t.info.id) refl

pub tab_text : (t : ViewTab) → compact_text (tab_value t) ≡ tab_start t.current t.info.id ++ (compact_text (pages_value t.pages) ++ tab_end t.info.pinned)
tab_text t =
    tab_pieces t
    ∙ five_first (codes "{\"current\":") (decimal t.current) (codes ",\"id\":") (signed_decimal t.info.id) (codes ",\"pages\":") _
    ∙ ap (λ (end : List ℕ). tab_start t.current t.info.id ++ (compact_text (pages_value t.pages) ++ end)) (end_text t.info.pinned)

window_pieces : (w : ViewWindow) → compact_text (window_value w) ≡ codes "{\"id\":" ++ (signed_decimal w.info.id ++ (codes ",\"selected\":" ++ (decimal w.selected ++ (codes ",\"tabs\":" ++ (list_text tab_value w.tabs ++ codes "}")))))
unfolding serde_json_on_literals
window_pieces w = rw (int_text w.info.id) refl

pub window_text : (w : ViewWindow) → compact_text (window_value w) ≡ window_start w.info.id w.selected ++ (list_text tab_value w.tabs ++ codes "}")
window_text w = window_pieces w ∙ five_first (codes "{\"id\":") (signed_decimal w.info.id) (codes ",\"selected\":") (decimal w.selected) (codes ",\"tabs\":") _

closed_tab_pieces : (t : ClosedTab) → compact_text (closed_tab_value t) ≡ codes "{\"id\":" ++ (signed_decimal t.id ++ (codes ",\"kind\":\"tab\",\"pages\":" ++ (compact_text (pages_value (map (λ page. page.1) t.pages)) ++ codes "}")))
unfolding serde_json_on_literals
closed_tab_pieces t = rw (int_text t.id) refl

pub closed_tab_text : (t : ClosedTab) → compact_text (closed_tab_value t) ≡ closed_tab_start t.id ++ (compact_text (pages_value (map (λ page. page.1) t.pages)) ++ codes "}")
closed_tab_text t = closed_tab_pieces t ∙ three_first (codes "{\"id\":") (signed_decimal t.id) (codes ",\"kind\":\"tab\",\"pages\":") _

closed_window_pieces : (w : ClosedWindow) → compact_text (closed_window_value w) ≡ codes "{\"id\":" ++ (signed_decimal w.id ++ (codes ",\"kind\":\"window\",\"tabs\":" ++ (list_text closed_tab_value w.tabs ++ codes "}")))
unfolding serde_json_on_literals
closed_window_pieces w = rw (int_text w.id) refl

pub closed_window_text : (w : ClosedWindow) → compact_text (closed_window_value w) ≡ closed_window_start w.id ++ (list_text closed_tab_value w.tabs ++ codes "}")
closed_window_text w = closed_window_pieces w ∙ three_first (codes "{\"id\":") (signed_decimal w.id) (codes ",\"kind\":\"window\",\"tabs\":") _

active_pieces : (active : Option ℤ) → codes "{\"active\":" ++ (compact_text (active_value active) ++ codes ",\"closed\":") ≡ view_start active
unfolding serde_json_on_literals
active_pieces None = refl
active_pieces (Some window) = rw (int_text window) refl

view_pieces : (view : View) (entries : List Entry) → compact_text (recovered_value view entries) ≡ codes "{\"active\":" ++ (compact_text (active_value view.active) ++ (codes ",\"closed\":" ++ (list_text entry_value entries ++ (codes ",\"windows\":" ++ (list_text window_value view.windows ++ codes "}")))))
unfolding serde_json_on_literals
view_pieces view entries = refl

four_first : (a b c d rest : List ℕ) → (a ++ (b ++ (c ++ d))) ++ rest ≡ a ++ (b ++ (c ++ (d ++ rest)))
four_first a b c d rest = simp append_assoc

pub view_text : (view : View) (entries : List Entry) →
    json_line view entries ≡ view_start view.active ++ (list_text entry_value entries ++ (codes ",\"windows\":" ++ (list_text window_value view.windows ++ codes "}\n")))
view_text view entries =
    let start = view_start view.active in
    let lists = list_text entry_value entries ++ (codes ",\"windows\":" ++ (list_text window_value view.windows ++ codes "}")) in
    let pieces = three_first (codes "{\"active\":") (compact_text (active_value view.active)) (codes ",\"closed\":") lists in
    ap (λ (text : List ℕ). text ++ codes "\n") (view_pieces view entries ∙ pieces ∙ ap (λ (x : List ℕ). x ++ lists) (active_pieces view.active))
    ∙ append_assoc start lists (codes "\n")
    ∙ ap (λ (rest : List ℕ). start ++ rest) (four_first (list_text entry_value entries) (codes ",\"windows\":") (list_text window_value view.windows) (codes "}") (codes "\n"))
