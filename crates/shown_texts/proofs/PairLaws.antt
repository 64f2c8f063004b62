-- Units that are shown one after another out of pairs of bytes.
use Rattle.std.proofs.Common.{◌≡◌, ℕ, ◌+◌, ◌*◌, ◌/◌, ◌<◌, ◌≤◌, List, ◌∷◌, ◌++◌, append_assoc, length, get_or, take, drop, length-drop, sym, ap, ◌∙◌, arith}
use Rattle.std.proofs.lemmas.List.{append-nil, length-take, take-append-le}
use Rattle.pickle_cells.specs.CellReading.{units_of}
use Rattle.pickle_cells.proofs.UnitLaws.{units_of-drop, units_of-short}
use Rattle.shown_texts.specs.Shown.{shown_unit, shown_units}

-- what is to be shown of these bytes from the i-th unit on
abbrev pub ahead : List ℕ → ℕ → List ℕ
ahead bytes i = shown_units (units_of (drop (2 * i) bytes))

pub one_more : (bytes : List ℕ) (i unit : ℕ) (old new whole : List ℕ) → 2 * i + 1 < length bytes → unit ≡ get_or bytes (2 * i) 0 + get_or bytes (2 * i + 1) 0 * 256 → new ≡ old ++ shown_unit unit → old ++ ahead bytes i ≡ whole → new ++ ahead bytes (i + 1) ≡ whole
one_more bytes i unit old new whole within is more before =
    let next = units_of-drop bytes i within ∙ ap (λ (x : ℕ). x ∷ units_of (drop (2 * (i + 1)) bytes)) (sym is) in
    ap (λ (x : List ℕ). x ++ ahead bytes (i + 1)) more
    ∙ append_assoc old (shown_unit unit) (ahead bytes (i + 1))
    ∙ ap (λ (x : List ℕ). old ++ shown_units x) (sym next)
    ∙ before

pub all_shown : (bytes : List ℕ) (i : ℕ) (old whole : List ℕ) → length bytes / 2 ≤ i → old ++ ahead bytes i ≡ whole → old ≡ whole
all_shown bytes i old whole behind before =
    let none = units_of-short (drop (2 * i) bytes) (omega (arith, length-drop (2 * i) bytes)) in
    sym (append-nil old) ∙ ap (λ (x : List ℕ). old ++ shown_units x) (sym none) ∙ before

pub kept_more : (start old more : List ℕ) → take (length start) old ≡ start → take (length start) (old ++ more) ≡ start
kept_more start old more kept =
    let within : length start ≤ length old = omega (arith, length-take (length start) old, ap length kept) in
    take-append-le (length start) old more within ∙ kept
