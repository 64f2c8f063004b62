-- A script grows by the line at its next place.
use Rattle.std.proofs.Common.{◌≡◌, ℕ, zero, suc, ◌+◌, ◌/◌, ◌^◌, [], ◌∷◌, ◌++◌, map-id, add-one, refl, sym, ap, ◌∙◌, arith}
use Rattle.std.specs.List.{flat_map, range_with_len}
use Rattle.std.proofs.lemmas.List.{flat_map_more}
use Rattle.std.proofs.lemmas.List.FromFn.{map-range_with_len_more}
use Rattle.script_lines.specs.Generated.{next_state, state_at, line_for, line_at, generated}

-- the state from which a place draws its own
abbrev pub state_before : ℕ → ℕ → ℕ
state_before x zero = x
state_before x (suc place) = state_at x place

-- what is drawn from it is the state at the place
pub state-drawn : (x place state : ℕ) → state ≡ state_before x place → next_state state ≡ state_at x place
unfolding state_at
state-drawn x zero state e = ap next_state e
state-drawn x (suc place) state e = ap next_state e

pub state-more : (x place state : ℕ) → state ≡ state_at x place → state ≡ state_before x (place + 1)
state-more x place state e = rw add-one e

pub generated-none : (x : ℕ) → [] ≡ generated x 0
unfolding generated
generated-none x = refl

places-more : (place : ℕ) → range_with_len 0 (place + 1) ≡ range_with_len 0 place ++ place ∷ []
places-more place =
    sym (map-id (range_with_len 0 (place + 1))) ∙ map-range_with_len_more (λ i. i) 0 place place (omega arith)
    ∙ ap (λ places. places ++ place ∷ []) (map-id (range_with_len 0 place))

pub generated-more : (x place state : ℕ) → state ≡ state_at x place → generated x place ++ line_for place (state / 2 ^ 33) ≡ generated x (place + 1)
unfolding generated
generated-more x place state e =
    ap (λ s. flat_map (line_at x) (range_with_len 0 place) ++ line_for place (s / 2 ^ 33)) e
    ∙ flat_map_more (line_at x) [] (range_with_len 0 place) place ∙ ap (flat_map (line_at x)) (sym (places-more place))
