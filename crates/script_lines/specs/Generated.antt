-- A script that is drawn from a number: what stands at each place of it.
use Rattle.std.specs.Prelude.{ℕ, zero, suc, ◌+◌, ◌*◌, ◌/◌, ◌%◌, ◌^◌, ◌==◌, List, [], ◌∷◌, ◌++◌, if◌then◌else◌, codes}
use Rattle.std.specs.List.{flat_map, range_with_len}
use Rattle.std.specs.Fmt.{decimal}

-- the state that follows another, by the linear congruential generator of Knuth's MMIX
abbrev pub next_state : ℕ → ℕ
next_state state = (state * 6364136223846793005 + 1442695040888963407) % 2 ^ 64

-- the state at a place; the number that is given stands before the first place
unfoldable pub state_at : ℕ → ℕ → ℕ
state_at x zero = next_state x
state_at x (suc place) = next_state (state_at x place)

-- what is drawn at a place: the upper 31 bits of its state
abbrev pub drawn_at : ℕ → ℕ → ℕ
drawn_at x place = state_at x place / 2 ^ 33

-- each eight lines open a tab, visit six pages in it and change it once
abbrev pub tab_at : ℕ → ℕ
tab_at place = 1 + place / 8

abbrev pub opening : ℕ → ℕ → List ℕ
opening tab drawn = codes "tab " ++ (decimal (1 + drawn % 3) ++ (32 ∷ decimal tab))

abbrev pub visit : ℕ → ℕ → ℕ → List ℕ
visit tab drawn place =
    codes "visit " ++ (decimal tab ++ (codes " http://h" ++ (decimal (drawn % 97) ++ (codes "/ "
    ++ (decimal (drawn % 200) ++ (codes " p" ++ decimal place))))))

abbrev pub change : ℕ → ℕ → ℕ → List ℕ
change tab drawn place =
    if drawn % 4 == 0 then codes "pin " ++ decimal tab
    else (if drawn % 4 == 1 then codes "back " ++ decimal tab
    else (if drawn % 4 == 2 then codes "close-tab " ++ decimal tab
    else codes "title " ++ (decimal tab ++ (codes " t" ++ decimal place))))

-- the line at a place, with its line feed
unfoldable pub line_for : ℕ → ℕ → List ℕ
line_for place drawn =
    (if place % 8 == 0 then opening (tab_at place) drawn
    else (if place % 8 == 7 then change (tab_at place) drawn place else visit (tab_at place) drawn place)) ++ 10 ∷ []

abbrev pub line_at : ℕ → ℕ → List ℕ
line_at x place = line_for place (drawn_at x place)

-- the lines at so many places, one after another
unfoldable pub generated : ℕ → ℕ → List ℕ
generated x count = flat_map (line_at x) (range_with_len 0 count)
