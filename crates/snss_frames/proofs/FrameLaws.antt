-- What holds of every frame: its length, that bytes with it in front begin a frame, that a part of it begins
-- none, and that bytes begin with one frame only.
use Rattle.std.proofs.Common.{◌≡◌, ℕ, ◌+◌, ◌-◌, ◌*◌, suc, zero, ◌<◌, ◌≤◌, true, false, List, [], ◌∷◌, ◌++◌, length, take, drop, get_or, refl, sym, ap, ◌∙◌, inl, inr, arith}
use Rattle.std.proofs.lemmas.Nat.{from_le_bytes-to_le_bytes_2, le_bytes_2}
use Rattle.std.proofs.lemmas.Bool.{cases_lt}
use Rattle.std.proofs.lemmas.Bool.Decides.{nat_tests}
use Rattle.std.proofs.lemmas.List.{append-nil, length-append, length-take, length-take-le, take-take, take-append-drop, take_at, drop_at}
use Rattle.std.specs.Int.{w16, to_le_bytes, from_le_bytes}
use Rattle.snss_frames.specs.Frame.{Frame, IsFrame, BeginsWith, frame, frame_bytes, size_of, begins_frame}

-- a frame has three bytes beside its payload
pub length-frame : (id : ℕ) (payload : List ℕ) → length (frame id payload) ≡ 3 + length payload
unfolding frame
length-frame id payload = omega arith

-- what begins with a frame says that frame's size
pub size_of-frame : (f : Frame) (more : List ℕ) → IsFrame f → size_of (frame_bytes f ++ more) ≡ 1 + length f.payload
unfolding frame size_of
size_of-frame f more h = from_le_bytes-to_le_bytes_2 (1 + length f.payload) (omega arith)

-- bytes begin a frame where their size isn't 0 and its bytes are there
pub begins_frame_from : (bytes : List ℕ) → 1 ≤ size_of bytes → 2 + size_of bytes ≤ length bytes → begins_frame bytes ≡ true
unfolding begins_frame
begins_frame_from bytes some there = grind (arith, nat_tests)

-- where fewer bytes are there than the size says they begin none
pub begins_none_from : (bytes : List ℕ) → length bytes < 2 + size_of bytes → begins_frame bytes ≡ false
unfolding begins_frame
begins_none_from bytes short = grind (arith, nat_tests)

-- nor where the id isn't there
pub begins_none_short : (bytes : List ℕ) → length bytes < 3 → begins_frame bytes ≡ false
unfolding begins_frame
begins_none_short bytes short = grind (arith, nat_tests)

-- nor where the size is 0
pub begins_none_empty : (bytes : List ℕ) → size_of bytes ≡ 0 → begins_frame bytes ≡ false
unfolding begins_frame
begins_none_empty bytes empty = grind (arith, nat_tests)

-- what it tells that bytes begin a frame
pub begins_frame_tells : (bytes : List ℕ) → begins_frame bytes ≡ true → (1 ≤ size_of bytes) × (2 + size_of bytes ≤ length bytes)
unfolding begins_frame
begins_frame_tells bytes begins = grind (arith, nat_tests)

-- what it tells that bytes begin none
pub begins_none_tells : (bytes : List ℕ) → begins_frame bytes ≡ false → 2 ≤ length bytes → 1 ≤ size_of bytes → length bytes < 2 + size_of bytes
unfolding begins_frame
begins_none_tells bytes none two some = grind (arith, nat_tests)

-- a frame, with anything behind it, begins a frame
pub begins_frame-frame : (f : Frame) (more : List ℕ) → IsFrame f → begins_frame (frame_bytes f ++ more) ≡ true
begins_frame-frame f more h =
    let size = size_of-frame f more h in
    let long = length-append (frame_bytes f) more in
    let own = length-frame f.id f.payload in
    begins_frame_from (frame_bytes f ++ more) (omega arith) (omega arith)

-- the size stands in the first two bytes
pub size_of-take : (n : ℕ) (bytes : List ℕ) → 2 ≤ n → size_of (take n bytes) ≡ size_of bytes
unfolding size_of
size_of-take n bytes h = ap (from_le_bytes w16) (take-take 2 n bytes h)

-- fewer bytes than a frame's, from its first on, begin none
pub begins_none-cut : (f : Frame) (more : List ℕ) (n : ℕ) → IsFrame f → n < length (frame_bytes f) → begins_frame (take n (frame_bytes f ++ more)) ≡ false
begins_none-cut f more n h cut =
    let own = length-frame f.id f.payload in
    let bytes = frame_bytes f ++ more in
    let long = length-take n bytes in
    let whole = length-append (frame_bytes f) more in
    elim (cases_lt n 2) [
      | inl few ↦ begins_none_short (take n bytes) (omega arith)
      | inr two ↦
          let size : size_of (take n bytes) ≡ 1 + length f.payload = size_of-take n bytes two ∙ size_of-frame f more h in
          begins_none_from (take n bytes) (omega arith)
    ]

-- nor do fewer bytes of a frame alone
pub begins_none-part : (f : Frame) (n : ℕ) → IsFrame f → n < length (frame_bytes f) → begins_frame (take n (frame_bytes f)) ≡ false
begins_none-part f n h cut = rw (append-nil (frame_bytes f)) at (begins_none-cut f [] n h cut)

frame_of : ℕ → List ℕ → Frame
frame_of id payload = record { id = id; payload = payload }

frame_same : (f g : Frame) → f.id ≡ g.id → f.payload ≡ g.payload → f ≡ g
unfolding frame_of
frame_same f g id payload = ap (λ (x : ℕ). frame_of x f.payload) id ∙ ap (λ (x : List ℕ). frame_of g.id x) payload

-- bytes that begin with two frames begin with one, and have one rest
pub one_frame : (f g : Frame) (rest more : List ℕ) → IsFrame f → IsFrame g → frame_bytes f ++ rest ≡ frame_bytes g ++ more → (f ≡ g) × (rest ≡ more)
unfolding frame
one_frame f g rest more h k same =
    let n = length f.payload in
    let size : length g.payload ≡ length f.payload = omega (arith, size_of-frame f rest h, size_of-frame g more k, ap size_of same) in
    let behind : f.payload ++ rest ≡ g.payload ++ more = cc in
    let payload : f.payload ≡ g.payload =
    sym (take_at f.payload rest n refl) ∙ ap (take n) behind ∙ take_at g.payload more n size in (
      frame_same f g (cc) payload,
      sym (drop_at f.payload rest n refl) ∙ ap (drop n) behind ∙ drop_at g.payload more n size,
    )

size_below : (a b : ℕ) (more : List ℕ) → a < 256 → b < 256 → size_of (a ∷ b ∷ more) < 65536
unfolding size_of
size_below a b more low high = omega arith

size_bytes : (a b : ℕ) (more : List ℕ) → ((k : ℕ) → get_or (a ∷ b ∷ []) k 0 < 256) → to_le_bytes w16 (size_of (a ∷ b ∷ more)) ≡ a ∷ b ∷ []
unfolding size_of
size_bytes a b more range = le_bytes_2 (a ∷ b ∷ []) (size_of (a ∷ b ∷ more)) refl range refl

two_range : (a b : ℕ) → a < 256 → b < 256 → (k : ℕ) → get_or (a ∷ b ∷ []) k 0 < 256
two_range a b low high zero = low
two_range a b low high (suc zero) = high
two_range a b low high (suc (suc k)) = omega arith

-- the frame that stands where bytes begin one
abbrev pub front : List ℕ → Frame
front bytes = record { id = get_or bytes 2 0; payload = take (size_of bytes - 1) (drop 3 bytes) }

behind_size : (a b id : ℕ) (more : List ℕ) → ((k : ℕ) → get_or (a ∷ b ∷ id ∷ more) k 0 < 256) → 1 ≤ size_of (a ∷ b ∷ id ∷ more) → 2 + size_of (a ∷ b ∷ id ∷ more) ≤ length (a ∷ b ∷ id ∷ more) → BeginsWith (a ∷ b ∷ id ∷ more) (front (a ∷ b ∷ id ∷ more))
unfolding frame
behind_size a b id more range some there =
    let n = size_of (a ∷ b ∷ id ∷ more) - 1 in
    let below = size_below a b (id ∷ more) (range 0) (range 1) in
    let long : length (take n more) ≡ n = length-take-le n more (omega arith) in
    let size : 1 + length (take n more) ≡ size_of (a ∷ b ∷ id ∷ more) = omega arith in
    let said : to_le_bytes w16 (1 + length (take n more)) ≡ a ∷ b ∷ [] =
    ap (to_le_bytes w16) size ∙ size_bytes a b (id ∷ more) (two_range a b (range 0) (range 1)) in
    let joined : to_le_bytes w16 (1 + length (take n more)) ++ id ∷ (take n more ++ drop n more) ≡ a ∷ b ∷ id ∷ more =
    ap (λ (x : List ℕ). x ++ id ∷ (take n more ++ drop n more)) said ∙ ap (λ (x : List ℕ). a ∷ b ∷ id ∷ x) (take-append-drop n more) in
    record { fits = record { id = range 2; payload = omega arith }; more = drop n more; whole = sym joined }

-- bytes with a size that is there begin with that frame
pub begins_with_front : (bytes : List ℕ) → ((k : ℕ) → get_or bytes k 0 < 256) → 1 ≤ size_of bytes → 2 + size_of bytes ≤ length bytes → BeginsWith bytes (front bytes)
begins_with_front [] range some there = absurd (omega arith)
begins_with_front (a ∷ []) range some there = absurd (omega arith)
begins_with_front (a ∷ b ∷ []) range some there = absurd (omega arith)
begins_with_front (a ∷ b ∷ id ∷ more) range some there = behind_size a b id more range some there

-- bytes that begin a frame begin with that frame
pub first_of : (bytes : List ℕ) → ((k : ℕ) → get_or bytes k 0 < 256) → begins_frame bytes ≡ true → BeginsWith bytes (front bytes)
first_of bytes range begins = let t = begins_frame_tells bytes begins in begins_with_front bytes range t.0 t.1

-- the size by its two bytes
pub size_of-read : (bytes : List ℕ) → size_of bytes ≡ get_or bytes 0 0 + get_or bytes 1 0 * 256
unfolding size_of
size_of-read [] = refl
size_of-read (a ∷ []) = refl
size_of-read (a ∷ b ∷ more) = refl
