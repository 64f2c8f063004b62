-- A walk over a file's frames: what was passed, one frame further, and where no frame follows.
use Rattle.std.proofs.Common.{◌≡◌, ℕ, ◌+◌, ◌≤◌, false, List, [], ◌∷◌, ◌++◌, length, drop, Contains, refl, sym, ap, ◌∙◌, append_assoc, inl, inr, arith}
use Rattle.std.proofs.lemmas.Bool.{both_ways}
use Rattle.std.proofs.lemmas.List.{append-nil, length-append, length-drop, drop-drop, drop_at}
use Rattle.std.proofs.lemmas.List.Elements.{Contains-append_left, Contains-push, Contains-push_cases}
use Rattle.std.specs.List.{AllByRecursion, flat_map}
use Rattle.snss_frames.specs.Frame.{Frame, IsFrame, BeginsWith, frame_bytes, begins_frame}
use Rattle.snss_frames.specs.Reading.{Reads, offset_after}
use Rattle.snss_frames.proofs.FrameLaws.{length-frame, begins_frame-frame, one_frame}
use Rattle.snss_frames.proofs.ReadingLaws.{one_reading}

-- these frames stand between the header and a place in the file
pub record Passed (bytes : List ℕ) (at : ℕ) (frames : List Frame) : Type 0 where
  pub whole : drop 8 bytes ≡ flat_map frame_bytes frames ++ drop at bytes
  pub each : AllByRecursion IsFrame frames
  pub place : at ≡ offset_after 8 frames
  pub within : at ≤ length bytes

-- frames one after another
pub flat_map-append : (fs gs : List Frame) → flat_map frame_bytes (fs ++ gs) ≡ flat_map frame_bytes fs ++ flat_map frame_bytes gs
flat_map-append [] gs = refl
flat_map-append (f ∷ fs) gs =
    ap (λ (x : List ℕ). frame_bytes f ++ x) (flat_map-append fs gs)
    ∙ sym (append_assoc (frame_bytes f) (flat_map frame_bytes fs) (flat_map frame_bytes gs))

pub All-append : {X : Type 0} (P : X → Type 0) (xs ys : List X) → AllByRecursion P xs → AllByRecursion P ys → AllByRecursion P (xs ++ ys)
All-append P [] ys p q = q
All-append P (x ∷ xs) ys p q = (p.0, All-append P xs ys p.1 q)

one : (f : Frame) → flat_map frame_bytes (f ∷ []) ≡ frame_bytes f
one f = append-nil (frame_bytes f)

-- what begins with a frame goes on behind it
pub behind_frame : (bytes : List ℕ) (at next : ℕ) (f : Frame) (b : BeginsWith (drop at bytes) f) → next ≡ at + (3 + length f.payload) → drop next bytes ≡ b.more
behind_frame bytes at next f b e =
    ap (λ (n : ℕ). drop n bytes) e ∙ sym (drop-drop (3 + length f.payload) at bytes)
    ∙ ap (drop (3 + length f.payload)) b.whole ∙ drop_at (frame_bytes f) b.more (3 + length f.payload) (length-frame f.id f.payload)

-- a frame further
pub passed_more : (bytes : List ℕ) (at next : ℕ) (frames : List Frame) (f : Frame) → Passed bytes at frames → BeginsWith (drop at bytes) f → next ≡ at + (3 + length f.payload) → Passed bytes next (frames ++ f ∷ [])
passed_more bytes at next frames f passed b e =
    let behind = behind_frame bytes at next f b e in
    let bytes_of = flat_map-append frames (f ∷ []) ∙ ap (λ (x : List ℕ). flat_map frame_bytes frames ++ x) (one f) in
    record {
      whole = passed.whole ∙ ap (λ (x : List ℕ). flat_map frame_bytes frames ++ x) (b.whole ∙ ap (λ (x : List ℕ). frame_bytes f ++ x) (sym behind))
          ∙ sym (append_assoc (flat_map frame_bytes frames) (frame_bytes f) (drop next bytes)) ∙ ap (λ (x : List ℕ). x ++ drop next bytes) (sym bytes_of);
      each = All-append IsFrame frames (f ∷ []) passed.each (b.fits, tt);
      place = omega (arith, passed.place, ap length bytes_of, length-append (flat_map frame_bytes frames) (frame_bytes f), length-frame f.id f.payload);
      within = omega (arith, passed.within, ap length b.whole, length-append (frame_bytes f) b.more, length-frame f.id f.payload, length-drop at bytes);
    }

-- where no frame begins all are read
pub passed_all : (bytes : List ℕ) (at : ℕ) (frames : List Frame) → Passed bytes at frames → begins_frame (drop at bytes) ≡ false → Reads (drop 8 bytes) frames (drop at bytes)
passed_all bytes at frames passed none = record { whole = passed.whole; each = passed.each; ended = none }

-- what a reading finds behind frames that stand before it
pub record ReadsBehind (prefix : List Frame) (more : List ℕ) (frames : List Frame) (rest : List ℕ) : Type 0 where
  pub later : List Frame
  pub parts : frames ≡ prefix ++ later
  pub reads : Reads more later rest

behind_one : (f : Frame) (prefix : List Frame) (more : List ℕ) (frames : List Frame) (rest : List ℕ) → IsFrame f → Reads (frame_bytes f ++ (flat_map frame_bytes prefix ++ more)) frames rest →
    ((gs : List Frame) → Reads (flat_map frame_bytes prefix ++ more) gs rest → ReadsBehind prefix more gs rest) → ReadsBehind (f ∷ prefix) more frames rest
behind_one f prefix more [] rest h reads later =
    absurd (both_ways (begins_frame rest) reads.ended (ap begins_frame (sym reads.whole) ∙ begins_frame-frame f (flat_map frame_bytes prefix ++ more) h))
behind_one f prefix more (g ∷ gs) rest h reads later =
    let first = one_frame f g (flat_map frame_bytes prefix ++ more) (flat_map frame_bytes gs ++ rest) h reads.each.0
    (reads.whole ∙ append_assoc (frame_bytes g) (flat_map frame_bytes gs) rest) in
    let behind = later gs (record { whole = first.1; each = reads.each.1; ended = reads.ended }) in
    record {
      later = behind.later;
      parts = ap (λ (x : Frame). x ∷ gs) (sym first.0) ∙ ap (λ (x : List Frame). f ∷ x) behind.parts;
      reads = behind.reads;
    }

-- a reading begins with the frames before, and goes on behind them
pub reads_behind : (prefix : List Frame) (more : List ℕ) (frames : List Frame) (rest : List ℕ) → AllByRecursion IsFrame prefix → Reads (flat_map frame_bytes prefix ++ more) frames rest → ReadsBehind prefix more frames rest
reads_behind [] more frames rest each reads = record { later = frames; parts = refl; reads = reads }
reads_behind (f ∷ prefix) more frames rest each reads =
    behind_one f prefix more frames rest each.0 (rw append_assoc at reads) (λ gs later. reads_behind prefix more gs rest each.1 later)

-- the frame at a place that a walk has come to is among the frames of the file
pub contains_here : (bytes : List ℕ) (at : ℕ) (passed : List Frame) (f : Frame) (frames : List Frame) (rest : List ℕ) → Passed bytes at passed → BeginsWith (drop at bytes) f → Reads (drop 8 bytes) frames rest → Contains frames f
contains_here bytes at passed f frames rest walked b reads =
    let further = passed_more bytes at (at + (3 + length f.payload)) passed f walked b refl in
    let split = reads_behind (passed ++ f ∷ []) _ frames rest further.each (rw further.whole at reads) in
    rw split.parts (Contains-append_left (passed ++ f ∷ []) split.later f (Contains-push passed f))

-- a frame that isn't there and isn't the next one isn't there afterwards
pub lacks_more : (passed : List Frame) (f g : Frame) → (Contains passed g → ⊥) → (f ≡ g → ⊥) → Contains (passed ++ f ∷ []) g → ⊥
lacks_more passed f g none other h = elim (Contains-push_cases passed f g h) [ inl before ↦ none before | inr here ↦ other here ]

-- where no frame begins, what wasn't passed isn't among the frames of the file
pub reads_unmarked : (bytes : List ℕ) (at : ℕ) (passed : List Frame) (g : Frame) (frames : List Frame) (rest : List ℕ) → Passed bytes at passed → begins_frame (drop at bytes) ≡ false →
    (Contains passed g → ⊥) → Reads (drop 8 bytes) frames rest → Contains frames g → ⊥
reads_unmarked bytes at passed g frames rest walked none lacks reads h =
    let same = one_reading (drop 8 bytes) frames passed rest (drop at bytes) reads (passed_all bytes at passed walked none) in
    lacks (rw same.0 at h)

-- a frame that stands ends within the bytes
pub frame_within : (bytes : List ℕ) (at : ℕ) (f : Frame) → at ≤ length bytes → BeginsWith (drop at bytes) f → at + (3 + length f.payload) ≤ length bytes
frame_within bytes at f small b =
    omega (arith, ap length b.whole, length-append (frame_bytes f) b.more, length-frame f.id f.payload, length-drop at bytes)
