-- Whether a file has the marker, by a walk over its frames.
use Rattle.std.proofs.Common.{◌≡◌, ◌↔◌, ℕ, Bool, true, false, IsTrue, List, [], ◌∷◌, length, refl, sym, ap, ◌∙◌, inl, inr, arith}
use Rattle.std.proofs.lemmas.Bool.{both_ways, cases_Bool}
use Rattle.std.proofs.lemmas.Bool.Decides.{nat_tests}
use Rattle.std.specs.List.{list_any}
use Rattle.snss_frames.specs.Frame.{Frame, marker}
use Rattle.file_reports.specs.FileKinds.{is_marker}

empty : (xs : List ℕ) → length xs ≡ 0 → xs ≡ []
empty [] e = refl
empty (x ∷ xs) e = absurd (omega arith)

tells_marker : (f : Frame) → is_marker f ≡ true → (f.id ≡ 255) × (length f.payload ≡ 0)
tells_marker f test = grind (arith, nat_tests)

frame_of : ℕ → List ℕ → Frame
frame_of id payload = record { id = id; payload = payload }

pub from_marker : (f : Frame) → is_marker f ≡ true → f ≡ marker
unfolding frame_of
from_marker f test =
    let t = tells_marker f test in
    ap (λ (x : ℕ). frame_of x f.payload) t.0 ∙ ap (frame_of 255) (empty f.payload t.1)

-- the test for a marker
pub marker_test : (b : Bool) (f : Frame) → (IsTrue b ↔ (f ≡ marker)) → b ≡ is_marker f
marker_test true f is = sym (ap is_marker (is.0 refl))
marker_test false f is =
    elim (cases_Bool (is_marker f)) [ inl yes' ↦ absurd (both_ways false refl (is.1 (from_marker f yes'))) | inr no' ↦ sym no' ]

-- the frames ahead have a marker where all have
abbrev pub AreMarkedAlike : List Frame → List Frame → Type 0
AreMarkedAlike frames all = list_any is_marker frames ≡ list_any is_marker all

pub marked_later : (f : Frame) → (IsTrue false ↔ (f ≡ marker)) → (later all : List Frame) → AreMarkedAlike (f ∷ later) all → AreMarkedAlike later all
marked_later f is later all h = rw (← marker_test false f is) at h

pub marked_here : (f : Frame) → (IsTrue true ↔ (f ≡ marker)) → (later all : List Frame) → AreMarkedAlike (f ∷ later) all → true ≡ list_any is_marker all
marked_here f is later all h = rw (← marker_test true f is) at h
