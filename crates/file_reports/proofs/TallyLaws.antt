-- A walk over the frames of a file that counts them.
use Rattle.std.proofs.Common.{◌≡◌, ℕ, ◌+◌, ◌≤◌, Bool, true, false, cond, List, [], ◌∷◌, length, Option, None, Some, refl, ap, ◌∙◌, arith}
use Rattle.std.specs.Option.{option_or}
use Rattle.snss_frames.specs.Frame.{Frame}
use Rattle.session_disk.specs.declared.family.Family.{Family}
use Rattle.file_reports.specs.FileKinds.{is_marker}
use Rattle.file_reports.specs.Tallies.{raw_count, marker_at, tally, with_frame}
use Rattle.file_reports.specs.declared.tally.Tally.{Tally}

-- what was counted and the frames ahead, which begin at a place, make up all frames
pub record MakesUp (family : Family) (t : Tally) (at : ℕ) (frames all : List Frame) : Type 0 where
  pub counted : t.commands + length frames ≡ length all
  pub raws : t.raw + raw_count family frames ≡ raw_count family all
  pub marks : option_or t.marker (marker_at at frames) ≡ marker_at 8 all

abbrev pub nothing : Tally
nothing = record { commands = 0; raw = 0; marker = None }

pub makes_first : (family : Family) (all : List Frame) → MakesUp family nothing 8 all all
makes_first family all = record { counted = omega arith; raws = omega arith; marks = refl }

marks_more : (marker : Option ℕ) (mark : Bool) (at : ℕ) (later : Option ℕ) → option_or (option_or marker (cond mark (Some at) None)) later ≡ option_or marker (cond mark (Some at) later)
marks_more None true at later = refl
marks_more None false at later = refl
marks_more (Some x) mark at later = refl

-- one frame further
pub makes_more : (family : Family) (t : Tally) (at : ℕ) (f : Frame) (later all : List Frame) → MakesUp family t at (f ∷ later) all → MakesUp family (with_frame family t at f) (at + (3 + length f.payload)) later all
unfolding raw_count marker_at
makes_more family t at f later all m = record {
  counted = omega (arith, m.counted);
  raws = omega (arith, m.raws);
  marks = marks_more t.marker (is_marker f) at (marker_at (at + (3 + length f.payload)) later) ∙ m.marks;
}

tally_of : ℕ → ℕ → Option ℕ → Tally
tally_of commands raw marker = record { commands = commands; raw = raw; marker = marker }

-- where none is ahead all are counted
pub makes_all : (family : Family) (t : Tally) (at : ℕ) (all : List Frame) → MakesUp family t at [] all → t ≡ tally family all
unfolding raw_count marker_at tally_of
makes_all family t at all m =
    let commands : t.commands ≡ length all = omega (arith, m.counted) in
    let raws : t.raw ≡ raw_count family all = omega (arith, m.raws) in
    ap (λ (x : ℕ). tally_of x t.raw t.marker) commands ∙ ap (λ (x : ℕ). tally_of (length all) x t.marker) raws
    ∙ ap (tally_of (length all) (raw_count family all)) (unmarked t.marker ∙ m.marks)
  where
    unmarked : (m : Option ℕ) → m ≡ option_or m None
    unmarked None = refl
    unmarked (Some x) = refl

-- one raw frame more at most
pub raw_more : (raw commands : ℕ) (more : Bool) → raw ≤ commands → raw + cond more 1 0 ≤ commands + 1
raw_more raw commands true fewer = omega arith
raw_more raw commands false fewer = omega arith
