-- A walk over the frames of a file: which frames are still ahead, one frame further, and where no frame follows.
use Rattle.std.proofs.Common.{◌≡◌, ℕ, ◌+◌, false, List, [], ◌∷◌, ◌++◌, length, drop, refl, sym, ap, ◌∙◌, append_assoc, arith}
use Rattle.std.proofs.lemmas.Bool.{both_ways}
use Rattle.std.proofs.lemmas.List.{length-append}
use Rattle.std.specs.List.{flat_map}
use Rattle.snss_frames.specs.Frame.{Frame, IsFrame, BeginsWith, frame_bytes, begins_frame}
use Rattle.snss_frames.specs.Feed.{Feed}
use Rattle.snss_frames.specs.Reading.{Reads, offset_after, ending_at}
use Rattle.snss_frames.specs.declared.ending.Ending.{Ending}
use Rattle.snss_frames.proofs.FrameLaws.{length-frame, begins_frame-frame, one_frame}
use Rattle.snss_frames.proofs.ReadingLaws.{one_reading, reading_none}
use Rattle.file_reading.specs.FrameReading.{EndsWith}
use Rattle.file_rotation.proofs.WalkLaws.{behind_frame}

-- of all frames of a file these stand from a place on, and so it is with them and all
pub record Follow (P : List Frame → List Frame → Type 0) (bytes : List ℕ) (at : ℕ) (all : List Frame) (rest : List ℕ) : Type 0 where
  pub frames : List Frame
  pub reads : Reads (drop at bytes) frames rest
  pub place : offset_after at frames ≡ offset_after 8 all
  pub holds : P frames all

-- so it is with the frames that stand from a place on, and all, whatever the frames of the file are
abbrev pub Ahead : (List Frame → List Frame → Type 0) → List ℕ → ℕ → Type 0
Ahead P bytes at = (all : List Frame) (rest : List ℕ) → Reads (drop 8 bytes) all rest → Follow P bytes at all rest

-- at the beginning all are ahead
pub ahead_first : (P : List Frame → List Frame → Type 0) (bytes : List ℕ) → ((all : List Frame) → P all all) → Ahead P bytes 8
ahead_first P bytes holds = λ all rest reads. record { frames = all; reads = reads; place = refl; holds = holds all }

-- the frame that stands first is the first one of a reading
pub split_first : (f : Frame) (more : List ℕ) (fs : List Frame) (rest : List ℕ) → IsFrame f → Reads (frame_bytes f ++ more) fs rest →
    (later : List Frame) × (fs ≡ f ∷ later) × Reads more later rest
split_first f more [] rest h reads =
    absurd (both_ways (begins_frame rest) reads.ended (ap begins_frame (sym reads.whole) ∙ begins_frame-frame f more h))
split_first f more (g ∷ gs) rest h reads =
    let first = one_frame f g more (flat_map frame_bytes gs ++ rest) h reads.each.0
    (reads.whole ∙ append_assoc (frame_bytes g) (flat_map frame_bytes gs) rest) in
    (gs, ap (λ (x : Frame). x ∷ gs) (sym first.0), record { whole = first.1; each = reads.each.1; ended = reads.ended })

module _ (P Q : List Frame → List Frame → Type 0) (bytes : List ℕ) (at next : ℕ) (f : Frame) (b : BeginsWith (drop at bytes) f) (behind : next ≡ at + (3 + length f.payload))
    (step : (later all : List Frame) → P (f ∷ later) all → Q later all) where
  follow_more : (all : List Frame) (rest : List ℕ) → Follow P bytes at all rest → Follow Q bytes next all rest
  follow_more all rest a =
      let (later, first, reads) = split_first f b.more a.frames rest b.fits (rw b.whole at a.reads) in
      record {
        frames = later;
        reads = rw (behind_frame bytes at next f b behind) reads;
        place = omega (arith, behind, length-append (frame_bytes f) (flat_map frame_bytes later), length-frame f.id f.payload, ap (λ (x : List Frame). length (flat_map frame_bytes x)) first, a.place);
        holds = step later all (rw first at a.holds);
      }

  -- one frame further
  pub ahead_more : Ahead P bytes at → Ahead Q bytes next
  ahead_more ahead = λ all rest reads. follow_more all rest (ahead all rest reads)

module _ (P : List Frame → List Frame → Type 0) (bytes : List ℕ) (at : ℕ) where
  -- the frame at this place is the first one ahead
  pub ahead_here : (f : Frame) (b : BeginsWith (drop at bytes) f) → Ahead P bytes at → (all : List Frame) (rest : List ℕ) → Reads (drop 8 bytes) all rest → (later : List Frame) × P (f ∷ later) all
  ahead_here f b ahead all rest reads =
      let a = ahead all rest reads in
      let (later, first, behind) = split_first f b.more a.frames rest b.fits (rw b.whole at a.reads) in
      (later, rw first at a.holds)

  -- where no frame begins none is ahead
  pub ahead_none : begins_frame (drop at bytes) ≡ false → Ahead P bytes at → (all : List Frame) (rest : List ℕ) → Reads (drop 8 bytes) all rest →
      P [] all × (drop at bytes ≡ rest) × (at ≡ offset_after 8 all)
  ahead_none none ahead all rest reads =
      let a = ahead all rest reads in
      let same = one_reading (drop at bytes) a.frames [] rest (drop at bytes) a.reads (reading_none (drop at bytes) none) in
      (rw same.0 at a.holds, sym same.1, omega (arith, ap (λ (x : List Frame). length (flat_map frame_bytes x)) same.0, a.place))

-- so the file ends as its bytes end there
pub ends_at : {N : Type 0} (ending : Ending) (at : ℕ) (left rest : List ℕ) (all : List Frame) → ending ≡ ending_at at left → N × (left ≡ rest) × (at ≡ offset_after 8 all) → ending ≡ ending_at (offset_after 8 all) rest
ends_at ending at left rest all said (_, same, place) = said ∙ ap (ending_at at) same ∙ ap (λ (x : ℕ). ending_at x rest) place

-- how a reader says that a file ends, once none follows, is how its bytes end there
pub ending_read : (file : List ℕ) (feed : Feed) (at : ℕ) (ending : Ending) → feed.at ≡ at → EndsWith file feed → ending ≡ ending_at feed.at feed.held → ending ≡ ending_at at (drop at file)
ending_read file feed at ending same ends said = said ∙ ends.ending ∙ ap (λ (n : ℕ). ending_at n (drop n file)) same
