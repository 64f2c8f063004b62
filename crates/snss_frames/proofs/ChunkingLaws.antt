-- However the bytes of a file are cut into pieces, a feed gives the frames of the file, and what it holds is the rest.
use Rattle.std.proofs.Common.{◌≡◌, ℕ, ◌+◌, false, List, [], ◌∷◌, ◌++◌, length, drop, sym, ap, ◌∙◌, append_assoc, arith}
use Rattle.std.proofs.lemmas.List.{append-nil, length-append, drop_at}
use Rattle.std.specs.List.{AllByRecursion, flat_map}
use Rattle.snss_frames.specs.Frame.{Frame, IsFrame, BeginsWith, frame_bytes, begins_frame}
use Rattle.snss_frames.specs.Reading.{Reads, offset_after}
use Rattle.snss_frames.specs.Feed.{Feed, fed, past}
use Rattle.snss_frames.specs.Chunking.{Event, Came, Given, ComesTo, came, given}
use Rattle.snss_frames.proofs.FrameLaws.{length-frame}

-- what begins with a frame is that frame and what stands behind it
pub begins_split : (bytes : List ℕ) (f : Frame) → BeginsWith bytes f → bytes ≡ frame_bytes f ++ drop (3 + length f.payload) bytes
begins_split bytes f b =
    let behind = ap (drop (3 + length f.payload)) b.whole ∙ drop_at (frame_bytes f) b.more (3 + length f.payload) (length-frame f.id f.payload) in
    b.whole ∙ ap (λ (x : List ℕ). frame_bytes f ++ x) (sym behind)

-- Nothing is lost, made or moved: what was held and what came are the frames that were given, and what is held now.
pub record Conserves (old : Feed) (events : List Event) (new : Feed) : Type 0 where
  pub whole : old.held ++ came events ≡ flat_map frame_bytes (given events) ++ new.held
  pub each : AllByRecursion IsFrame (given events)
  pub place : new.at ≡ offset_after old.at (given events)

conserves_none : (old new : Feed) → new ≡ old → Conserves old [] new
conserves_none old new same = rw same (record { whole = append-nil old.held; each = tt; place = omega arith })

conserves_came : (old new : Feed) (bytes : List ℕ) (events : List Event) → Conserves (fed old bytes) events new → Conserves old (Came bytes ∷ events) new
conserves_came old new bytes events c = record {
  whole = sym (append_assoc old.held bytes (came events)) ∙ c.whole;
  each = c.each;
  place = c.place;
}

conserves_given : (old new : Feed) (f : Frame) (events : List Event) → BeginsWith old.held f → Conserves (past (3 + length f.payload) old) events new → Conserves old (Given f ∷ events) new
conserves_given old new f events b c =
    let behind = drop (3 + length f.payload) old.held in
    record {
      whole = ap (λ (x : List ℕ). x ++ came events) (begins_split old.held f b) ∙ append_assoc (frame_bytes f) behind (came events)
          ∙ ap (λ (x : List ℕ). frame_bytes f ++ x) c.whole ∙ sym (append_assoc (frame_bytes f) (flat_map frame_bytes (given events)) new.held);
      each = (b.fits, c.each);
      place = omega (arith, c.place, length-append (frame_bytes f) (flat_map frame_bytes (given events)), length-frame f.id f.payload);
    }

pub conserves : (old new : Feed) (events : List Event) → ComesTo old events new → Conserves old events new
conserves old new [] comes = conserves_none old new comes
conserves old new (Came bytes ∷ events) comes = conserves_came old new bytes events (conserves (fed old bytes) new events comes)
conserves old new (Given f ∷ events) comes = conserves_given old new f events comes.0 (conserves (past (3 + length f.payload) old) new events comes.1)

-- Where a feed that began empty gives no frame any more, the bytes that came read to the frames that it gave, and to what it
-- holds: so the pieces don't matter, since bytes have one reading.
pub any_chunking : (at : ℕ) (new : Feed) (events : List Event) → ComesTo (record { at = at; held = [] }) events new → begins_frame new.held ≡ false →
    Reads (came events) (given events) new.held × (new.at ≡ offset_after at (given events))
any_chunking at new events comes none =
    let c = conserves (record { at = at; held = [] }) new events comes in (record { whole = c.whole; each = c.each; ended = none }, c.place)
