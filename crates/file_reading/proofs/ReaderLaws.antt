-- What a reader holds of a file, a piece further, and where the frames of the file end.
use Rattle.std.proofs.Common.{◌≡◌, ℕ, ◌+◌, ◌-◌, ◌≤◌, min, not, false, List, ◌++◌, length, take, drop, Option, None, Some, is_some, IfSome, IsNone, MatchOption, refl, sym, ap, ◌∙◌, append_assoc, arith}
use Rattle.std.proofs.lemmas.Bool.Decides.{nat_tests}
use Rattle.std.proofs.lemmas.List.{drop-drop, drop-take, length-append, length-drop, length-take, take-append-le, take-append-drop, take-take, take_all, take_at}
use Rattle.std.proofs.Math.Seq.{take-add}
use Rattle.snss_frames.specs.Frame.{Frame, IsFrame, BeginsWith, begins_frame, frame_bytes, size_of}
use Rattle.snss_frames.specs.declared.frame.FrameRef.{FrameRef}
use Rattle.snss_frames.specs.Feed.{Feed, IsLeft, fed, past, begins_empty, is_partial}
use Rattle.snss_frames.specs.Reading.{ending_at}
use Rattle.snss_frames.specs.declared.ending.Ending.TheVariants.{EmptyCommand}
use Rattle.snss_frames.proofs.FrameLaws.{size_of-take, begins_none_empty, length-frame}
use Rattle.session_disk.specs.Moments.{IsReadAt}
use Rattle.file_reading.specs.FrameReading.{IsHeldOf, EndsWith, HasMoved}

-- bytes that are taken from the front are those of their number
own_length : (n : ℕ) (bytes : List ℕ) → take n bytes ≡ take (length (take n bytes)) bytes
own_length n bytes =
    sym (take_at (take n bytes) (drop n bytes) (length (take n bytes)) refl) ∙ ap (take (length (take n bytes))) (take-append-drop n bytes)

behind_held : (file piece : List ℕ) (feed : Feed) (n : ℕ) → IsHeldOf file feed → piece ≡ take n (drop (feed.at + length feed.held) file) → feed.held ++ piece ≡ take (length feed.held + length piece) (drop feed.at file)
behind_held file piece feed n held is =
    let h = length feed.held in
    let ahead = drop (feed.at + h) file in
    let own : piece ≡ take (length piece) ahead = is ∙ own_length n ahead ∙ ap (λ (x : List ℕ). take (length x) ahead) (sym is) in
    ap (λ (x : List ℕ). x ++ piece) held ∙ ap (λ (x : List ℕ). take h (drop feed.at file) ++ x) (own ∙ ap (take (length piece)) (sym (drop-drop h feed.at file)))
    ∙ sym (take-add h (length piece) (drop feed.at file))

-- Of a piece that was read into a buffer behind what is held, the feed takes some.
pub held_more : (file into behind : List ℕ) (old new : Feed) (taken count room : ℕ) → IsHeldOf file old → taken ≡ min (length (take count (into ++ behind))) room → count ≤ length into →
    IsReadAt file (old.at + length old.held) count into → new ≡ fed old (take taken (take count (into ++ behind))) → IsHeldOf file new
held_more file into behind old new taken count room held least small read is =
    let few : taken ≤ count = omega (arith, least, length-take count (into ++ behind)) in
    let p = take taken (take count (into ++ behind)) in
    let ahead = drop (old.at + length old.held) file in
    let same : p ≡ take taken ahead = ap (take taken) (take-append-le count into behind small ∙ read.bytes) ∙ take-take taken count ahead few in
    rw is (behind_held file p old taken held same ∙ ap (λ (n : ℕ). take n (drop old.at file)) (sym (length-append old.held p)))

-- all of the file behind the feed's place is held
pub ends_all : (file : List ℕ) (feed : Feed) → IsHeldOf file feed → feed.at + length feed.held ≡ length file → begins_frame feed.held ≡ false → EndsWith file feed
ends_all file feed held all none =
    let same : feed.held ≡ drop feed.at file = held ∙ take_all (length feed.held) (drop feed.at file) (omega (arith, length-drop feed.at file)) in
    record { none = ap begins_frame (sym same) ∙ none; ending = ap (ending_at feed.at) same }

empty_found : (bytes : List ℕ) → not (begins_empty bytes) ≡ false → (2 ≤ length bytes) × (size_of bytes ≡ 0)
empty_found bytes found = grind (arith, nat_tests)

empty_tells : (bytes : List ℕ) → begins_frame bytes ≡ false → is_partial bytes ≡ false → (2 ≤ length bytes) × (size_of bytes ≡ 0)
empty_tells bytes none full = empty_found bytes (rw none at full)

ending_empty : (at : ℕ) (bytes : List ℕ) → 2 ≤ length bytes → size_of bytes ≡ 0 → ending_at at bytes ≡ EmptyCommand at
ending_empty at bytes two zero = grind (arith, nat_tests)

-- a size of 0 ends the reading, whatever follows
pub ends_empty : (file : List ℕ) (feed : Feed) → IsHeldOf file feed → begins_frame feed.held ≡ false → is_partial feed.held ≡ false → EndsWith file feed
ends_empty file feed held none full =
    let t = empty_tells feed.held none full in
    let ahead = drop feed.at file in
    let size : size_of ahead ≡ 0 = sym (size_of-take (length feed.held) ahead t.0) ∙ ap size_of (sym held) ∙ t.1 in
    let two : 2 ≤ length ahead = omega (arith, t.0, ap length held, length-take (length feed.held) ahead) in
    record {
      none = begins_none_empty ahead size;
      ending = ending_empty feed.at feed.held t.0 t.1 ∙ sym (ending_empty feed.at ahead two size);
    }

-- the frame that a call found at the front of bytes
abbrev pub IsFront : List ℕ → Option FrameRef → Type 0
IsFront bytes found = IfSome found (λ f. BeginsWith bytes (record { id = f.id; payload = f.payload.now }))

pub front_fits : (bytes : List ℕ) (found : Option FrameRef) → IsFront bytes found → IfSome found (λ f. IsFrame (record { id = f.id; payload = f.payload.now }))
front_fits bytes None front = tt
front_fits bytes (Some f) front = front.fits

front_length : (bytes : List ℕ) (f : Frame) → BeginsWith bytes f → 3 + length f.payload ≤ length bytes
front_length bytes f b = omega (arith, ap length b.whole, length-append (frame_bytes f) b.more, length-frame f.id f.payload)

-- what is held after a frame left it ends where it ended
pub left_within : (old new : Feed) (found : Option FrameRef) (end : ℕ) → IsFront old.held found → IsLeft old found new → old.at + length old.held ≤ end → new.at + length new.held ≤ end
left_within old new None end front left within = rw left within
left_within old new (Some f) end front left within =
    rw left (omega (arith, within, front_length old.held (record { id = f.id; payload = f.payload.now }) front, length-drop (3 + length f.payload.now) old.held))

held_behind : (file : List ℕ) (feed : Feed) (n : ℕ) → n ≤ length feed.held → IsHeldOf file feed → IsHeldOf file (past n feed)
held_behind file feed n few held =
    let h = length feed.held in
    let split : n + (h - n) ≡ h = omega (arith, few) in
    let behind : drop n feed.held ≡ take (h - n) (drop (feed.at + n) file) =
    ap (drop n) held ∙ ap (λ (m : ℕ). drop n (take m (drop feed.at file))) (sym split) ∙ drop-take n (h - n) (drop feed.at file) ∙ ap (take (h - n)) (drop-drop n feed.at file) in
    behind ∙ ap (λ (m : ℕ). take m (drop (feed.at + n) file)) (sym (length-drop n feed.held))

-- and it stands in the file
pub left_held : (file : List ℕ) (old new : Feed) (found : Option FrameRef) → IsFront old.held found → IsLeft old found new → IsHeldOf file old → IsHeldOf file new
left_held file old new None front left held = rw left held
left_held file old new (Some f) front left held =
    rw left (held_behind file old (3 + length f.payload.now) (front_length old.held (record { id = f.id; payload = f.payload.now }) front) held)

-- where it begins
pub left_at : (at : ℕ) (old new : Feed) (found : Option FrameRef) → old.at ≡ at → is_some found ≡ begins_frame old.held → IsLeft old found new → HasMoved at found new
left_at at old new None same exactly left = (ap (λ (x : Feed). x.at) left ∙ same, ap (λ (x : Feed). begins_frame x.held) left ∙ sym exactly)
left_at at old new (Some f) same exactly left = ap (λ (x : Feed). x.at) left ∙ ap (λ (n : ℕ). n + (3 + length f.payload.now)) same

-- where none left it the file's frames have ended
pub left_ends : (file : List ℕ) (old new : Feed) (found : Option FrameRef) → is_some found ≡ begins_frame old.held → IsLeft old found new →
    (begins_frame old.held ≡ false → EndsWith file old) → IsNone found → EndsWith file new
left_ends file old new None exactly left ends none = rw left (ends (sym exactly))
left_ends file old new (Some f) exactly left ends none = absurd (let h = none in cc)

begins_fed : (held more : List ℕ) (f : Frame) → BeginsWith held f → BeginsWith (held ++ more) f
begins_fed held more f b = record {
  fits = b.fits;
  more = b.more ++ more;
  whole = ap (λ (x : List ℕ). x ++ more) b.whole ∙ append_assoc (frame_bytes f) b.more more;
}

-- what stands at the front of what is held stands in the file there
pub front_of_file : (file : List ℕ) (at : ℕ) (old : Feed) (found : Option FrameRef) → old.at ≡ at → IsHeldOf file old → IsFront old.held found → is_some found ≡ begins_frame old.held →
    (begins_frame old.held ≡ false → EndsWith file old) → MatchOption found (begins_frame (drop at file) ≡ false) (λ f. BeginsWith (drop at file) (record { id = f.id; payload = f.payload.now }))
front_of_file file at old None same held front exactly ends = rw same at (ends (sym exactly)).none
front_of_file file at old (Some f) same held front exactly ends =
    let ahead = drop old.at file in
    let split : old.held ++ drop (length old.held) ahead ≡ ahead = ap (λ (x : List ℕ). x ++ drop (length old.held) ahead) held ∙ take-append-drop (length old.held) ahead in
    rw same at (rw split at (begins_fed old.held (drop (length old.held) ahead) _ front))
