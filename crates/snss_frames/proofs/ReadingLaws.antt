-- Bytes have one reading, written frames read back, and cut anywhere they read back up to the cut.
use Rattle.std.proofs.Common.{◌≡◌, ℕ, ◌+◌, ◌-◌, zero, suc, ◌<◌, ◌≤◌, false, List, [], ◌∷◌, ◌++◌, length, take, get_or, refl, sym, ap, ◌∙◌, inl, inr, arith}
use Rattle.std.proofs.lemmas.Bool.{cases_lt, cases_Bool, both_ways}
use Rattle.std.proofs.lemmas.List.{append-nil, append_assoc, length-append, take_all, get_or-append-add}
use Rattle.std.proofs.Math.Seq.{take-append-add}
use Rattle.std.specs.List.{AllByRecursion, flat_map}
use Rattle.snss_frames.specs.Frame.{Frame, IsFrame, frame_bytes, begins_frame}
use Rattle.snss_frames.specs.Reading.{Reads}
use Rattle.snss_frames.proofs.FrameLaws.{length-frame, begins_frame-frame, begins_none_short, begins_none-cut, one_frame, front, first_of}

-- a reading goes on behind a frame in front
pub reading_behind : (f : Frame) (more : List ℕ) (fs : List Frame) (rest : List ℕ) → IsFrame f → Reads more fs rest → Reads (frame_bytes f ++ more) (f ∷ fs) rest
reading_behind f more fs rest h reads = record {
  whole = ap (λ (x : List ℕ). frame_bytes f ++ x) reads.whole ∙ sym (append_assoc (frame_bytes f) (flat_map frame_bytes fs) rest);
  each = (h, reads.each);
  ended = reads.ended;
}

-- bytes that begin no frame are read as the rest
pub reading_none : (rest : List ℕ) → begins_frame rest ≡ false → Reads rest [] rest
reading_none rest none = record { whole = refl; each = tt; ended = none }

none_first : (g : Frame) (gs : List Frame) (r s : List ℕ) → IsFrame g → begins_frame r ≡ false → r ≡ (frame_bytes g ++ flat_map frame_bytes gs) ++ s → ⊥
none_first g gs r s h none same =
    let split = append_assoc (frame_bytes g) (flat_map frame_bytes gs) s in
    both_ways (begins_frame r) none (ap begins_frame (same ∙ split) ∙ begins_frame-frame g (flat_map frame_bytes gs ++ s) h)

-- bytes have one reading
pub one_reading : (bytes : List ℕ) (fs gs : List Frame) (r s : List ℕ) → Reads bytes fs r → Reads bytes gs s → (fs ≡ gs) × (r ≡ s)
one_reading bytes [] [] r s left right = (refl, sym left.whole ∙ right.whole)
one_reading bytes [] (g ∷ gs) r s left right = absurd (none_first g gs r s right.each.0 left.ended (sym left.whole ∙ right.whole))
one_reading bytes (f ∷ fs) [] r s left right = absurd (none_first f fs s r left.each.0 right.ended (sym right.whole ∙ left.whole))
one_reading bytes (f ∷ fs) (g ∷ gs) r s left right =
    let first = one_frame f g (flat_map frame_bytes fs ++ r) (flat_map frame_bytes gs ++ s) left.each.0 right.each.0
    (sym (append_assoc (frame_bytes f) (flat_map frame_bytes fs) r) ∙ sym left.whole ∙ right.whole ∙ append_assoc (frame_bytes g) (flat_map frame_bytes gs) s) in
    let later = one_reading (flat_map frame_bytes fs ++ r) fs gs r s
    (record { whole = refl; each = left.each.1; ended = left.ended }) (record { whole = first.1; each = right.each.1; ended = right.ended }) in
    (cc, later.1)

-- written frames read back
pub reading_written : (fs : List Frame) → AllByRecursion IsFrame fs → Reads (flat_map frame_bytes fs) fs []
reading_written fs each = record { whole = sym (append-nil (flat_map frame_bytes fs)); each = each; ended = begins_none_short [] (omega arith) }

-- The reading of the first n bytes of written frames: a count of the frames in front, which covers all frames
-- that end within the n bytes.
pub record CutReading (fs : List Frame) (n : ℕ) : Type 0 where
  pub count : ℕ
  pub rest : List ℕ
  pub within : count ≤ length fs
  pub reads : Reads (take n (flat_map frame_bytes fs)) (take count fs) rest
  pub covers : (k : ℕ) → k ≤ length fs → length (flat_map frame_bytes (take k fs)) ≤ n → k ≤ count

covers_none : (f : Frame) (fs : List Frame) (n k : ℕ) → n < length (frame_bytes f) → length (flat_map frame_bytes (take k (f ∷ fs))) ≤ n → k ≤ 0
covers_none f fs n zero few there = omega arith
covers_none f fs n (suc k) few there =
    let long = length-append (frame_bytes f) (flat_map frame_bytes (take k fs)) in absurd (omega arith)

covers_first : (f : Frame) (fs : List Frame) (m count k : ℕ) → ((j : ℕ) → j ≤ length fs → length (flat_map frame_bytes (take j fs)) ≤ m → j ≤ count) →
    k ≤ length (f ∷ fs) → length (flat_map frame_bytes (take k (f ∷ fs))) ≤ length (frame_bytes f) + m → k ≤ suc count
covers_first f fs m count zero later small there = omega arith
covers_first f fs m count (suc k) later small there =
    let long = length-append (frame_bytes f) (flat_map frame_bytes (take k fs)) in
    let rest : k ≤ count = later k (omega arith) (omega arith) in omega arith

cut_first : (f : Frame) (fs : List Frame) (n : ℕ) → IsFrame f → n < length (frame_bytes f) → CutReading (f ∷ fs) n
cut_first f fs n h few = record {
  count = 0;
  rest = take n (frame_bytes f ++ flat_map frame_bytes fs);
  within = omega arith;
  reads = reading_none (take n (frame_bytes f ++ flat_map frame_bytes fs)) (begins_none-cut f (flat_map frame_bytes fs) n h few);
  covers = λ k _ there. covers_none f fs n k few there;
}

cut_behind : (f : Frame) (fs : List Frame) (m : ℕ) → IsFrame f → CutReading fs m → CutReading (f ∷ fs) (length (frame_bytes f) + m)
cut_behind f fs m h later = record {
  count = suc later.count;
  rest = later.rest;
  within = let small = later.within in omega arith;
  reads = rw (take-append-add (frame_bytes f) (flat_map frame_bytes fs) m) (reading_behind f (take m (flat_map frame_bytes fs)) (take later.count fs) later.rest h later.reads);
  covers = λ k small there. covers_first f fs m later.count k later.covers small there;
}

-- written frames, cut anywhere, read back up to the cut
pub reading_cut : (fs : List Frame) (n : ℕ) → AllByRecursion IsFrame fs → CutReading fs n
reading_cut [] n each = record {
  count = 0;
  rest = [];
  within = omega arith;
  reads = rw (take_all {A = ℕ} n [] (omega arith)) (reading_none [] (begins_none_short [] (omega arith)));
  covers = λ k small _. small;
}
reading_cut (f ∷ fs) n each =
    elim (cases_lt n (length (frame_bytes f))) [
      | inl few ↦ cut_first f fs n each.0 few
      | inr there ↦
          let m = n - length (frame_bytes f) in
          let split : length (frame_bytes f) + m ≡ n = omega arith in
          rw split at (cut_behind f fs m each.0 (reading_cut fs m each.1))
    ]

-- where no byte is cut off, all frames read back
pub whole_cut : (fs : List Frame) (n : ℕ) → AllByRecursion IsFrame fs → length (flat_map frame_bytes fs) ≤ n → (c : CutReading fs n) → c.count ≡ length fs
whole_cut fs n each there c =
    let all : take (length fs) fs ≡ fs = take_all (length fs) fs (omega arith) in
    let long : length fs ≤ c.count = c.covers (length fs) (omega arith) (rw all there) in
    let small = c.within in omega arith

range_behind : (front rest bytes : List ℕ) → bytes ≡ front ++ rest → ((k : ℕ) → get_or bytes k 0 < 256) → (k : ℕ) → get_or rest k 0 < 256
range_behind front rest bytes split range k =
    let here : get_or bytes (length front + k) 0 ≡ get_or rest k 0 = ap (λ (x : List ℕ). get_or x (length front + k) 0) split ∙ get_or-append-add front rest k 0 in
    let small = range (length front + k) in omega arith

reading_first : (f : Frame) (more bytes : List ℕ) (fs : List Frame) (rest : List ℕ) → IsFrame f → bytes ≡ frame_bytes f ++ more → Reads more fs rest → Reads bytes (f ∷ fs) rest
reading_first f more bytes fs rest h split reads = rw split (reading_behind f more fs rest h reads)

reading_within : (size : ℕ) (bytes : List ℕ) → length bytes ≤ size → ((k : ℕ) → get_or bytes k 0 < 256) → (fs : List Frame) × (rest : List ℕ) × Reads bytes fs rest
reading_within zero bytes small range = ([], bytes, reading_none bytes (begins_none_short bytes (omega arith)))
reading_within (suc size) bytes small range =
    elim (cases_Bool (begins_frame bytes)) [
      | inl begins ↦
          let f = front bytes in
          let first = first_of bytes range begins in
          let more = first.more in
          let long = length-append (frame_bytes f) more in
          let own = length-frame f.id f.payload in
          let all = ap length first.whole in
          let (fs, rest, reads) = reading_within size more (omega arith) (range_behind (frame_bytes f) more bytes first.whole range) in
          (f ∷ fs, rest, reading_first f more bytes fs rest first.fits first.whole reads)
      | inr none ↦ ([], bytes, reading_none bytes none)
    ]

-- all bytes have a reading
pub has_reading : (bytes : List ℕ) → ((k : ℕ) → get_or bytes k 0 < 256) → (fs : List Frame) × (rest : List ℕ) × Reads bytes fs rest
has_reading bytes range = reading_within (length bytes) bytes (omega arith) range
