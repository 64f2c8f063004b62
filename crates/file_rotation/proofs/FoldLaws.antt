-- Frames as commands, and the states to which they fold.
use Rattle.std.proofs.Common.{◌≡◌, ◌⊎◌, ◌↔◌, ℕ, ◌+◌, ◌-◌, ◌^◌, ◌≤◌, min, Bool, true, false, IsTrue, Contains, List, [], ◌∷◌, ◌++◌, length, drop, refl, sym, ap, ◌∙◌, inl, inr, arith}
use Rattle.std.proofs.lemmas.List.{length-append}
use Rattle.std.proofs.lemmas.List.Elements.{Contains-append_left, Contains-push, Contains-push_cases}
use Rattle.machine_law.specs.Kind.{Kind, fold}
use Rattle.snss_frames.specs.Frame.{Frame, BeginsWith, begins_frame, marker}
use Rattle.snss_frames.specs.Feed.{Feed}
use Rattle.snss_frames.specs.Reading.{Reads, ending_at}
use Rattle.snss_frames.specs.declared.ending.Ending.{Ending}
use Rattle.snss_frames.specs.declared.header.Version.{Version}
use Rattle.snss_frames.specs.declared.header.Version.TheVariants.{One, Three}
use Rattle.snss_frames.proofs.ReadingLaws.{one_reading}
use Rattle.file_reading.specs.Heads.{head_of}
use Rattle.file_reading.specs.FrameReading.{EndsWith}
use Rattle.file_reading.specs.declared.head.FileHead.TheVariants.{Known}
use Rattle.file_rotation.specs.Recovery.{IsFile, AreCommands, FoldsTo}
use Rattle.file_rotation.specs.Choice.{IsLawfulAs}
use Rattle.file_rotation.specs.Replay.{Replays, ReplaysLawful, counts_as}
use Rattle.file_rotation.proofs.FileLaws.{known_head}
use Rattle.file_rotation.proofs.WalkLaws.{Passed, passed_more, passed_all}

-- the marker is among frames, or is the next one
marked_more : (frames : List Frame) (f : Frame) (is_marked any : Bool) → (IsTrue is_marked ↔ Contains frames marker) → (IsTrue any ↔ (IsTrue is_marked ⊎ (f ≡ marker))) → (IsTrue any ↔ Contains (frames ++ f ∷ []) marker)
marked_more frames f is_marked any before either = (
  (λ h. elim (either.0 h) [
    | inl earlier ↦ Contains-append_left frames (f ∷ []) marker (before.0 earlier)
    | inr here ↦ rw (sym here) (Contains-push frames f)
  ]),
  λ h. elim (Contains-push_cases frames f marker h) [ inl earlier ↦ either.1 (inl (before.1 earlier)) | inr here ↦ either.1 (inr here) ],
)

lawful_where : (bytes : List ℕ) (version : Version) (frames : List Frame) (is_marked : Bool) → IsFile bytes version frames → (IsTrue is_marked ↔ Contains frames marker) → counts_as version is_marked ≡ true → IsLawfulAs bytes version
lawful_where bytes One frames is_marked file marked counts = record { frames = frames; lawful = record { version = One; file = file; marked = tt }; said = refl }
lawful_where bytes Three frames is_marked file marked counts = record { frames = frames; lawful = record { version = Three; file = file; marked = marked.0 counts }; said = refl }

module _ {S C : Type 0} (kind : Kind S C) where
  -- commands in a row fold one after another
  pub fold-append : (state : S) (cs ds : List C) → fold kind state (cs ++ ds) ≡ fold kind (fold kind state cs) ds
  fold-append state [] ds = refl
  fold-append state (c ∷ cs) ds = fold-append (kind.step state c) cs ds

  pub AreCommands-append : (fs gs : List Frame) (cs ds : List C) → AreCommands kind fs cs → AreCommands kind gs ds → AreCommands kind (fs ++ gs) (cs ++ ds)
  AreCommands-append [] gs [] ds h k = k
  AreCommands-append [] gs (c ∷ cs) ds h k = absurd h
  AreCommands-append (f ∷ fs) gs [] ds h k = absurd h
  AreCommands-append (f ∷ fs) gs (c ∷ cs) ds h k = (h.0, AreCommands-append fs gs cs ds h.1 k)

  -- one command further
  pub folds_more : (frames : List Frame) (state next : S) (f : Frame) (command : C) → FoldsTo kind frames state → kind.Payload f.id command f.payload → next ≡ kind.step state command → FoldsTo kind (frames ++ f ∷ []) next
  folds_more frames state next f command folds payload e = (
    folds.0 ++ command ∷ [],
    AreCommands-append frames (f ∷ []) folds.0 (command ∷ []) folds.1 (payload, tt),
    e ∙ ap (λ (s : S). kind.step s command) folds.2 ∙ sym (fold-append kind.start folds.0 (command ∷ [])),
  )

  -- so far the frames of a file were folded
  pub record FoldedTo (bytes : List ℕ) (at : ℕ) (state : S) (commands : ℕ) (is_marked : Bool) : Type 0 where
    pub frames : List Frame
    pub passed : Passed bytes at frames
    pub folds : FoldsTo kind frames state
    pub counted : commands ≡ min (length frames) (2 ^ 64 - 1)
    pub marked : IsTrue is_marked ↔ Contains frames marker

  pub folded_more : (bytes : List ℕ) (at next : ℕ) (state after : S) (commands count : ℕ) (is_marked any : Bool) (f : Frame) (command : C) → FoldedTo bytes at state commands is_marked → BeginsWith (drop at bytes) f → next ≡ at + (3 + length f.payload) →
      kind.Payload f.id command f.payload → after ≡ kind.step state command → count ≡ min (commands + 1) (2 ^ 64 - 1) →
      (IsTrue any ↔ (IsTrue is_marked ⊎ (f ≡ marker))) → FoldedTo bytes next after count any
  folded_more bytes at next state after commands count is_marked any f command folded begins e payload steps counts either = record {
    frames = folded.frames ++ f ∷ [];
    passed = passed_more bytes at next folded.frames f folded.passed begins e;
    folds = folds_more folded.frames state after f command folded.folds payload steps;
    counted = omega (arith, counts, folded.counted, length-append folded.frames (f ∷ []));
    marked = marked_more folded.frames f is_marked any folded.marked either;
  }

  -- before the first frame
  pub folded_first : (bytes : List ℕ) (at : ℕ) (state : S) → 8 ≤ length bytes → at ≡ 8 → state ≡ kind.start → FoldedTo bytes at state 0 false
  folded_first bytes at state long first start = record {
    frames = [];
    passed = rw first (record { whole = refl; each = tt; place = refl; within = long });
    folds = ([], tt, start);
    counted = refl;
    marked = ((λ h. let never = h in cc), λ h. absurd (omega (arith, h.1)));
  }

  -- behind the last one
  pub replayed_all : (bytes : List ℕ) (at : ℕ) (feed : Feed) (state : S) (commands : ℕ) (is_marked : Bool) (ending : Ending) → FoldedTo bytes at state commands is_marked → feed.at ≡ at → EndsWith bytes feed →
      ending ≡ ending_at feed.at feed.held → Replays kind bytes state commands ending
  replayed_all bytes at feed state commands is_marked ending folded same ends is = record {
    frames = folded.frames;
    rest = drop feed.at bytes;
    read = passed_all bytes feed.at folded.frames (rw same folded.passed) ends.none;
    folds = folded.folds;
    counted = folded.counted;
    ends = is ∙ ends.ending ∙ ap (λ (n : ℕ). ending_at n (drop feed.at bytes)) (same ∙ folded.passed.place);
  }

  pub marked_all : (bytes : List ℕ) (at : ℕ) (state : S) (commands : ℕ) (is_marked : Bool) → FoldedTo bytes at state commands is_marked → begins_frame (drop at bytes) ≡ false →
      (frames : List Frame) (rest : List ℕ) → Reads (drop 8 bytes) frames rest → (IsTrue is_marked ↔ Contains frames marker)
  marked_all bytes at state commands is_marked folded none frames rest reads =
      let same = one_reading (drop 8 bytes) frames folded.frames rest (drop at bytes) reads (passed_all bytes at folded.frames folded.passed none) in
      rw same.0 folded.marked

  -- a file with a header that is read, once its frames were folded
  pub replayed_lawful : (bytes : List ℕ) (version : Version) (state : S) (commands : ℕ) (ending : Ending) (is_marked : Bool) → head_of bytes ≡ Known version → Replays kind bytes state commands ending →
      ((frames : List Frame) (rest : List ℕ) → Reads (drop 8 bytes) frames rest → (IsTrue is_marked ↔ Contains frames marker)) → counts_as version is_marked ≡ true → ReplaysLawful kind bytes version state commands ending
  replayed_lawful bytes version state commands ending is_marked known replays marked counts =
      let head = known_head bytes version known in
      let file : IsFile bytes version replays.frames = record { head = head.0; said = head.1; rest = replays.rest; read = replays.read } in
      record { lawful = lawful_where bytes version replays.frames is_marked file (marked replays.frames replays.rest replays.read) counts; replays = replays }
