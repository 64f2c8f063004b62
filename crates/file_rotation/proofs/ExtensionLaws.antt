-- A lawful file with frames appended, also where a crash cut them anywhere: it stays lawful, and reads to the state after
-- some prefix of the appended commands.
use Rattle.std.proofs.Common.{◌≡◌, ℕ, ◌<◌, ◌≤◌, zero, suc, List, [], ◌∷◌, ◌++◌, length, take, drop, Some, refl, sym, ap, ◌∙◌, append_assoc, inl, arith}
use Rattle.std.proofs.lemmas.List.{length-append, take-append-le, drop-append-le}
use Rattle.std.proofs.lemmas.List.Elements.{Contains-append_left}
use Rattle.std.specs.List.{AllByRecursion, flat_map}
use Rattle.machine_law.specs.Kind.{Kind, fold}
use Rattle.snss_frames.specs.Header.{header_of}
use Rattle.snss_frames.specs.Frame.{Frame, IsFrame, frame_bytes, marker}
use Rattle.snss_frames.specs.Reading.{Reads}
use Rattle.snss_frames.specs.declared.header.Version.{Version}
use Rattle.snss_frames.specs.declared.header.Version.TheVariants.{One, Three}
use Rattle.snss_frames.proofs.ReadingLaws.{reading_cut, reading_written}
use Rattle.session_disk.specs.Images.{Image}
use Rattle.file_rotation.specs.Recovery.{IsMarked, IsLawful, IsChosen, AreCommands, FoldsTo, Recovers}
use Rattle.file_rotation.proofs.ChoiceLaws.{chosen_replaced}
use Rattle.file_rotation.proofs.WalkLaws.{flat_map-append, All-append}
use Rattle.file_rotation.proofs.FoldLaws.{fold-append, AreCommands-append}

-- a lawful file in which nothing follows the frames
pub record IsWholeLawful (bytes : List ℕ) (frames : List Frame) : Type 0 where
  pub lawful : IsLawful bytes frames
  pub whole : drop 8 bytes ≡ flat_map frame_bytes frames

-- The file with the first n bytes of more frames behind it: a count of these frames, which covers all that end within
-- the n bytes.
pub record Extended (bytes : List ℕ) (frames more : List Frame) (n : ℕ) : Type 0 where
  pub count : ℕ
  pub within : count ≤ length more
  pub covers : (k : ℕ) → k ≤ length more → length (flat_map frame_bytes (take k more)) ≤ n → k ≤ count
  pub lawful : IsLawful (bytes ++ take n (flat_map frame_bytes more)) (frames ++ take count more)

reads_append : (prefix later : List Frame) (more rest : List ℕ) → AllByRecursion IsFrame prefix → Reads more later rest → Reads (flat_map frame_bytes prefix ++ more) (prefix ++ later) rest
reads_append prefix later more rest each reads = record {
  whole = ap (λ (x : List ℕ). flat_map frame_bytes prefix ++ x) reads.whole
      ∙ sym (append_assoc (flat_map frame_bytes prefix) (flat_map frame_bytes later) rest)
      ∙ ap (λ (x : List ℕ). x ++ rest) (sym (flat_map-append prefix later));
  each = All-append IsFrame prefix later each reads.each;
  ended = reads.ended;
}

still_marked : (version : Version) (frames more : List Frame) → IsMarked version frames → IsMarked version (frames ++ more)
still_marked One frames more h = tt
still_marked Three frames more h = Contains-append_left frames more marker h

-- what stands behind a whole lawful file is read behind its frames
pub lawful_append : (bytes : List ℕ) (frames later : List Frame) (tail rest : List ℕ) → IsWholeLawful bytes frames → Reads tail later rest → IsLawful (bytes ++ tail) (frames ++ later)
lawful_append bytes frames later tail rest file reads =
    let head = file.lawful.file.head in
    let body : drop 8 (bytes ++ tail) ≡ flat_map frame_bytes frames ++ tail = drop-append-le 8 bytes tail head ∙ ap (λ (x : List ℕ). x ++ tail) file.whole in
    record {
      version = file.lawful.version;
      file = record {
        head = omega (arith, length-append bytes tail);
        said = ap header_of (take-append-le 8 bytes tail head) ∙ file.lawful.file.said;
        rest = rest;
        read = rw body (reads_append frames later tail rest file.lawful.file.read.each reads);
      };
      marked = still_marked file.lawful.version frames later file.lawful.marked;
    }

pub extended : (bytes : List ℕ) (frames more : List Frame) (n : ℕ) → IsWholeLawful bytes frames → AllByRecursion IsFrame more → Extended bytes frames more n
extended bytes frames more n file each =
    let cut = reading_cut more n each in
    record {
      count = cut.count;
      within = cut.within;
      covers = cut.covers;
      lawful = lawful_append bytes frames (take cut.count more) (take n (flat_map frame_bytes more)) cut.rest file cut.reads;
    }

-- with all of them it is whole again
pub extended_whole : (bytes : List ℕ) (frames more : List Frame) → IsWholeLawful bytes frames → AllByRecursion IsFrame more → IsWholeLawful (bytes ++ flat_map frame_bytes more) (frames ++ more)
extended_whole bytes frames more file each = record {
  lawful = lawful_append bytes frames more (flat_map frame_bytes more) [] file (reading_written more each);
  whole = drop-append-le 8 bytes (flat_map frame_bytes more) file.lawful.file.head ∙ ap (λ (x : List ℕ). x ++ flat_map frame_bytes more) file.whole
      ∙ sym (flat_map-append frames more);
}

module _ {S C : Type 0} (kind : Kind S C) where
  -- some prefix of frames is that prefix of their commands
  pub AreCommands-take : (frames : List Frame) (commands : List C) (n : ℕ) → AreCommands kind frames commands → AreCommands kind (take n frames) (take n commands)
  AreCommands-take frames commands zero h = tt
  AreCommands-take [] [] (suc n) h = tt
  AreCommands-take [] (c ∷ commands) (suc n) h = absurd h
  AreCommands-take (f ∷ frames) [] (suc n) h = absurd h
  AreCommands-take (f ∷ frames) (c ∷ commands) (suc n) h = (h.0, AreCommands-take frames commands n h.1)

  -- the frames of a file, and then a prefix of others, fold to the state after that prefix of their commands
  pub folds_extended : (frames more : List Frame) (state : S) (commands : List C) (n : ℕ) → FoldsTo kind frames state → AreCommands kind more commands → FoldsTo kind (frames ++ take n more) (fold kind state (take n commands))
  folds_extended frames more state commands n folds are = (
    folds.0 ++ take n commands,
    AreCommands-append kind frames (take n more) folds.0 (take n commands) folds.1 (AreCommands-take more commands n are),
    ap (λ (s : S). fold kind s (take n commands)) folds.2 ∙ sym (fold-append kind kind.start folds.0 (take n commands)),
  )

  -- what a file with appended frames reads to, as far as a crash left them
  pub record ReadsExtended (other : Image) (more : List Frame) (state : S) (commands : List C) (n : ℕ) : Type 0 where
    pub count : ℕ
    pub within : count ≤ length commands
    pub covers : (k : ℕ) → k ≤ length more → length (flat_map frame_bytes (take k more)) ≤ n → k ≤ count
    pub recovers : Recovers kind other (fold kind state (take count commands))

  length-commands : (frames : List Frame) (commands : List C) → AreCommands kind frames commands → length frames ≡ length commands
  length-commands [] [] h = refl
  length-commands [] (c ∷ commands) h = absurd h
  length-commands (f ∷ frames) [] h = absurd h
  length-commands (f ∷ frames) (c ∷ commands) h = ap suc (length-commands frames commands h.1)

  pub reads_extended : (image other : Image) (stamp : ℕ) (bytes : List ℕ) (frames more : List Frame) (state : S) (commands : List C) (n : ℕ) → IsChosen image stamp frames → IsWholeLawful bytes frames → AllByRecursion IsFrame more →
      FoldsTo kind frames state → AreCommands kind more commands → ((s : ℕ) → stamp < s → other s ≡ image s) → other stamp ≡ Some (bytes ++ take n (flat_map frame_bytes more)) → ReadsExtended other more state commands n
  reads_extended image other stamp bytes frames more state commands n chosen whole each folds are later here =
      let longer = extended bytes frames more n whole each in
      let gs = frames ++ take longer.count more in
      record {
        count = longer.count;
        within = omega (arith, longer.within, length-commands more commands are);
        covers = longer.covers;
        recovers = inl (stamp, gs, chosen_replaced image other stamp frames gs _ later here longer.lawful chosen, folds_extended frames more state commands longer.count folds are);
      }
