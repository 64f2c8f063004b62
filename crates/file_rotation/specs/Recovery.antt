-- What files read to: the newest lawful one, its frames as commands, their state. A file is lawful where its version is
-- 1, or its version is 3 and the marker is among its whole frames (this profile's rule).
use Rattle.std.specs.Prelude.{◌≡◌, ◌⊎◌, ℕ, ◌<◌, ◌≤◌, List, [], ◌∷◌, length, take, drop, Some, Ok, Contains}
use Rattle.machine_law.specs.Kind.{Kind, fold}
use Rattle.snss_frames.specs.Header.{header_of}
use Rattle.snss_frames.specs.Frame.{Frame, marker}
use Rattle.snss_frames.specs.Reading.{Reads}
use Rattle.snss_frames.specs.declared.header.Version.{Version}
use Rattle.snss_frames.specs.declared.header.Version.TheVariants.{One, Three}
use Rattle.session_disk.specs.Images.{Image}

-- the bytes are a header of this version, these frames, and a rest that begins none
pub record IsFile (bytes : List ℕ) (version : Version) (frames : List Frame) : Type 0 where
  pub head : 8 ≤ length bytes
  pub said : header_of (take 8 bytes) ≡ Ok version
  pub rest : List ℕ
  pub read : Reads (drop 8 bytes) frames rest

abbrev pub IsMarked : Version → List Frame → Type 0
IsMarked One frames = Unit {0}
IsMarked Three frames = Contains frames marker

pub record IsLawful (bytes : List ℕ) (frames : List Frame) : Type 0 where
  pub version : Version
  pub file : IsFile bytes version frames
  pub marked : IsMarked version frames

-- the lawful file with the greatest stamp, and its frames
pub record IsChosen (image : Image) (stamp : ℕ) (frames : List Frame) : Type 0 where
  pub bytes : List ℕ
  pub stands : image stamp ≡ Some bytes
  pub lawful : IsLawful bytes frames
  pub newest : (s : ℕ) (other : List ℕ) (others : List Frame) → stamp < s → image s ≡ Some other → IsLawful other others → ⊥

abbrev pub NoneLawful : Image → Type 0
NoneLawful image = (stamp : ℕ) (bytes : List ℕ) (frames : List Frame) → image stamp ≡ Some bytes → IsLawful bytes frames → ⊥

module _ {S C : Type 0} (kind : Kind S C) where
  -- the frames are these commands, by their payloads
  abbrev pub AreCommands : List Frame → List C → Type 0
  AreCommands [] [] = Unit {0}
  AreCommands (frame ∷ frames) (command ∷ commands) = kind.Payload frame.id command frame.payload × AreCommands frames commands
  AreCommands frames commands = ⊥

  -- the state is that after all commands of these frames, from the start
  abbrev pub FoldsTo : List Frame → S → Type 0
  FoldsTo frames state = (commands : List C) × AreCommands frames commands × (state ≡ fold kind kind.start commands)

  abbrev pub IsFromChosen : Image → S → Type 0
  IsFromChosen image state = (stamp : ℕ) × (frames : List Frame) × IsChosen image stamp frames × FoldsTo frames state

  -- the state to which the files read; without a lawful one it is the start
  abbrev pub Recovers : Image → S → Type 0
  Recovers image state = IsFromChosen image state ⊎ (NoneLawful image × (state ≡ kind.start))

  -- The files read to the state after some prefix of the commands, and at least the told ones are in it.
  pub record IsGood (first : S) (commands : List C) (told : ℕ) (image : Image) : Type 0 where
    pub count : ℕ
    pub holds_told : told ≤ count
    pub within : count ≤ length commands
    pub recovers : Recovers image (fold kind first (take count commands))
