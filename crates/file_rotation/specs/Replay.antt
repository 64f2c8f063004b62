-- The frames of a file, folded from the start and counted, and how the file ends.
use Rattle.std.specs.Prelude.{◌≡◌, ℕ, ◌-◌, ◌^◌, min, Bool, true, List, length, drop, Option, None, Some}
use Rattle.machine_law.specs.Kind.{Kind}
use Rattle.snss_frames.specs.Frame.{Frame}
use Rattle.snss_frames.specs.Reading.{Reads, offset_after, ending_at}
use Rattle.snss_frames.specs.declared.ending.Ending.{Ending}
use Rattle.snss_frames.specs.declared.header.Version.{Version}
use Rattle.snss_frames.specs.declared.header.Version.TheVariants.{One, Three}
use Rattle.session_disk.specs.Images.{Image}
use Rattle.file_rotation.specs.declared.choice.Chosen.{Chosen}
use Rattle.file_rotation.specs.Choice.{IsLawfulAs, IsNewestLawful}
use Rattle.file_rotation.specs.Recovery.{IsChosen, NoneLawful, FoldsTo}

-- how many frames the chosen file has, as far as 64 bits count, and how it ends
pub record HasFrames (image : Image) (count : ℕ) (ending : Ending) : Type 0 where
  pub stamp : ℕ
  pub frames : List Frame
  pub chosen : IsChosen image stamp frames
  pub counted : count ≡ min (length frames) (2 ^ 64 - 1)
  pub ends : ending ≡ ending_at (offset_after 8 frames) chosen.lawful.file.rest

abbrev pub CountsFrames : Image → ℕ → Option Ending → Type 0
CountsFrames image count None = NoneLawful image × (count ≡ 0)
CountsFrames image count (Some ending) = HasFrames image count ending

-- what the bytes behind a header come to
pub record Replays {S C : Type 0} (kind : Kind S C) (bytes : List ℕ) (state : S) (commands : ℕ) (ending : Ending) : Type 0 where
  pub frames : List Frame
  pub rest : List ℕ
  pub read : Reads (drop 8 bytes) frames rest
  pub folds : FoldsTo kind frames state
  pub counted : commands ≡ min (length frames) (2 ^ 64 - 1)
  pub ends : ending ≡ ending_at (offset_after 8 frames) rest

-- whether a file of this version is lawful, with the marker or without it
abbrev pub counts_as : Version → Bool → Bool
counts_as One is_marked = true
counts_as Three is_marked = is_marked

-- a lawful file of this version, and what it comes to
pub record ReplaysLawful {S C : Type 0} (kind : Kind S C) (bytes : List ℕ) (version : Version) (state : S) (commands : ℕ) (ending : Ending) : Type 0 where
  pub lawful : IsLawfulAs bytes version
  pub replays : Replays kind bytes state commands ending

-- the chosen file, and what it comes to
pub record ReplaysChosen {S C : Type 0} (kind : Kind S C) (image : Image) (chosen : Chosen) (state : S) (commands : ℕ) (ending : Ending) : Type 0 where
  pub bytes : List ℕ
  pub newest : IsNewestLawful image chosen.stamp bytes
  pub file : ReplaysLawful kind bytes chosen.version state commands ending
