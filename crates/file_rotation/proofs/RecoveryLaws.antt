-- The newest lawful file, replayed, is what the files read to.
use Rattle.std.proofs.Common.{◌≡◌, ℕ, ◌-◌, ◌^◌, min, List, length, drop, Some, refl, ap, ◌∙◌, inl}
use Rattle.machine_law.specs.Kind.{Kind}
use Rattle.snss_frames.specs.Frame.{Frame}
use Rattle.snss_frames.specs.Reading.{offset_after, ending_at}
use Rattle.snss_frames.specs.declared.ending.Ending.{Ending}
use Rattle.snss_frames.specs.declared.header.Version.{Version}
use Rattle.snss_frames.proofs.ReadingLaws.{one_reading}
use Rattle.session_disk.specs.Moments.{Moment, bytes_at}
use Rattle.session_disk.specs.Images.{Image, as_it_reads}
use Rattle.file_rotation.specs.Recovery.{IsChosen, Recovers}
use Rattle.file_rotation.specs.Choice.{IsLawfulAs, IsNewestLawful}
use Rattle.file_rotation.specs.Replay.{HasFrames, Replays, ReplaysLawful, ReplaysChosen}
use Rattle.file_rotation.specs.declared.choice.Chosen.{Chosen}
use Rattle.file_rotation.proofs.SearchLaws.{Searched, searched_found}

-- the newest lawful file as the chosen one
pub chosen_of : (image : Image) (stamp : ℕ) (bytes : List ℕ) (version : Version) → IsNewestLawful image stamp bytes → (l : IsLawfulAs bytes version) → IsChosen image stamp l.frames
chosen_of image stamp bytes version newest lawful = record { bytes = bytes; stands = newest.stands; lawful = lawful.lawful; newest = newest.newest }

module _ {S C : Type 0} (kind : Kind S C) (image : Image) (stamp : ℕ) (bytes : List ℕ) (version : Version) (state : S) (commands : ℕ) (ending : Ending) where
  pub recovers_from : IsNewestLawful image stamp bytes → IsLawfulAs bytes version → Replays kind bytes state commands ending → Recovers kind image state
  recovers_from newest lawful replays =
      let same = one_reading (drop 8 bytes) replays.frames lawful.frames replays.rest lawful.lawful.file.rest replays.read lawful.lawful.file.read in
      inl (stamp, lawful.frames, chosen_of image stamp bytes version newest lawful, rw same.0 at replays.folds)

  pub counts_from : IsNewestLawful image stamp bytes → IsLawfulAs bytes version → Replays kind bytes state commands ending → HasFrames image commands ending
  unfolding chosen_of
  counts_from newest lawful replays =
      let same = one_reading (drop 8 bytes) replays.frames lawful.frames replays.rest lawful.lawful.file.rest replays.read lawful.lawful.file.read in
      record {
        stamp = stamp;
        frames = lawful.frames;
        chosen = chosen_of image stamp bytes version newest lawful;
        counted = replays.counted ∙ ap (λ (fs : List Frame). min (length fs) (2 ^ 64 - 1)) same.0;
        ends = replays.ends ∙ ap (λ (fs : List Frame). ending_at (offset_after 8 fs) replays.rest) same.0
            ∙ ap (ending_at (offset_after 8 lawful.frames)) same.1;
      }

module _ {S C : Type 0} (kind : Kind S C) where
  -- the file that a search has come to, replayed
  pub replayed_chosen : (m : Moment) (stamp : ℕ) (chosen : Chosen) (state : S) (commands : ℕ) (ending : Ending) → Searched m (Some stamp) → chosen.stamp ≡ stamp → ReplaysLawful kind (bytes_at stamp m) chosen.version state commands ending →
      ReplaysChosen kind (as_it_reads m) chosen state commands ending
  replayed_chosen m stamp chosen state commands ending searched same file = record {
    bytes = bytes_at stamp m;
    newest = rw same (searched_found m stamp (bytes_at stamp m) searched refl);
    file = file;
  }

  pub recovers_chosen : (image : Image) (chosen : Chosen) (state : S) (commands : ℕ) (ending : Ending) → ReplaysChosen kind image chosen state commands ending → Recovers kind image state
  recovers_chosen image chosen state commands ending r = recovers_from kind image chosen.stamp r.bytes chosen.version state commands ending r.newest r.file.lawful r.file.replays

  pub counts_chosen : (image : Image) (chosen : Chosen) (state : S) (commands : ℕ) (ending : Ending) → ReplaysChosen kind image chosen state commands ending → HasFrames image commands ending
  counts_chosen image chosen state commands ending r = counts_from kind image chosen.stamp r.bytes chosen.version state commands ending r.newest r.file.lawful r.file.replays
