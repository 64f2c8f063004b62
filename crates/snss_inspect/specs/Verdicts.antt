-- What an inspection comes to in which nothing fails: the answer, and all that is written.
use Rattle.std.specs.Prelude.{◌≡◌, ℕ, Bool, true, false, List, ◌++◌, Option, None, Some, IsSome}
use Rattle.session_disk.specs.declared.family.Family.{Family}
use Rattle.session_disk.specs.declared.family.Family.TheVariants.{Session, Tabs}
use Rattle.session_disk.specs.Histories.{History}
use Rattle.session_disk.specs.Moments.{Moment, bytes_at}
use Rattle.session_disk.specs.Images.{Image, as_it_reads}
use Rattle.file_rotation.specs.Recovery.{Recovers}
use Rattle.window_state.specs.declared.view_parts.View.{View}
use Rattle.window_state.specs.States.{State}
use Rattle.window_state.specs.Views.{view}
use Rattle.closed_entries.specs.declared.entry.Entry.{Entry}
use Rattle.closed_entries.specs.States.{State as ClosedState}
use Rattle.closed_entries.specs.Shown.{shown}
use Rattle.compactor.specs.session.SessionKind.{session_kind}
use Rattle.tabs_compactor.specs.TabsKind.{tabs_kind}
use Rattle.file_reports.specs.FileReading.{FileReading, IsReading}
use Rattle.file_reports.specs.FileTexts.{check_text, show_text}
use Rattle.view_reports.specs.RecoveredLines.{recovered_lines}
use Rattle.view_reports.specs.RecoveredValue.{json_line}
use Rattle.inspect_words.specs.declared.order.FileReport.{FileReport}
use Rattle.inspect_words.specs.declared.order.FileReport.TheVariants.{Check, Show}
use Rattle.inspect_words.specs.declared.order.StateReport.{StateReport}
use Rattle.inspect_words.specs.declared.order.StateReport.TheVariants.{Lines, Json}
use Rattle.inspect_words.specs.declared.order.Order.{Order}
use Rattle.inspect_words.specs.declared.order.Order.TheVariants as order
use Rattle.inspect_words.specs.declared.status.InspectStatus.{InspectStatus}
use Rattle.inspect_words.specs.declared.status.InspectStatus.TheVariants.{Done, Usage, NoStamp}
use Rattle.inspect_words.specs.Outcome.{usage_line, no_stamp_line}
use Rattle.snss_inspect.specs.Listings.{IsListing}

pub record Verdict : Type 0 where
  pub status : InspectStatus
  pub text : List ℕ

-- the files of each family
abbrev pub Images : Type 0
Images = Family → Image

abbrev pub images : {D : Type 0} → (D → History) → D → D → Images
images history session tabs Session = as_it_reads (history session).now
images history session tabs Tabs = as_it_reads (history tabs).now

abbrev pub file_text : FileReport → Family → FileReading → List ℕ
file_text Check family reading = check_text family reading
file_text Show family reading = show_text family reading

abbrev pub state_text : StateReport → View → List Entry → List ℕ
state_text Lines view entries = recovered_lines view entries
state_text Json view entries = json_line view entries

-- the session's files, then those of the tabs
abbrev pub IsListVerdict : Images → Verdict → Type 0
IsListVerdict images v =
    (session : List ℕ) × (tabs : List ℕ) × IsListing Session (images Session) session × IsListing Tabs (images Tabs) tabs
    × (v ≡ record { status = Done; text = session ++ tabs })

-- what the files of both families read to
abbrev pub IsStateVerdict : StateReport → Images → Verdict → Type 0
IsStateVerdict report images v =
    (s : State) × (c : ClosedState) × Recovers session_kind (images Session) s × Recovers tabs_kind (images Tabs) c
    × (v ≡ record { status = Done; text = state_text report (view s) (shown c) })

-- whether a file stands under a stamp, with its bytes
abbrev pub IsThere : Bool → Moment → ℕ → Type 0
IsThere true m stamp = IsSome (m.standing stamp) × (as_it_reads m stamp ≡ Some (bytes_at stamp m))
IsThere false m stamp = as_it_reads m stamp ≡ None

-- the bytes that stand under the stamp
abbrev pub IsFileVerdict : FileReport → Family → ℕ → Option (List ℕ) → Verdict → Type 0
IsFileVerdict report family stamp None v = v ≡ record { status = NoStamp stamp; text = no_stamp_line stamp }
IsFileVerdict report family stamp (Some bytes) v =
    (reading : FileReading) × IsReading bytes reading × (v ≡ record { status = Done; text = file_text report family reading })

abbrev pub usage : Verdict
usage = record { status = Usage; text = usage_line }

abbrev pub IsVerdict : Option Order → Images → Verdict → Type 0
IsVerdict None images v = v ≡ usage
IsVerdict (Some order.List) images v = IsListVerdict images v
IsVerdict (Some (order.OfState report)) images v = IsStateVerdict report images v
IsVerdict (Some (order.OfFile report family stamp)) images v = IsFileVerdict report family stamp (images family stamp) v
