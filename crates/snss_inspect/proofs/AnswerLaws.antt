-- From what a report added to what is answered, and what that comes of.
use Rattle.std.proofs.Common.{◌≡◌, ℕ, List, [], ◌++◌, Option, None, Result, Err, IfErr, refl, sym, ap, ◌∙◌, subst, inl, inr}
use Rattle.std.proofs.lemmas.Result.{IfErr-weaker}
use Rattle.session_disk.specs.declared.family.Family.{Family}
use Rattle.session_disk.specs.declared.family.Family.TheVariants.{Session, Tabs}
use Rattle.session_disk.specs.Causes.{Rose}
use Rattle.session_disk.specs.declared.failure.Failed.{Failed}
use Rattle.session_disk.specs.Writing.{WritesAll}
use Rattle.file_rotation.specs.declared.choice.Chosen.{Chosen}
use Rattle.file_rotation.specs.Choice.{IsChoice}
use Rattle.file_rotation.specs.Recovery.{Recovers}
use Rattle.window_state.specs.declared.view_parts.View.{View}
use Rattle.window_state.specs.States.{State}
use Rattle.window_state.specs.Views.{view}
use Rattle.closed_entries.specs.declared.entry.Entry.{Entry}
use Rattle.closed_entries.specs.States.{State as ClosedState}
use Rattle.closed_entries.specs.Shown.{shown}
use Rattle.compactor.specs.session.SessionKind.{session_kind}
use Rattle.tabs_compactor.specs.TabsKind.{tabs_kind}
use Rattle.inspect_words.specs.declared.order.StateReport.{StateReport}
use Rattle.report_lines.specs.Reports.{IsUnderway, WroteAll, WrotePrefix}
use Rattle.report_lines.proofs.ReportLaws.{begun, stopped, ended, none_waits, adds_more, adds_stopped, adds_first}
use Rattle.report_lines.proofs.WritingLaws.{reported}
use Rattle.inspect_words.specs.declared.status.InspectStatus.{InspectStatus}
use Rattle.inspect_words.specs.declared.status.InspectStatus.TheVariants.{Done, Usage, NoStamp, Disk, Write, Memory}
use Rattle.inspect_words.specs.Outcome.{usage_line}
use Rattle.snss_inspect.specs.Listings.{ListedFile, AreListed, file_lines}
use Rattle.snss_inspect.specs.Verdicts.{Verdict, Images, IsListVerdict, IsStateVerdict, state_text, usage}
use Rattle.snss_inspect.specs.Answers.{Answers, Ends, StopsBy, failed}

-- all of the text was written
told : (before now : Option (List ℕ)) (v : Verdict) (status : InspectStatus) → status ≡ v.status → WroteAll before now v.text → Answers before now v status
told before now v Done is all = record { answer = is; text = all }
told before now v Usage is all = record { answer = is; text = all }
told before now v (NoStamp stamp) is all = record { answer = is; text = all }
told before now v (Disk family) is all = ([], none_waits before now v.text all)
told before now v Write is all = ([], none_waits before now v.text all)
told before now v Memory is all = ([], none_waits before now v.text all)

-- a report was stopped
pub stopped_answers : (disk_failed : Family → Type 0) (sink_failed : Type 0) (before now : Option (List ℕ)) (v : Verdict) (status : InspectStatus) → StopsBy disk_failed sink_failed status → WrotePrefix before now v.text → Answers before now v status
stopped_answers disk_failed sink_failed before now v Done stops cut = absurd stops
stopped_answers disk_failed sink_failed before now v Usage stops cut = absurd stops
stopped_answers disk_failed sink_failed before now v (NoStamp stamp) stops cut = absurd stops
stopped_answers disk_failed sink_failed before now v (Disk family) stops cut = cut
stopped_answers disk_failed sink_failed before now v Write stops cut = cut
stopped_answers disk_failed sink_failed before now v Memory stops cut = cut

-- the rest of it was sent, or a prefix of the rest
pub ended_answers : (before now later : Option (List ℕ)) (sink_failed : Type 0) (waiting : List ℕ) (v : Verdict) (status answer : InspectStatus) → status ≡ v.status → IsUnderway before now waiting v.text → Ends now later sink_failed waiting status answer → Answers before later v answer
ended_answers before now later sink_failed waiting v status answer is underway (inl (same, all)) =
    told before later v answer (same ∙ is) (ended before now later waiting v.text underway all)
ended_answers before now later sink_failed waiting v status answer is underway (inr (same, rose, cut)) =
    subst (λ (a : InspectStatus). Answers before later v a) (sym same) (stopped before now later waiting v.text underway cut)

-- what words that aren't in the grammar are answered
pub refused_answers : (before now : Option (List ℕ)) (sink_failed : Type 0) (v : Verdict) (answer : InspectStatus) → v ≡ usage → Ends before now sink_failed usage_line Usage answer → Answers before now v answer
refused_answers before now sink_failed v answer is ends =
    rw is (ended_answers before before now sink_failed usage_line usage Usage answer refl (begun before usage_line) ends)

-- a prefix of some bytes was written
pub written_prefix : (before now : Option (List ℕ)) (bytes : List ℕ) (failed : Failed) → WritesAll {T = Unit {0}} before now bytes (Err failed) → WrotePrefix before now bytes
written_prefix before now bytes failed h = reported {T = Unit {0}} before now bytes (Err failed) h

module _ {D : Type 0} (count : D → ℕ) (sink_failed : Type 0) where
  pub of_session : (session tabs session_after : D) (result : Result InspectStatus InspectStatus) → IfErr result (StopsBy (λ f. (f ≡ Session) × Rose (count session) (count session_after)) sink_failed) →
      IfErr result (StopsBy (failed count session tabs session_after tabs) sink_failed)
  of_session session tabs session_after result h = IfErr-weaker result _ _ weaker h
    where
      weaker : (status : InspectStatus) → StopsBy (λ f. (f ≡ Session) × Rose (count session) (count session_after)) sink_failed status → StopsBy (failed count session tabs session_after tabs) sink_failed status
      weaker Done stops = stops
      weaker Usage stops = stops
      weaker (NoStamp stamp) stops = stops
      weaker (Disk family) stops = rw stops.0 stops.1
      weaker Write stops = stops
      weaker Memory stops = stops

  pub of_tabs : (session tabs tabs_after : D) (result : Result InspectStatus InspectStatus) → IfErr result (StopsBy (λ f. (f ≡ Tabs) × Rose (count tabs) (count tabs_after)) sink_failed) →
      IfErr result (StopsBy (failed count session tabs session tabs_after) sink_failed)
  of_tabs session tabs tabs_after result h = IfErr-weaker result _ _ weaker h
    where
      weaker : (status : InspectStatus) → StopsBy (λ f. (f ≡ Tabs) × Rose (count tabs) (count tabs_after)) sink_failed status → StopsBy (failed count session tabs session tabs_after) sink_failed status
      weaker Done stops = stops
      weaker Usage stops = stops
      weaker (NoStamp stamp) stops = stops
      weaker (Disk family) stops = rw stops.0 stops.1
      weaker Write stops = stops
      weaker Memory stops = stops

-- A listing of both families, the session's first.
module _ (images : Images) (v : Verdict) (before now : Option (List ℕ)) (old mid : List ℕ) (is : IsListVerdict images v) where
  abbrev pub IsText : Family → (List ℕ → Type 0) → Type 0
  IsText family P = (files : List ListedFile) (chosen : Option Chosen) → AreListed (images family) None files → IsChoice (images family) chosen → P (file_lines family chosen files)

  pub list_first : IsText Session (λ text. WrotePrefix before now (old ++ text)) → WrotePrefix before now (old ++ v.text)
  list_first cut =
      let s = is.2 in let t = is.3 in
      let here = cut s.files s.chosen s.listed s.choice in
      rw (ap (λ (w : Verdict). w.text) is.4) (adds_first before now old is.0 is.1 (rw (sym s.says) at here))

  pub list_stopped : (later : Option (List ℕ)) → IsText Session (λ text. IsUnderway before now mid (old ++ text)) → IsText Tabs (λ text. WrotePrefix now later (mid ++ text)) → WrotePrefix before later (old ++ v.text)
  list_stopped later made cut =
      let s = is.2 in let t = is.3 in
      let first = made s.files s.chosen s.listed s.choice in
      let second = cut t.files t.chosen t.listed t.choice in
      rw (ap (λ (w : Verdict). w.text) is.4) (adds_stopped before now later old mid is.0 is.1 (rw (sym s.says) at first) (rw (sym t.says) at second))

  pub list_all : (later : Option (List ℕ)) (new : List ℕ) → IsText Session (λ text. IsUnderway before now mid (old ++ text)) → IsText Tabs (λ text. IsUnderway now later new (mid ++ text)) → IsUnderway before later new (old ++ v.text)
  list_all later new made more =
      let s = is.2 in let t = is.3 in
      let first = made s.files s.chosen s.listed s.choice in
      let second = more t.files t.chosen t.listed t.choice in
      rw (ap (λ (w : Verdict). w.text) is.4) (adds_more before now later old mid new is.0 is.1 (rw (sym s.says) at first) (rw (sym t.says) at second))

-- What the files of both families read to, by a view and entries that are those of any states to which they read.
pub state_text_is : (report : StateReport) (images : Images) (v : Verdict) (shown_view : View) (entries : List Entry) → IsStateVerdict report images v →
    ((state : State) → Recovers session_kind (images Session) state → shown_view ≡ view state) → ((state : ClosedState) → Recovers tabs_kind (images Tabs) state → entries ≡ shown state) →
    v.text ≡ state_text report shown_view entries
state_text_is report images v shown_view entries is viewed listed =
    ap (λ (w : Verdict). w.text) is.4 ∙ sym (rw (viewed is.0 is.2, listed is.1 is.3) refl)
