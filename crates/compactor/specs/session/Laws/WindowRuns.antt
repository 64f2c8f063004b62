-- The commands of a window make it behind the windows that stand.
use Rattle.std.proofs.Common.{◌≡◌, ℕ, ◌<◌, nat_le, ℤ, pos, Bool, true, false, List, [], ◌∷◌, ◌++◌, length, Option, Some, None, refl, ap, ◌∙◌, arith}
use Rattle.std.specs.declared.cmp.Ordering.TheVariants.{Equal}
use Rattle.std.specs.Ordering.{int_cmp}
use Rattle.std.proofs.lemmas.Bool.{le-leb}
use Rattle.std.proofs.lemmas.List.{length-append}
use Rattle.navigation_entry.specs.declared.bounds.Bounds.{Bounds}
use Rattle.session_commands.specs.declared.command.SessionCommand.TheVariants.{WindowApp, Workspace, UserTitle, WindowExtra, SelectTab, WindowKind, WindowBounds, AllWorkspaces}
use Rattle.window_state.specs.declared.window.Window.{Window}
use Rattle.window_state.specs.Limits.{limit}
use Rattle.window_state.specs.Keys.{window_key}
use Rattle.window_state.specs.Fits.{HasDistinctKeys}
use Rattle.window_state.specs.Changes.{new_window, set_pair}
use Rattle.window_state.specs.States.{State, start, on_window}
use Rattle.window_state.proofs.StateLaws.{itself}
use Rattle.compaction_runs.specs.Runs.{Leads}
use Rattle.compaction_runs.proofs.RunLaws.{followed, leads-one, leads-given, leads-flagged, leads-unusual, leads-map}
use Rattle.compactor.specs.session.Compaction.{window_commands}
use Rattle.compactor.specs.session.SessionKind.{session_kind}
use Rattle.compactor.specs.session.Laws.AppendedRows.{IsBehind, step-behind, step-last, set-pair-behind}

-- one more row is within the limit
pub within-push : {R : Type 0} (done : List R) (row : R) → length done < limit → nat_le (length (done ++ row ∷ [])) limit ≡ true
within-push done row room = le-leb (length (done ++ row ∷ [])) limit (omega (arith, length-append done (row ∷ [])))

abbrev pub with_windows : List Window → State
with_windows windows = record start { windows = windows }

module _ (done : List Window) (id : ℤ) (behind : IsBehind int_cmp window_key id done) (room : length done < limit) where
  made : (change : Window → Window) → on_window id change (with_windows done) ≡ with_windows (done ++ change (new_window id) ∷ [])
  made change = rw (step-behind int_cmp window_key id (new_window id) change done behind, within-push done (change (new_window id)) room) refl

  changed : (change : Window → Window) (w : Window) → window_key w ≡ id → on_window id change (with_windows (done ++ w ∷ [])) ≡ with_windows (done ++ change w ∷ [])
  changed change w own =
      let same : int_cmp id (window_key w) ≡ Equal = rw own (itself id) in
      rw (step-last int_cmp window_key id (new_window id) change done w behind same, within-push done (change w) room) refl

abbrev window_of : ℤ → ℤ → ℤ → Option Bounds → Option (List ℕ) → Option (List ℕ) → Bool → Option (List ℕ) → List (List ℕ × List ℕ) → Window
window_of id selected kind bounds app workspace all title extra =
    record { info = record { id = id; kind = kind; bounds = bounds; app = app; workspace = workspace; all_workspaces = all; title = title; extra = extra }; selected = selected }

pub leads-window : (done : List Window) (w : Window) → IsBehind int_cmp window_key w.info.id done → length done < limit → HasDistinctKeys w.info.extra
    → Leads session_kind (with_windows done) (window_commands w) (with_windows (done ++ w ∷ []))
leads-window done w behind room distinct =
    let id = w.info.id in
    let i = w.info in
    let state : Window → State = λ x. with_windows (done ++ x ∷ []) in
    let so_far = window_of id w.selected in
    let change = changed done id behind room in
    followed (followed (followed (followed (followed (followed (followed
    (leads-one session_kind (with_windows done) (state (so_far (pos 0) None None None false None [])) (SelectTab id w.selected)
    (made done id behind room (λ x. record x { selected = w.selected })))
    (leads-unusual session_kind (pos 0) (λ kind. WindowKind id kind) (λ kind. state (so_far kind None None None false None [])) i.kind
    (change (λ x. record x { info = record x.info { kind = i.kind } }) (so_far (pos 0) None None None false None []) refl)))
    (leads-given session_kind (λ bounds. WindowBounds id bounds) (λ bounds. state (so_far i.kind bounds None None false None [])) i.bounds
    (λ bounds _. change (λ x. record x { info = record x.info { bounds = Some bounds } }) (so_far i.kind None None None false None []) refl)))
    (leads-given session_kind (λ text. WindowApp id text []) (λ app. state (so_far i.kind i.bounds app None false None [])) i.app
    (λ text _. change (λ x. record x { info = record x.info { app = Some text } }) (so_far i.kind i.bounds None None false None []) refl)))
    (leads-given session_kind (λ text. Workspace id text []) (λ workspace. state (so_far i.kind i.bounds i.app workspace false None [])) i.workspace
    (λ text _. change (λ x. record x { info = record x.info { workspace = Some text } }) (so_far i.kind i.bounds i.app None false None []) refl)))
    (leads-flagged session_kind (AllWorkspaces id true) (λ all. state (so_far i.kind i.bounds i.app i.workspace all None [])) i.all_workspaces
    (change (λ x. record x { info = record x.info { all_workspaces = true } }) (so_far i.kind i.bounds i.app i.workspace false None []) refl)))
    (leads-given session_kind (λ text. UserTitle id text []) (λ title. state (so_far i.kind i.bounds i.app i.workspace i.all_workspaces title [])) i.title
    (λ text _. change (λ x. record x { info = record x.info { title = Some text } }) (so_far i.kind i.bounds i.app i.workspace i.all_workspaces None []) refl)))
    (leads-map session_kind (λ extra. state (so_far i.kind i.bounds i.app i.workspace i.all_workspaces i.title extra)) i.extra (λ pair. WindowExtra id pair.0 pair.1 [])
    (λ before rest pair whole. change (λ x. record x { info = record x.info { extra = set_pair pair.0 pair.1 x.info.extra } }) (so_far i.kind i.bounds i.app i.workspace i.all_workspaces i.title before) refl
    ∙ ap (λ extra. state (so_far i.kind i.bounds i.app i.workspace i.all_workspaces i.title extra)) (set-pair-behind i.extra before rest pair distinct whole)))
