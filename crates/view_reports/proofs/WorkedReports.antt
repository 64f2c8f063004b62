-- Reports made by hand.
use Rattle.std.proofs.Common.{◌≡◌, [], codes, None, refl}
use Rattle.serde_json.proofs.OnLiterals.{serde_json_on_literals}
use Rattle.window_state.specs.declared.view_parts.View.{View}
use Rattle.view_reports.specs.RecoveredLines.{recovered_lines}
use Rattle.view_reports.specs.RecoveredValue.{json_line}

abbrev empty_view : View
empty_view = record { windows = []; groups = []; active = None }

no_windows_in_lines : recovered_lines empty_view [] ≡ codes "active none\n"
no_windows_in_lines = refl

no_windows_in_json : json_line empty_view [] ≡ codes "{\"active\":null,\"closed\":[],\"windows\":[]}\n"
unfolding serde_json_on_literals
no_windows_in_json = refl
