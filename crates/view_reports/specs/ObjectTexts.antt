-- How the texts of objects begin and end, around the list that each of them holds.
use Rattle.std.specs.Prelude.{ℕ, ℤ, Bool, List, ◌++◌, codes, decimal, if◌then◌else◌, Option, None, Some}
use Rattle.std.specs.Fmt.{signed_decimal}

abbrev pub tab_start : ℕ → ℤ → List ℕ
tab_start current id = codes "{\"current\":" ++ (decimal current ++ (codes ",\"id\":" ++ (signed_decimal id ++ codes ",\"pages\":")))

abbrev pub tab_end : Bool → List ℕ
tab_end pinned = if pinned then codes ",\"pinned\":true}" else codes ",\"pinned\":false}"

abbrev pub window_start : ℤ → ℕ → List ℕ
window_start id selected = codes "{\"id\":" ++ (signed_decimal id ++ (codes ",\"selected\":" ++ (decimal selected ++ codes ",\"tabs\":")))

abbrev pub closed_tab_start : ℤ → List ℕ
closed_tab_start id = codes "{\"id\":" ++ (signed_decimal id ++ codes ",\"kind\":\"tab\",\"pages\":")

abbrev pub closed_window_start : ℤ → List ℕ
closed_window_start id = codes "{\"id\":" ++ (signed_decimal id ++ codes ",\"kind\":\"window\",\"tabs\":")

abbrev pub view_start : Option ℤ → List ℕ
view_start None = codes "{\"active\":null,\"closed\":"
view_start (Some window) = codes "{\"active\":" ++ (signed_decimal window ++ codes ",\"closed\":")
