-- The words of the command line: `list`, `recover` or `json` and a folder, or `show` or `check`, a family, a stamp and a
-- folder.
use Rattle.std.specs.Prelude.{ℕ, ◌^◌, Bool, false, not, ◌==◌, nat_lt, List, [], ◌∷◌, Option, None, Some, option_and_then, option_map, if◌then◌else◌, codes}
use Rattle.std.specs.Str.{bytes_eq}
use Rattle.decimals.specs.Decimal.{number_of}
use Rattle.session_disk.specs.declared.family.Family.{Family}
use Rattle.session_disk.specs.declared.family.Family.TheVariants.{Session, Tabs}
use Rattle.inspect_words.specs.declared.order.FileReport.{FileReport}
use Rattle.inspect_words.specs.declared.order.FileReport.TheVariants.{Check, Show}
use Rattle.inspect_words.specs.declared.order.StateReport.TheVariants.{Lines, Json}
use Rattle.inspect_words.specs.declared.order.Order.{Order}
use Rattle.inspect_words.specs.declared.order.Order.TheVariants as order

-- a folder isn't empty and doesn't begin with `-`
abbrev pub is_folder : List ℕ → Bool
is_folder [] = false
is_folder (c ∷ cs) = not (c == 45)

-- the report that a word names, on all files or on what they read to
abbrev pub whole_named : List ℕ → Option Order
whole_named word =
    if bytes_eq word (codes "list") then Some order.List
    else (if bytes_eq word (codes "recover") then Some (order.OfState Lines)
    else (if bytes_eq word (codes "json") then Some (order.OfState Json) else None))

-- the report that a word names, on one file
abbrev pub report_named : List ℕ → Option FileReport
report_named word =
    if bytes_eq word (codes "check") then Some Check
    else (if bytes_eq word (codes "show") then Some Show else None)

abbrev pub family_named : List ℕ → Option Family
family_named word =
    if bytes_eq word (codes "session") then Some Session
    else (if bytes_eq word (codes "tabs") then Some Tabs else None)

-- a stamp is a plain decimal below 2 ^ 63
abbrev pub stamp_in : List ℕ → Option ℕ
stamp_in word = option_and_then (λ stamp. if nat_lt stamp (2 ^ 63) then Some stamp else None) (number_of word)

abbrev pub of_file : List ℕ → List ℕ → List ℕ → Option Order
of_file report family stamp =
    option_and_then (λ r. option_and_then (λ f. option_map (λ n. order.OfFile r f n) (stamp_in stamp)) (family_named family))
    (report_named report)

-- what the words ask for, None exactly where they aren't in the grammar
abbrev pub order_of : List (List ℕ) → Option Order
order_of (report ∷ folder ∷ []) = if is_folder folder then whole_named report else None
order_of (report ∷ family ∷ stamp ∷ folder ∷ []) = if is_folder folder then of_file report family stamp else None
order_of words = None
