-- The verbs of a script: the word of each, its fields in their order, and the verb that they say.
use Rattle.std.specs.Prelude.{ℕ, ℤ, Bool, true, false, List, [], ◌∷◌, ◌++◌, Option, Some, None, if◌then◌else◌, codes}
use Rattle.std.specs.Str.{bytes_eq}
use Rattle.script_lines.specs.declared.verb.Verb.{Verb}
use Rattle.script_lines.specs.declared.verb.Verb.TheVariants.{At, Window, Tab, Visit, Back, Forward, Pin, Unpin, Ungroup, CloseTab, Move, Select, SetBounds, Group, Title, Active, CloseWindow, Sync, Compact}

-- What a field has to be.
pub data Field : Type 0 where
  Moment : Field  -- a number from 0 to 2 ^ 63 - 1
  Id : Field  -- of a window or a tab, from 1 to 2 ^ 31 - 1
  Place : Field  -- from 0 to 2 ^ 31 - 1
  Signed : Field  -- a signed number of 32 bits
  Half : Field  -- of a group's id: a number of 64 bits
  Colour : Field  -- a number of 32 bits
  Address : Field  -- any bytes
  StateLength : Field  -- from 0 to 1,000,000; 0 where the line ends before it
  Text : Field  -- all that is left of the line
  MaybeText : Field  -- the same; empty where the line ends before it

-- it may be missing at the end of a line
abbrev pub may_be_missing : Field → Bool
may_be_missing StateLength = true
may_be_missing MaybeText = true
may_be_missing field = false

-- it takes what is left of the line, with its spaces
abbrev pub is_text : Field → Bool
is_text Text = true
is_text MaybeText = true
is_text field = false

-- the value that a field says
abbrev pub Value : Field → Type 0
Value Moment = ℤ
Value Id = ℤ
Value Place = ℤ
Value Signed = ℤ
Value Half = ℕ
Value Colour = ℕ
Value Address = List ℕ
Value StateLength = ℕ
Value Text = List ℕ
Value MaybeText = List ℕ

-- a verb that still wants the values of these fields
abbrev pub Maker : List Field → Type 0
Maker [] = Verb
Maker (field ∷ fields) = Value field → Maker fields

-- the fields behind a verb's word, and the verb with their values
pub record Form : Type 0 where
  pub fields : List Field
  pub verb : Maker fields

abbrev pub form : (fields : List Field) → Maker fields → Form
form fields verb = record { fields = fields; verb = verb }

abbrev pub set_bounds : (window x y width height show : ℤ) → Verb
set_bounds window x y width height show =
    SetBounds window (record { x = x; y = y; width = width; height = height; show = show })

-- the verbs that name a tab
abbrev pub tab_verbs : List (List ℕ × Form)
tab_verbs =
    (codes "tab", form (Id ∷ Id ∷ []) Tab)
    ∷ (codes "visit", form (Id ∷ Address ∷ StateLength ∷ MaybeText ∷ []) Visit)
    ∷ (codes "back", form (Id ∷ []) Back)
    ∷ (codes "forward", form (Id ∷ []) Forward)
    ∷ (codes "pin", form (Id ∷ []) Pin)
    ∷ (codes "unpin", form (Id ∷ []) Unpin)
    ∷ (codes "ungroup", form (Id ∷ []) Ungroup)
    ∷ (codes "close-tab", form (Id ∷ []) CloseTab)
    ∷ (codes "move", form (Id ∷ Id ∷ Place ∷ []) Move)
    ∷ (codes "group", form (Id ∷ Half ∷ Half ∷ Colour ∷ MaybeText ∷ []) Group)
    ∷ (codes "title", form (Id ∷ Text ∷ []) Title)
    ∷ []

-- the others
abbrev pub other_verbs : List (List ℕ × Form)
other_verbs =
    (codes "window", form (Id ∷ []) Window)
    ∷ (codes "select", form (Id ∷ Place ∷ []) Select)
    ∷ (codes "bounds", form (Id ∷ Signed ∷ Signed ∷ Signed ∷ Signed ∷ Signed ∷ []) set_bounds)
    ∷ (codes "active", form (Id ∷ []) Active)
    ∷ (codes "close-window", form (Id ∷ []) CloseWindow)
    ∷ (codes "at", form (Moment ∷ []) At)
    ∷ (codes "sync", form [] Sync)
    ∷ (codes "compact", form [] Compact)
    ∷ []

abbrev pub table : List (List ℕ × Form)
table = tab_verbs ++ other_verbs

-- the form under a word
abbrev pub form_under : List ℕ → List (List ℕ × Form) → Option Form
form_under word [] = None
form_under word (row ∷ rows) = if bytes_eq word row.0 then Some row.1 else form_under word rows
