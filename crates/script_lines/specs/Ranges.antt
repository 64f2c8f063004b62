-- How large the numbers and texts of a verb are.
use Rattle.std.specs.Prelude.{ℕ, ◌-◌, ◌^◌, ◌≤◌, ℤ, pos, ◌≤ℤ◌, List, length}
use Rattle.script_lines.specs.declared.verb.Verb.{Verb}
use Rattle.script_lines.specs.declared.verb.Verb.TheVariants.{At, Window, Tab, Visit, Back, Forward, Pin, Unpin, Ungroup, CloseTab, Move, Select, SetBounds, Group, Title, Active, CloseWindow, Sync, Compact}

abbrev pub IsWithin : ℕ → ℕ → ℤ → Type 0
IsWithin least greatest z = (pos least ≤ℤ z) × (z ≤ℤ pos greatest)

-- the id of a window or a tab
abbrev pub IsId : ℤ → Type 0
IsId id = IsWithin 1 (2 ^ 31 - 1) id

abbrev pub IsPlace : ℤ → Type 0
IsPlace place = IsWithin 0 (2 ^ 31 - 1) place

abbrev pub IsMoment : ℤ → Type 0
IsMoment moment = IsWithin 0 (2 ^ 63 - 1) moment

-- a text fits a line
abbrev pub IsShort : List ℕ → Type 0
IsShort text = length text ≤ 8192

-- a verb as a line can say it
abbrev pub IsVerb : Verb → Type 0
IsVerb (At moment) = IsMoment moment
IsVerb (Window window) = IsId window
IsVerb (Tab window tab) = IsId window × IsId tab
IsVerb (Visit tab url state title) = IsId tab × IsShort url × (state ≤ 1000000) × IsShort title
IsVerb (Back tab) = IsId tab
IsVerb (Forward tab) = IsId tab
IsVerb (Pin tab) = IsId tab
IsVerb (Unpin tab) = IsId tab
IsVerb (Ungroup tab) = IsId tab
IsVerb (CloseTab tab) = IsId tab
IsVerb (Move tab window place) = IsId tab × IsId window × IsPlace place
IsVerb (Select window place) = IsId window × IsPlace place
IsVerb (SetBounds window bounds) = IsId window
IsVerb (Group tab high low colour title) = IsId tab × IsShort title
IsVerb (Title tab title) = IsId tab × IsShort title
IsVerb (Active window) = IsId window
IsVerb (CloseWindow window) = IsId window
IsVerb Sync = Unit {0}
IsVerb Compact = Unit {0}
