-- The answers of a run, and the lines that it prints.
use Rattle.std.specs.Prelude.{◌≡◌, ℕ, ◌≤◌, List, [], ◌++◌, length, take, codes}
use Rattle.std.specs.Fmt.{decimal, signed_decimal}
use Rattle.session_disk.specs.declared.family.Family.{Family}
use Rattle.session_disk.specs.declared.family.Family.TheVariants.{Session, Tabs}
use Rattle.script_lines.specs.Faults.{fault_word}
use Rattle.browser_driver.specs.declared.fault.VerbFault.{VerbFault}
use Rattle.browser_driver.specs.declared.fault.VerbFault.TheVariants.{NoWindow, NoTab, Taken, NoBack, NoForward, NoPage, Place, Full}
use Rattle.run_words.specs.declared.status.Status.{Status}
use Rattle.run_words.specs.declared.status.Status.TheVariants.{Done, Usage, Refused, LastStamp, Disk, Read, Write, TooLong, Memory}
use Rattle.run_words.specs.declared.status.Long.{Long}
use Rattle.run_words.specs.declared.status.Long.TheVariants.{Script, File}
use Rattle.run_words.specs.declared.why.Why.{Why}
use Rattle.run_words.specs.declared.why.Why.TheVariants.{Line, Verb}
use Rattle.run_words.specs.declared.lines.Counts.{Counts}

-- the process's exit code
abbrev pub code : Status → ℕ
code (Done session tabs) = 0
code Usage = 2
code (Refused line why) = 3
code (Disk family) = 4
code Read = 5
code Write = 6
code (TooLong what needed) = 7
code Memory = 8
code (LastStamp family stamp) = 9

abbrev pub family_name : Family → List ℕ
family_name Session = codes "session"
family_name Tabs = codes "tabs"

abbrev pub long_name : Long → List ℕ
long_name Script = codes "script"
long_name (File family) = family_name family

-- a refused verb is named, with the number that it is about
abbrev pub verb_word : VerbFault → List ℕ
verb_word (NoWindow window) = codes "no-window " ++ signed_decimal window
verb_word (NoTab tab) = codes "no-tab " ++ signed_decimal tab
verb_word (Taken id) = codes "taken " ++ signed_decimal id
verb_word (NoBack tab) = codes "no-back " ++ signed_decimal tab
verb_word (NoForward tab) = codes "no-forward " ++ signed_decimal tab
verb_word (NoPage tab) = codes "no-page " ++ signed_decimal tab
verb_word (Place place) = codes "place " ++ signed_decimal place
verb_word (Full id) = codes "full " ++ signed_decimal id

abbrev pub why_word : Why → List ℕ
why_word (Line fault) = fault_word fault
why_word (Verb fault) = verb_word fault

-- the line of a start: how many windows, tabs and closed entries
abbrev pub start_line : Counts → List ℕ
start_line counts =
    codes "start " ++ (decimal counts.windows ++ (codes " " ++ (decimal counts.tabs ++ (codes " "
    ++ (decimal counts.entries ++ codes "\n")))))

-- the line of a sync: how many commands of each family
abbrev pub sync_line : ℕ → ℕ → List ℕ
sync_line session tabs = codes "sync " ++ (decimal session ++ (codes " " ++ (decimal tabs ++ codes "\n")))

-- the last line; after a failed write there is none
abbrev pub last_line : Status → List ℕ
last_line (Done session tabs) = codes "done " ++ (decimal session ++ (codes " " ++ (decimal tabs ++ codes "\n")))
last_line Usage = codes "usage\n"
last_line (Refused line why) =
    codes "refused " ++ (decimal line ++ (codes " " ++ (why_word why ++ codes "\n")))
last_line (Disk family) = codes "fault disk " ++ (family_name family ++ codes "\n")
last_line Read = codes "fault read\n"
last_line Write = []
last_line (TooLong what needed) =
    codes "fault too-long " ++ (long_name what ++ (codes " " ++ (decimal needed ++ codes "\n")))
last_line Memory = codes "fault memory\n"
last_line (LastStamp family stamp) =
    codes "fault last-stamp " ++ (family_name family ++ (codes " " ++ (decimal stamp ++ codes "\n")))

-- the answer where the last line of this one couldn't be written
abbrev pub unsaid : Status → Status
unsaid (Done session tabs) = Write
unsaid Usage = Write
unsaid (Refused line why) = Write
unsaid status = status

-- some prefix of what is to be said
abbrev pub IsPrefix : List ℕ → List ℕ → Type 0
IsPrefix said all = (n : ℕ) × (n ≤ length all) × (said ≡ take n all)
