-- The answers of an inspection, their exit codes, and the lines of those that print one.
use Rattle.std.specs.Prelude.{ℕ, List, ◌++◌, codes}
use Rattle.std.specs.Fmt.{decimal}
use Rattle.inspect_words.specs.declared.status.InspectStatus.{InspectStatus}
use Rattle.inspect_words.specs.declared.status.InspectStatus.TheVariants.{Done, Usage, NoStamp, Disk, Write, Memory}

-- the process's exit code
abbrev pub code : InspectStatus → ℕ
code Done = 0
code Usage = 2
code (NoStamp stamp) = 3
code (Disk family) = 4
code Write = 6
code Memory = 8

abbrev pub usage_line : List ℕ
usage_line = codes "usage\n"

abbrev pub no_stamp_line : ℕ → List ℕ
no_stamp_line stamp = codes "no-stamp " ++ (decimal stamp ++ codes "\n")
