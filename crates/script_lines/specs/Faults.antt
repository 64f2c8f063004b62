-- The faults of lines: how they are printed, and how a call tells them.
use Rattle.std.specs.Prelude.{◌≡◌, ℕ, List, Result, Ok, Err, codes}
use Rattle.script_lines.specs.declared.fault.LineFault.{LineFault}
use Rattle.script_lines.specs.declared.fault.LineFault.TheVariants.{LongLine, Utf8, UnknownVerb, Arguments, Number}
use Rattle.script_lines.specs.declared.fault.LineError.{LineError}
use Rattle.script_lines.specs.declared.fault.LineError.TheVariants.{Fault, Memory}

abbrev pub fault_word : LineFault → List ℕ
fault_word LongLine = codes "long-line"
fault_word Utf8 = codes "utf8"
fault_word UnknownVerb = codes "unknown-verb"
fault_word Arguments = codes "arguments"
fault_word Number = codes "number"

-- what a call answers is what reading says, unless memory ran out
abbrev pub Reads : {A : Type 0} → Result A LineFault → Result A LineError → Type 0
Reads read (Ok said) = read ≡ Ok said
Reads read (Err (Fault fault)) = read ≡ Err fault
Reads read (Err Memory) = Unit {0}
