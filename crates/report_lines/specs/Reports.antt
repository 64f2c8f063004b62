-- The text of a report: what of it went out to a sink that tells its bytes, and what waits.
use Rattle.std.specs.Prelude.{◌≡◌, ℕ, ◌≤◌, List, ◌++◌, Option, Result, MatchResult, IsErrOf}
use Rattle.std.specs.Io.KnownBytes.{append_known}
use Rattle.session_disk.specs.Causes.{Rose}
use Rattle.report_lines.specs.declared.fault.ReportFault.{ReportFault}
use Rattle.report_lines.specs.declared.fault.ReportFault.TheVariants.{Write}

-- since the sink had written `before`, this text was made: a part of it was written, and the rest of it waits
pub record IsUnderway (before now : Option (List ℕ)) (waiting text : List ℕ) : Type 0 where
  pub out : List ℕ
  pub written : now ≡ append_known before out
  pub parts : out ++ waiting ≡ text

-- all of the text was written
abbrev pub WroteAll : Option (List ℕ) → Option (List ℕ) → List ℕ → Type 0
WroteAll before now text = now ≡ append_known before text

-- some prefix of the text was written
abbrev pub WrotePrefix : Option (List ℕ) → Option (List ℕ) → List ℕ → Type 0
WrotePrefix before now text = (rest : List ℕ) × IsUnderway before now rest text

-- all of the text was written, or after a failure, of whatever kind, some prefix of it
abbrev pub Reports : {T E : Type 0} → Option (List ℕ) → Option (List ℕ) → List ℕ → Result T E → Type 0
Reports before now text result = MatchResult result (λ _. WroteAll before now text) (λ _. WrotePrefix before now text)

-- More text was made behind what waited, and whole pieces of both went out, so that `new` waits where `old` waited. After
-- a refusal, of whatever kind, some prefix of both went out.
abbrev pub Adds : {T E : Type 0} → Option (List ℕ) → Option (List ℕ) → List ℕ → List ℕ → List ℕ → Result T E → Type 0
Adds before now old new more result =
    MatchResult result (λ _. IsUnderway before now new (old ++ more)) (λ _. WrotePrefix before now (old ++ more))

-- a report may stop because the sink failed only where the sink's own count of faults rose
pub record ReportHasCause {T : Type 0} (before now : ℕ) (result : Result T ReportFault) : Type 0 where
  pub later : before ≤ now
  pub failed : IsErrOf result Write → Rose before now
