-- The answers of an inspection: what each wrote of the verdict, and what each comes of.
use Rattle.std.specs.Prelude.{◌≡◌, ◌⊎◌, ℕ, List, Option, None, Some, IsSome, IsNone}
use Rattle.session_disk.specs.declared.family.Family.{Family}
use Rattle.session_disk.specs.declared.family.Family.TheVariants.{Session, Tabs}
use Rattle.session_disk.specs.Causes.{Rose}
use Rattle.report_lines.specs.Reports.{WroteAll, WrotePrefix}
use Rattle.inspect_words.specs.declared.order.Order.{Order}
use Rattle.inspect_words.specs.declared.order.Order.TheVariants.{OfFile}
use Rattle.inspect_words.specs.declared.status.InspectStatus.{InspectStatus}
use Rattle.inspect_words.specs.declared.status.InspectStatus.TheVariants.{Done, Usage, NoStamp, Disk, Write, Memory}
use Rattle.snss_inspect.specs.Verdicts.{Verdict, Images}

-- the answer is the verdict's, and all of its text was written
pub record Tells (before now : Option (List ℕ)) (v : Verdict) (status : InspectStatus) : Type 0 where
  pub answer : status ≡ v.status
  pub text : WroteAll before now v.text

-- After a failure, and after want of memory, some prefix of the verdict's text was written.
abbrev pub Answers : Option (List ℕ) → Option (List ℕ) → Verdict → InspectStatus → Type 0
Answers before now v Done = Tells before now v Done
Answers before now v Usage = Tells before now v Usage
Answers before now v (NoStamp stamp) = Tells before now v (NoStamp stamp)
Answers before now v (Disk family) = WrotePrefix before now v.text
Answers before now v Write = WrotePrefix before now v.text
Answers before now v Memory = WrotePrefix before now v.text

-- the last of a text was written, and the answer stands; or a prefix of it, where the sink failed
abbrev pub Ends : Option (List ℕ) → Option (List ℕ) → Type 0 → List ℕ → InspectStatus → InspectStatus → Type 0
Ends before now sink_failed text status answer =
    ((answer ≡ status) × WroteAll before now text) ⊎ ((answer ≡ Write) × sink_failed × WrotePrefix before now text)

-- a family's disk failed in a call, by its count at entry and at exit
abbrev pub failed : {D : Type 0} → (D → ℕ) → D → D → D → D → Family → Type 0
failed count session tabs session_after tabs_after Session = Rose (count session) (count session_after)
failed count session tabs session_after tabs_after Tabs = Rose (count tabs) (count tabs_after)

-- what stops a report, and what that comes of; want of memory may come at any time
abbrev pub StopsBy : (Family → Type 0) → Type 0 → InspectStatus → Type 0
StopsBy disk_failed sink_failed Done = ⊥
StopsBy disk_failed sink_failed Usage = ⊥
StopsBy disk_failed sink_failed (NoStamp stamp) = ⊥
StopsBy disk_failed sink_failed (Disk family) = disk_failed family
StopsBy disk_failed sink_failed Write = sink_failed
StopsBy disk_failed sink_failed Memory = Unit {0}

-- what a report on one file ends with: nothing stands under the stamp only where the disk says so
abbrev pub EndsBy : Type 0 → ℕ → Option (List ℕ) → InspectStatus → Type 0
EndsBy modelled stamp bytes Done = Unit {0}
EndsBy modelled stamp bytes (NoStamp n) = (n ≡ stamp) × (modelled → bytes ≡ None)
EndsBy modelled stamp bytes status = ⊥

-- the words ask for this very file, and it doesn't stand
abbrev pub IsMissing : Type 0 → Option Order → Images → ℕ → Type 0
IsMissing modelled (Some (OfFile report family stamp)) images n = (n ≡ stamp) × (modelled → images family stamp ≡ None)
IsMissing modelled asked images n = ⊥

-- what each answer comes of
abbrev pub HasCause : Type 0 → Option Order → Images → (Family → Type 0) → Type 0 → InspectStatus → Type 0
HasCause modelled asked images disk_failed sink_failed Done = IsSome asked
HasCause modelled asked images disk_failed sink_failed Usage = IsNone asked
HasCause modelled asked images disk_failed sink_failed (NoStamp stamp) = IsMissing modelled asked images stamp
HasCause modelled asked images disk_failed sink_failed (Disk family) = disk_failed family
HasCause modelled asked images disk_failed sink_failed Write = sink_failed
HasCause modelled asked images disk_failed sink_failed Memory = Unit {0}
