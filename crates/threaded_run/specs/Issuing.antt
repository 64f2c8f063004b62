-- What the lines of a segment put into the queue of a run, and how far they came.
use Rattle.std.specs.Prelude.{◌≡◌, ℕ, suc, Bool, true, false, List, [], ◌∷◌, ◌++◌, map}
use Rattle.command_queue.specs.declared.board.IssuerSeat.{IssuerSeat}
use Rattle.command_queue.specs.Passes.{sent}
use Rattle.script_lines.specs.Lines.{lines}
use Rattle.browser_model.specs.Browsers.{Browser}
use Rattle.writer_core.specs.Ends.{has_end}
use Rattle.writer_core.specs.declared.item.Item.TheVariants as item
use Rattle.script_run.specs.Families.{RunItem}
use Rattle.script_run.specs.Segments.{EndsSegment, IsFurther, segment_from}
use Rattle.script_run.specs.declared.asking.Work.{Work}
use Rattle.threaded_run.specs.Issuers.{HasLooked}
use Rattle.threaded_run.specs.declared.issuing.Issued.{Issued}
use Rattle.threaded_run.specs.declared.issuing.Issued.TheVariants as issued
use Rattle.threaded_run.specs.declared.putting.Issuer.{Issuer}

-- a compaction, where it is asked for
abbrev pub compaction_items : Bool → List RunItem
compaction_items true = item.Compact ∷ []
compaction_items false = []

-- the session's commands come first, then those of the tabs
abbrev pub work_items : Work → List RunItem
work_items work =
    map item.Session work.session.items ++ (map item.Tabs work.tabs.items ++ compaction_items work.compacts)

-- a sync, where the segment is over
abbrev pub closing_items : Issued → List RunItem
closing_items (issued.Over ended) = item.Sync ∷ []
closing_items issued.Memory = []
closing_items issued.Stopped = []

-- nothing is left where the segment is over
abbrev pub MayLeave : Issued → List RunItem → Type 0
MayLeave (issued.Over ended) left = left ≡ []
MayLeave issued.Memory left = Unit {0}
MayLeave issued.Stopped left = Unit {0}

-- All of these items were put but those that are left, and then the last ones.
pub record HasPut (all last : List RunItem) (old new : Issuer) (issued : Issued) : Type 0 where
  pub items : List RunItem
  pub left : List RunItem
  pub parts : items ++ left ≡ all
  pub leaves : MayLeave issued left
  pub none_ends : has_end items ≡ false
  pub sends : sent new.pass ≡ sent old.pass ++ (items ++ last)

-- how it ended with the lines of a text, where so many were read before
abbrev pub EndsAs : ℕ → List ℕ → (first : Browser) → Issued → IssuerSeat → (last : Browser) → Type 0
EndsAs number text first (issued.Over ended) seat last =
    EndsSegment (segment_from (suc number) first (lines text)) first ended last × IsFurther number text ended
EndsAs number text first issued.Memory seat last = Unit {0}
EndsAs number text first issued.Stopped seat last = HasLooked seat
