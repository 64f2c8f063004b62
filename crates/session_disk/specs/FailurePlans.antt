-- Which of the coming calls of a disk in memory fail, and after how much of their work.
use Rattle.std.specs.Prelude.{ℕ, zero, suc, ◌-◌, min, Bool, false, ◌&&◌, ◌||◌, if◌then◌else◌, ◌==◌, List, [], map, Option, Some, None, option_map, Result, Ok, Err}
use Rattle.std.specs.List.{find}
use denote.Enum.Bare.{sameb}
use Rattle.session_disk.specs.contracts.memory.failure_plan.Call.{the_type}
use Rattle.session_disk.specs.declared.failure.DiskError.{DiskError}
use Rattle.session_disk.specs.declared.failure.DiskError.TheVariants.{Failed, Memory}
use Rattle.session_disk.specs.declared.memory.failure_plan.Call.{Call}
use Rattle.session_disk.specs.declared.memory.failure_plan.Failure.{Failure}
use Rattle.session_disk.specs.declared.memory.failure_plan.FailurePlan.{FailurePlan}
use Rattle.session_disk.specs.Histories.{History, after}
use Rattle.session_disk.specs.MemoryStreams.{next_count}
use Rattle.session_disk.specs.Moments.{Moment}

-- the failures that are to come, each counted from now on; whether every call fails from now on
pub record Plan : Type 0 where
  pub coming : List Failure
  pub broken : Bool

abbrev pub plan_of : FailurePlan → Plan
plan_of plan = record { coming = plan.coming.items; broken = plan.broken }

-- no call fails
abbrev pub no_failures : Plan
no_failures = record { coming = []; broken = false }

-- whether it is a failure of calls of this kind
abbrev pub is_of : Call → Failure → Bool
is_of call failure = sameb the_type failure.call call

-- the failure that is to come at the next call of a kind; of several the one that stands first
abbrev pub due : Call → List Failure → Option Failure
due call coming = find (λ failure. is_of call failure && (failure.nth == 1)) coming

-- the work after which the next call of a kind fails; None where it doesn't fail
abbrev pub planned : Call → Plan → Option ℕ
planned call plan = if plan.broken then Some 0 else option_map (λ (failure : Failure). failure.done) (due call plan.coming)

-- one call of a kind was made
abbrev pub counted : Call → Failure → Failure
counted call failure = if is_of call failure then record failure { nth = failure.nth - 1 } else failure

abbrev pub is_lasting : Option Failure → Bool
is_lasting None = false
is_lasting (Some failure) = failure.lasting

-- the plan after the next call of a kind
abbrev pub after_call : Call → Plan → Plan
after_call call plan = record { coming = map (counted call) plan.coming; broken = plan.broken || is_lasting (due call plan.coming) }

-- how much is done of a work
abbrev pub part_of : Option ℕ → ℕ → ℕ
part_of None all = all
part_of (Some done) all = min done all

-- the answer of a call after its work
abbrev pub answer_of : Option ℕ → Result (Unit {0}) DiskError
answer_of None = Ok tt
answer_of (Some done) = Err Failed

-- the count of failures after a call that gave this answer
abbrev pub failures_after : {T : Type 0} → Result T DiskError → ℕ → ℕ
failures_after (Ok value) count = count
failures_after (Err Failed) count = next_count count
failures_after (Err Memory) count = count

-- a part of the work is done, in one step; where it is to be none, nothing happens
abbrev pub after_part : ℕ → ℕ → (ℕ → Moment → Moment) → History → History
after_part zero all step old = old
after_part (suc n) all step old = after (step (min (suc n) all)) old
