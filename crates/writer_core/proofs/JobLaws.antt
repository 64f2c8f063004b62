-- The commands of jobs one after another, and how many they are.
use Rattle.std.proofs.Common.{◌≡◌, ◌≤◌, List, [], ◌∷◌, ◌++◌, length, ap, ◌∙◌, arith}
use Rattle.std.proofs.lemmas.List.{append-nil, length-append}
use Rattle.std.proofs.lemmas.List.Concat.{flat_map-append}
use Rattle.writer_core.specs.Jobs.{commands_of, commands}
use Rattle.writer_core.specs.declared.item.Job.{Job}
use Rattle.writer_core.specs.declared.item.Job.TheVariants as job

module _ {C : Type 0} where
  pub commands-append : (done more : List (Job C)) → commands (done ++ more) ≡ commands done ++ commands more
  commands-append done more = flat_map-append commands_of done more

  pub commands_more : (done : List (Job C)) (todo : Job C) → commands (done ++ todo ∷ []) ≡ commands done ++ commands_of todo
  commands_more done todo = commands-append done (todo ∷ []) ∙ ap (λ (x : List C). commands done ++ x) (append-nil (commands_of todo))

  -- a job writes one command at most
  pub one_at_most : (todo : Job C) → length (commands_of todo) ≤ 1
  one_at_most (job.Write command) = omega arith
  one_at_most job.Sync = omega arith
  one_at_most job.Compact = omega arith
  one_at_most job.Nothing = omega arith

  pub length-commands : (jobs : List (Job C)) → length (commands jobs) ≤ length jobs
  length-commands [] = omega arith
  length-commands (todo ∷ later) = omega (arith, length-append (commands_of todo) (commands later), one_at_most todo, length-commands later)
