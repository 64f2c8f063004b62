-- Runs of commands of any machine.
use Rattle.std.specs.Prelude.{◌≡◌, List}
use Rattle.std.specs.List.{AllByRecursion}
use Rattle.machine_law.specs.Kind.{Kind, fold}

-- the commands lead from one state to another
pub record Leads {S C : Type 0} (kind : Kind S C) (old : S) (commands : List C) (new : S) : Type 0 where
  pub to : fold kind old commands ≡ new

-- all commands of a list are so
pub record Are {C : Type 0} (P : C → Type 0) (commands : List C) : Type 0 where
  pub all : AllByRecursion P commands
