-- How the script of a run comes, and why it doesn't.
use Rattle.std.specs.Prelude.{◌≡◌, ℕ, ◌+◌, ◌<◌, ◌≤◌, ◌^◌, List, length, Option, None, Some, IfSome}
use Rattle.log_writer.specs.declared.limits.Limits.{Limits}
use Rattle.writer_core.specs.Course.{options}
use Rattle.run_words.specs.declared.order.Origin.{Origin}
use Rattle.run_words.specs.declared.order.Origin.TheVariants.{Script}
use Rattle.run_words.specs.Words.{Asked}
use Rattle.session_drive.specs.Causes.{Causes, no_causes}
use Rattle.session_drive.specs.Run.{IsToRead, script_by}

-- a script that comes so, where this is left of the source
pub record IsScript (origin : Origin) (left : Option (List ℕ)) (text : List ℕ) : Type 0 where
  pub few : length text ≤ 2 ^ 30
  pub short : (most : ℕ) → origin ≡ Script most → length text < most + 1
  pub known : IfSome (script_by left origin) (λ script. text ≡ script)

-- a script and limits that the words ask for
pub record IsAsked (order : Option Asked) (left : Option (List ℕ)) (text : List ℕ) (limits : Limits) : Type 0 where
  pub asked : Asked
  pub is : order ≡ Some asked
  pub limited : asked.options ≡ options limits
  pub script : IsScript asked.origin left text

-- why no script comes so, where the source fails so
abbrev pub script_causes : Origin → Option (List ℕ) → Type 0 → Causes
script_causes origin left read = record no_causes {
  read = read;
  long_script = λ needed. (most : ℕ) × (origin ≡ Script most) × (needed ≡ most + 1)
      × IfSome left (λ text. most < length text);
}

-- why there is nothing to run
abbrev pub read_causes : Option Asked → Option (List ℕ) → Type 0 → Causes
read_causes order left read = record no_causes {
  usage = order ≡ None;
  read = read;
  long_script = λ needed. (most : ℕ) × IsToRead most order × (needed ≡ most + 1)
      × IfSome left (λ text. most < length text);
}
