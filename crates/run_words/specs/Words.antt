-- The words of the command line: `run [OPTIONS] FOLDER`, or `gen [OPTIONS] X COUNT FOLDER`.
use Rattle.std.specs.Prelude.{ℕ, ◌^◌, ◌≤◌, Bool, false, not, ◌==◌, List, [], ◌∷◌, Option, None, option_and_then, option_map, if◌then◌else◌, codes, IsSome}
use Rattle.std.specs.Str.{bytes_eq}
use Rattle.run_words.specs.declared.options.Given.{Given}
use Rattle.run_words.specs.declared.order.Order.{Order}
use Rattle.run_words.specs.declared.order.Origin.{Origin}
use Rattle.run_words.specs.declared.order.Origin.TheVariants.{Script, Generated}
use Rattle.writer_core.specs.Course.{Options, options}
use Rattle.run_words.specs.Options.{options_in, nothing_given, chosen, script_of, generated_of}

-- what the words ask for: how the script comes, and what limits the journals
pub record Asked : Type 0 where
  pub origin : Origin
  pub options : Options

abbrev pub asked : Order → Asked
asked order = record { origin = order.origin; options = options order.limits }

-- how much a script may be
abbrev pub InRange : Origin → Type 0
InRange (Script most) = (1 ≤ most) × (most ≤ 2 ^ 30)
InRange (Generated x count) = (1 ≤ count) × (count ≤ 1000000)

-- a folder isn't empty and doesn't begin with `-`
abbrev pub is_folder : List ℕ → Bool
is_folder [] = false
is_folder (c ∷ cs) = not (c == 45)

-- a script that comes so, under these limits, where the folder is one
abbrev pub order_in : List ℕ → Option Origin → Option Options → Option Asked
order_in folder origin options =
    if is_folder folder then
    option_and_then (λ o. option_map (λ l. record { origin = o; options = l }) options) origin
    else None

-- behind the options of `run` stands a folder
abbrev pub run_with : Given → List (List ℕ) → Option Asked
run_with given (folder ∷ []) = order_in folder (script_of given) (chosen given)
run_with given words = None

-- behind those of `gen` a number, a count and a folder
abbrev pub gen_with : Given → List (List ℕ) → Option Asked
gen_with given (x ∷ count ∷ folder ∷ []) = order_in folder (generated_of given.max_script x count) (chosen given)
gen_with given words = None

abbrev pub run_of : List (List ℕ) → Option Asked
run_of words = option_and_then (λ read. run_with read.0 read.1) (options_in nothing_given words)

abbrev pub gen_of : List (List ℕ) → Option Asked
gen_of words = option_and_then (λ read. gen_with read.0 read.1) (options_in nothing_given words)

-- what the words ask for, None exactly where they aren't in the grammar
abbrev pub order_of : List (List ℕ) → Option Asked
order_of [] = None
order_of (mode ∷ words) =
    if bytes_eq mode (codes "run") then run_of words
    else (if bytes_eq mode (codes "gen") then gen_of words else None)

-- the words are a run's
abbrev pub IsRun : List (List ℕ) → Type 0
IsRun words = IsSome (order_of words)
