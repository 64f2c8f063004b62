-- The options in front of the other words: `--inline`, and limits with a number each, in any order, each at most once.
use Rattle.std.specs.Prelude.{ℕ, ◌^◌, Bool, true, false, ◌&&◌, nat_lt, nat_le, List, [], ◌∷◌, Option, Some, None, option_and_then, unwrap_or, if◌then◌else◌, codes}
use Rattle.std.specs.Str.{bytes_eq}
use Rattle.decimals.specs.Decimal.{number_of}
use Rattle.writer_core.specs.Course.{Options}
use Rattle.run_words.specs.declared.options.Given.{Given}
use Rattle.run_words.specs.declared.options.Limit.{Limit}
use Rattle.run_words.specs.declared.options.Limit.TheVariants.{Every, MaxFile, MaxScript}
use Rattle.run_words.specs.declared.order.Origin.{Origin}
use Rattle.run_words.specs.declared.order.Origin.TheVariants.{Script, Generated}

-- what an option limits by the number behind it
abbrev pub limit_named : List ℕ → Option Limit
limit_named word =
    if bytes_eq word (codes "--every") then Some Every
    else (if bytes_eq word (codes "--max-file") then Some MaxFile
    else (if bytes_eq word (codes "--max-script") then Some MaxScript else None))

-- each option stands at most once; a number is a plain decimal
abbrev pub number_once : Option ℕ → List ℕ → Option ℕ
number_once None word = number_of word
number_once (Some n) word = None

abbrev pub with_inline : Given → Option Given
with_inline given = if given.inline then None else Some (record given { inline = true })

abbrev pub with_limit : Given → Limit → List ℕ → Option Given
with_limit given Every word =
    option_and_then (λ n. Some (record given { every = Some n })) (number_once given.every word)
with_limit given MaxFile word =
    option_and_then (λ n. Some (record given { max_file = Some n })) (number_once given.max_file word)
with_limit given MaxScript word =
    option_and_then (λ n. Some (record given { max_script = Some n })) (number_once given.max_script word)

abbrev pub nothing_given : Given
nothing_given = record { inline = false; every = None; max_file = None; max_script = None }

-- the options in front of the words, behind those that gave this, and the words behind them; the last word is none
abbrev pub options_in : Given → List (List ℕ) → Option (Given × List (List ℕ))
options_in given [] = Some (given, [])
options_in given (word ∷ []) = Some (given, word ∷ [])
options_in given (word ∷ next ∷ words) =
    if bytes_eq word (codes "--inline") then
    option_and_then (λ more. options_in more (next ∷ words)) (with_inline given)
    else (elim (limit_named word) [
      | Some limit ↦ option_and_then (λ more. options_in more words) (with_limit given limit next)
      | None ↦ Some (given, word ∷ next ∷ words)
    ])

-- a number from 1 to the greatest
abbrev pub is_within : ℕ → ℕ → Bool
is_within greatest n = nat_lt 0 n && nat_le n greatest

-- a limit of the journals is from 1 to 2 ^ 40
abbrev pub limits_within : ℕ → ℕ → Option Options
limits_within every max_file =
    if is_within (2 ^ 40) every && is_within (2 ^ 40) max_file then
    Some (record { every = every; max_file = max_file })
    else None

-- what was given for the journals, and the defaults for the rest
abbrev pub chosen : Given → Option Options
chosen given = limits_within (unwrap_or given.every 250) (unwrap_or given.max_file 4294967296)

-- a script has from 1 to 2 ^ 30 bytes at most
abbrev pub script_of : Given → Option Origin
script_of given =
    let most = unwrap_or given.max_script 67108864 in if is_within (2 ^ 30) most then Some (Script most) else None

-- from 1 to 1,000,000 lines are generated, and no option limits their bytes
abbrev pub generated_of : Option ℕ → List ℕ → List ℕ → Option Origin
generated_of (Some most) x count = None
generated_of None x count =
    option_and_then (λ x. option_and_then
    (λ count. if is_within 1000000 count then Some (Generated x count) else None)
    (number_of count)) (number_of x)
