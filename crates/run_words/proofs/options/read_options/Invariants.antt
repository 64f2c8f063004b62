use Rattle.std.proofs.Common.{◌≡◌, map, length}
use Rattle.std.specs.String.{string_bytes}
use Rattle.run_words.specs.Options.{options_in, nothing_given}
use Rattle.run_words.proofs.options.read_options.Given as goal

-- what the words left add to what was given is what all words give
abbrev pub invariant-loop-left : goal.invariant-loop-left
invariant-loop-left l = options_in nothing_given (map string_bytes l.words) ≡ options_in l.given (map string_bytes l.left)

abbrev pub decreases-loop-left : goal.decreases-loop-left
decreases-loop-left l = length l.left
