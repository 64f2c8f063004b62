use Rattle.std.proofs.Common.{rules, tests, codes}
use Rattle.std.proofs.lemmas.Iterator.{YieldsList-from_slice}
use Rattle.std.proofs.lemmas.Iterator.Search.{any_from_yields_List}
use Rattle.run_words.proofs.WordLaws.{held_if_any}
use Rattle.run_words.proofs.words.wants_inline.Goals as goal

pub returns : goal.returns
returns c =
    held_if_any (codes "--inline") c.args.words.now c.any.result
    (any_from_yields_List _ _ _ _ c.any.ensures.ran (YieldsList-from_slice c.args.words.now cc) (λ x b q k. search (rules, tests)))
