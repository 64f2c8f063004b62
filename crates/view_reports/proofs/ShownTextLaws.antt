-- What is shown is a text.
use Rattle.std.proofs.Common.{ℕ, List, [], ◌∷◌, arith}
use Rattle.std.specs.Prelude.{IsAscii, IsUtf8}
use Rattle.std.specs.List.{AllByRecursion}
use Rattle.std.proofs.lemmas.Str.{IsUtf8-from_ascii}
use Rattle.std.proofs.lemmas.Str.Ascii.{IsAscii-nil, IsAscii-cons}
use Rattle.shown_texts.specs.Shown.{IsQuotable}

are_ascii : (text : List ℕ) → AllByRecursion IsQuotable text → IsAscii text
are_ascii [] quotable = IsAscii-nil
are_ascii (c ∷ text) quotable = IsAscii-cons c text (omega (arith, quotable.0.1)) (are_ascii text quotable.1)

pub quotable_is_text : (text : List ℕ) → AllByRecursion IsQuotable text → IsUtf8 text
quotable_is_text text quotable = IsUtf8-from_ascii text (are_ascii text quotable)
