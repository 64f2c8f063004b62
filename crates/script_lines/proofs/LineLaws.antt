-- A text that is cut at a byte, and its lines.
use Rattle.std.proofs.Common.{◌≡◌, ◌≢◌, ℕ, ◌<◌, true, false, eqb, List, [], ◌∷◌, ◌++◌, length, refl, ap, ◌∙◌, arith}
use Rattle.std.specs.List.{AllByRecursion}
use Rattle.std.proofs.lemmas.Bool.Decides.{nat_tests}
use Rattle.script_lines.specs.Lines.{with_byte, lines, Lacks, CutsAt}

same : (b : ℕ) → eqb b b ≡ true
same b = grind (arith, nat_tests)

other : (b by : ℕ) → b ≢ by → eqb b by ≡ false
other b by ne = grind (arith, nat_tests)

-- the first line ends where the line feed stands first
pub lines-cut : (prefix rest : List ℕ) → AllByRecursion (λ b. b ≢ 10) prefix → lines (prefix ++ 10 ∷ rest) ≡ prefix ∷ lines rest
lines-cut [] rest h = refl
lines-cut (b ∷ prefix) rest h = rw (other b 10 h.0) (ap (with_byte b) (lines-cut prefix rest h.1))

-- a text without a line feed is one line
pub lines-whole : (b : ℕ) (prefix : List ℕ) → AllByRecursion (λ c. c ≢ 10) (b ∷ prefix) → lines (b ∷ prefix) ≡ (b ∷ prefix) ∷ []
lines-whole b [] h = rw (other b 10 h.0) refl
lines-whole b (c ∷ prefix) h = rw (other b 10 h.0) (ap (with_byte b) (lines-whole c prefix h.1))

-- the first line of a text that is cut at its first line feed
pub lines_first : (text prefix rest : List ℕ) → CutsAt 10 text prefix rest → lines text ≡ prefix ∷ lines rest
lines_first text prefix rest h = ap lines h.parts ∙ lines-cut prefix rest h.first

-- a text without a line feed
pub lines_only : (text : List ℕ) → 0 < length text → Lacks 10 text → lines text ≡ text ∷ []
lines_only [] some h = absurd (omega arith)
lines_only (b ∷ prefix) some h = lines-whole b prefix h
