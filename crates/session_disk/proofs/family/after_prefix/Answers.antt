use Rattle.std.proofs.Common.{◌≡◌, ℕ, List, ◌++◌, length, take, drop, true, false, nat_eq, ◌+◌, Option, Some, None, IfSome, IfNone, MatchOption}
use Rattle.std.specs.Borrow.{Bor}
use Rattle.std.specs.Cmp.Lexicographic.{pointwise}
use Rattle.session_disk.proofs.Prefixes.{rest_found, no_rest}
use Rattle.session_disk.proofs.family.after_prefix.Goals as goal

abbrev Cases : List ℕ → List ℕ → Option (Bor (List ℕ)) → Type 0
Cases name prefix result = MatchOption result (pointwise nat_eq (take (length prefix) name) prefix ≡ false) (λ x. (pointwise nat_eq (take (length prefix) name) prefix ≡ true) × (x.now ≡ drop (length prefix) name) × (length x.now + length prefix ≡ length name))

found : (name prefix : List ℕ) (result : Option (Bor (List ℕ))) → Cases name prefix result → IfSome result (λ rest. name ≡ prefix ++ rest.now)
found name prefix None h = tt
found name prefix (Some rest) h = rest_found name prefix rest.now h.0 h.1

none : (name prefix : List ℕ) (result : Option (Bor (List ℕ))) → Cases name prefix result → IfNone result ((rest : List ℕ) → name ≡ prefix ++ rest → ⊥)
none name prefix None h = λ rest. no_rest name prefix rest h
none name prefix (Some rest) h = tt

pub returns-clause-found : goal.returns-clause-found
returns-clause-found c = found c.args.name.now c.args.prefix.now c.strip_prefix.result c.strip_prefix.ensures.cases

pub returns-clause-none : goal.returns-clause-none
returns-clause-none c = none c.args.name.now c.args.prefix.now c.strip_prefix.result c.strip_prefix.ensures.cases
