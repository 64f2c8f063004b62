use Rattle.std.proofs.Common.{◌≡◌, ℕ, ◌<◌, ◌^◌, List, ◌++◌, sym, ◌∙◌, arith}
use Rattle.std.proofs.lemmas.List.{append_cancel_left}
use Rattle.std.proofs.lemmas.Fmt.{decimal_injective}
use Rattle.std.specs.Fmt.{decimal}
use Rattle.session_disk.specs.Names.{prefix_of}
use Rattle.session_disk.proofs.family.stamp_of.Goals as goal

-- a name holds one stamp
one_stamp : (prefix name digits : List ℕ) (m n : ℕ) → name ≡ prefix ++ digits → digits ≡ decimal m → name ≡ prefix ++ decimal n → m < 2 ^ 64 → n < 2 ^ 64 → m ≡ n
one_stamp prefix name digits m n e d f a b =
    decimal_injective m n a b (sym d ∙ append_cancel_left prefix digits (decimal n) (sym e ∙ f))

pub returns-else-stamp-eq0-clause-none : goal.returns-else-stamp-eq0-clause-none
returns-else-stamp-eq0-clause-none c = λ stamp small e.
    let text = rw (c.as_bytes.ensures.value, c.prefix_of.ensures) at c.in_ok-digits.ensures.found in
    let fits : c.in_ok-stamp.stamp < 2 ^ 64 = omega arith in
    let below : stamp < 2 ^ 64 = omega (arith, small) in
    let same = one_stamp (prefix_of c.args.family) c.args.name.now c.in_ok-digits.digits.now c.in_ok-stamp.stamp stamp text c.in_ok-stamp.ensures.found e fits below in
    omega (arith, same, small)
