use Rattle.std.proofs.Common.{◌≡◌, true, false, Some, string_bytes, sym, ap, ◌∙◌}
use Rattle.std.specs.Prelude.{codes}
use Rattle.std.specs.Str.{bytes_eq}
use Rattle.run_words.specs.Options.{limit_named, with_limit}
use Rattle.run_words.proofs.OptionLaws.{inline_read, limit_read}
use Rattle.run_words.proofs.options.read_options.Goals as goal

pub loop-left-preserved-then-eq : goal.loop-left-preserved-then-eq
loop-left-preserved-then-eq c =
    let is : bytes_eq (string_bytes c.word-item.result) (codes "--inline") ≡ true = rw c.as_str.ensures.value at (sym c.eq.ensures ∙ c.if-eq.true) in
    c.loop-left.invariant
    ∙ inline_read _ _ c.loop-left.left.now c.word-item.result c.next-item.result _ _ c.in-len2-up.len_at_least c.word-item.is c.next-item.is is (sym c.with_inline.ensures ∙ c.in_ok-given.was)

pub loop-left-preserved : goal.loop-left-preserved
loop-left-preserved c =
    let other : bytes_eq (string_bytes c.word-item.result) (codes "--inline") ≡ false = rw c.as_str.ensures.value at (sym c.eq.ensures ∙ c.if-eq.false) in
    let named : limit_named (string_bytes c.word-item.result) ≡ Some c.in-Some.limit = ap limit_named (sym c.as_str-else-eq.ensures.value) ∙ sym c.limit_named.ensures ∙ c.in-Some.is in
    c.loop-left.invariant
    ∙ limit_read c.loop-left.given _ c.in-Some.limit c.loop-left.left.now c.word-item.result c.next-item.result _ _ c.in-len2-up.len_at_least c.word-item.is c.next-item.is other named
    (ap (with_limit c.loop-left.given c.in-Some.limit) (sym c.as_bytes.ensures.value) ∙ sym c.with_limit.ensures ∙ c.in_ok-given-2.was)
