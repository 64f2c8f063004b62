use Rattle.std.proofs.Common.{rules, FitsSigned, w32, ◌∙◌, ◌+ℤ◌, pos, sym, ap, arith}
use Rattle.std.proofs.lemmas.Int.{ints, to_z-of_z}
use Rattle.tab_pages.specs.PageLists.{pruned}
use Rattle.tab_pages.proofs.PageLaws.{rising-pruned, rising-weaken}
use Rattle.tab_pages.proofs.PartLaws.{rising-applied, shifted-none, none-pruned, all-fall}
use Rattle.tab_pages.proofs.part.Part.prune.Goals as goal

pub returns-then-ends_before : goal.returns-then-ends_before
returns-then-ends_before c =
    let f : FitsSigned w32 c.self.inside.fall = search rules in
    let g : FitsSigned w32 c.args.first = c.ranges.first in
    let h : FitsSigned w32 c.args.count = c.ranges.count in
    let ends = simp (to_z-of_z, c.as_slice.ensures.value, c.self.view_is) at c.ends_before.ensures in
    sym (none-pruned c.args.first c.args.count c.args.self.now (sym ends ∙ c.if-ends_before.true))

pub invariant_of-self : goal.invariant_of-self
invariant_of-self c =
    let f : FitsSigned w32 c.self.inside.fall = search rules in
    let g : FitsSigned w32 c.args.first = c.ranges.first in
    let h : FitsSigned w32 c.args.count = c.ranges.count in
    let k = simp to_z-of_z at (c.is_behind.ensures.fits c.if-is_behind.true) in
    let behind = simp (to_z-of_z, c.as_slice-2.ensures.value) at (c.is_behind.ensures.behind c.if-is_behind.true) in
    let natural = c.self.invariant.0 in
    let positive = c.requires.count in
    let forward = c.requires.first in
    simp to_z-of_z (omega (arith, ints), rising-weaken (c.self.inside.fall +ℤ c.args.count) _ c.self.inside.pages.items (omega (arith, ints)) behind)

pub returns-then-is_behind : goal.returns-then-is_behind
returns-then-is_behind c =
    let f : FitsSigned w32 c.self.inside.fall = search rules in
    let g : FitsSigned w32 c.args.first = c.ranges.first in
    let h : FitsSigned w32 c.args.count = c.ranges.count in
    let k = simp to_z-of_z at (c.is_behind.ensures.fits c.if-is_behind.true) in
    let behind = simp (to_z-of_z, c.as_slice-2.ensures.value) at (c.is_behind.ensures.behind c.if-is_behind.true) in
    let all = all-fall c.args.first c.args.count c.self.inside.fall ((c.args.first +ℤ c.args.count) +ℤ c.self.inside.fall) c.self.inside.pages.items c.requires.first c.requires.count (omega (arith, ints)) behind in
    simp to_z-of_z (all ∙ ap (pruned c.args.first c.args.count) c.self.view_is)

pub invariant_of-self-2 : goal.invariant_of-self-2
invariant_of-self-2 c =
    let g : FitsSigned w32 c.args.first = c.ranges.first in
    let h : FitsSigned w32 c.args.count = c.ranges.count in
    let f : FitsSigned w32 c.self.inside.fall = search rules in
    let applied = simp to_z-of_z at c.apply_fall.ensures in
    let rising = rising-applied c.self.inside.fall c.self.inside.pages.items c.self.invariant.1 in
    let made = simp to_z-of_z at c.prune.ensures in
    (omega (arith, ints), rw (made, applied) (rising-pruned c.args.first c.args.count (pos 0) (pos 0) _ c.requires.count c.requires.first (omega (arith, ints)) rising))

pub returns : goal.returns
returns c =
    let g : FitsSigned w32 c.args.first = c.ranges.first in
    let h : FitsSigned w32 c.args.count = c.ranges.count in
    let f : FitsSigned w32 c.self.inside.fall = search rules in
    let applied = simp to_z-of_z at c.apply_fall.ensures in
    let seen = applied ∙ c.self.view_is in
    let made = simp to_z-of_z at c.prune.ensures in
    shifted-none c.prune.new.pages.items ∙ made ∙ ap (pruned c.args.first c.args.count) seen
