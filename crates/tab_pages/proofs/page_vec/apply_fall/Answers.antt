use Rattle.std.proofs.Common.{FitsSigned, w32, negsuc, ◌≡◌, ◌∙◌, pos, arith, sym}
use Rattle.std.proofs.lemmas.Int.{ints, to_z-of_z}
use Rattle.tab_pages.specs.PageLists.{lowered}
use Rattle.tab_pages.proofs.PageLaws.{written_over}
use Rattle.tab_pages.proofs.PartLaws.{lowered-shifted, shifted-none}
use Rattle.tab_pages.proofs.page_vec.apply_fall.Goals as goal

pub returns-then-fall-gt0 : goal.returns-then-fall-gt0
returns-then-fall-gt0 c =
    let f : FitsSigned w32 c.args.fall = c.ranges.fall in
    let fallen = simp to_z-of_z at c.lower_all.ensures in
    written_over (lowered (negsuc 0) c.args.fall) c.args.pages.now.items c.lower_all.new.pages c.args.pages.now.len (c.args.pages.now.ok.0) (rw c.as_mut_slice.ensures.value at fallen)
    ∙ lowered-shifted c.args.fall c.args.fall c.args.pages.now.items c.requires.fall c.requires.rising

pub returns-else-fall-gt0 : goal.returns-else-fall-gt0
returns-else-fall-gt0 c =
    let none : c.args.fall ≡ pos 0 = grind (arith, ints) in
    rw none (sym (shifted-none c.args.pages.now.items))
