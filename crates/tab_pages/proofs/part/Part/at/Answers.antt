use Rattle.std.proofs.Common.{rules, FitsSigned, w32, ◌≡◌, ◌∙◌, sym, ap, refl, length, ◌<◌, to_z, of_z, Some}
use Rattle.std.proofs.lemmas.Int.{to_z-of_z}
use Rattle.std.proofs.lemmas.List.{length-map}
use Rattle.tab_pages.proofs.PartLaws.{rising_at, shifted-get}
use Rattle.tab_pages.proofs.part.Part.at.Goals as goal

pub fallen-requires-clause-stored : goal.fallen-requires-clause-stored
fallen-requires-clause-stored c =
    let f : FitsSigned w32 c.self.inside.fall = search rules in
    let g : FitsSigned w32 c.index-page.result.now.0 = search rules in
    let within : c.args.place < length c.self.inside.pages.items = rw (← c.self.view_is, length-map) at c.requires in
    let high = rising_at c.self.inside.fall c.self.inside.pages.items c.args.place c.index-page.result.now within c.self.invariant.1 (search rules) in
    simp to_z-of_z high

pub returns : goal.returns
returns c =
    let f : FitsSigned w32 c.self.inside.fall = search rules in
    let g : FitsSigned w32 c.index-page.result.now.0 = search rules in
    let within : c.args.place < length c.self.inside.pages.items = rw (← c.self.view_is, length-map) at c.requires in
    let fallen = simp to_z-of_z at c.fallen.ensures in
    let h : FitsSigned w32 c.fallen.result = search rules in
    let back : to_z w32 (of_z w32 c.fallen.result) ≡ c.fallen.result = simp to_z-of_z refl in
    rw (← c.self.view_is) (shifted-get c.self.inside.fall c.self.inside.pages.items c.args.place c.index-page.result.now within (search rules) ∙ ap (λ i. Some (i, c.index-page.result.now.1)) (sym fallen ∙ sym back))
