use Rattle.std.proofs.Common.{rules, ◌-◌, length, sym, ap, ◌∙◌, FitsSigned, w32}
use Rattle.std.specs.Option.{unwrap_or}
use Rattle.std.proofs.lemmas.Int.{to_z-of_z}
use Rattle.std.proofs.lemmas.Simd.{map-map}
use Rattle.tab_pages.proofs.PositionLaws.{first_from-map}
use Rattle.session_tidying.proofs.window.seen_place.Goals as goal

pub returns : goal.returns
returns c =
    let selected = c.args.window.now.selected in
    let f : FitsSigned w32 c.args.window.now.selected = search rules in
    let found = simp to_z-of_z at c.find_from.ensures in
    simp map-map (c.or_last.ensures ∙ ap (λ o. unwrap_or o (length c.args.tabs.now - 1)) found
    ∙ sym (first_from-map selected (λ t. t.now.index) c.args.tabs.now))
