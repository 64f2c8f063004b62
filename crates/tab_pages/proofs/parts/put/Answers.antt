use Rattle.std.proofs.Common.{FitsSigned, w32, ◌≡◌, ◌∙◌, ap, get_or, set}
use Rattle.std.proofs.lemmas.Int.{to_z-of_z}
use Rattle.std.proofs.lemmas.Result.{on_ok_weaker}
use Rattle.std.specs.Ordering.{int_cmp}
use Rattle.std.specs.BTreeMap.{insert_entry}
use Rattle.tab_pages.specs.PartLists.{joined}
use Rattle.tab_pages.proofs.JoinLaws.{put-part}
use Rattle.tab_pages.proofs.parts.put.Goals as goal

pub returns-clause-ok : goal.returns-clause-ok
returns-clause-ok c =
    let f : FitsSigned w32 c.args.index = c.ranges.index in
    let place = simp (to_z-of_z, c.as_slice.ensures.value) at c.part_of-number.ensures.place in
    let ok = simp to_z-of_z at c.put.ensures.ok in
    let law = put-part c.args.index c.args.navigation c.index_mut.result.now c.make_room.new.parts.items c.in_ok-make_room.ensures.some in
    let here : joined (set c.make_room.new.parts.items c.part_of-number.result (insert_entry int_cmp (get_or c.make_room.new.parts.items c.part_of-number.result c.index_mut.result.now) c.args.index c.args.navigation)) ≡ insert_entry int_cmp (joined c.make_room.new.parts.items) c.args.index c.args.navigation = rw place law in
    on_ok_weaker c.put.result (λ same.
    ap (λ p. joined (set c.make_room.new.parts.items c.part_of-number.result p)) (same ∙ ap (λ q. insert_entry int_cmp q c.args.index c.args.navigation) c.index_mut.ensures.value)
    ∙ here
    ∙ ap (λ ps. insert_entry int_cmp ps c.args.index c.args.navigation) c.make_room.ensures.same) ok
