use Rattle.std.specs.Int.{w32}
use Rattle.std.specs.Prelude.{FitsSigned}
use Rattle.std.proofs.Common.{rules}
use Rattle.std.proofs.lemmas.Int.{to_z-of_z}
use Rattle.navigation_entry.proofs.NavigationLaws.{put_as, written_is}
use Rattle.navigation_entry.proofs.reading.write_navigation.Goals as goal

pub returns : goal.returns
returns c =
    let n = c.args.navigation.now in
    let tab : FitsSigned w32 c.args.tab = search rules in
    let index : FitsSigned w32 c.args.index = search rules in
    let transition : FitsSigned w32 n.transition = search rules in
    let written = put_as c.args.tab c.args.index n.url n.title n.page_state n.transition n.rest _ _ _ _ _ _ _ _ _ _ _ _ _ _ _ c.finish.result.items
    (to_z-of_z w32 c.args.tab tab) (to_z-of_z w32 c.args.index index) (to_z-of_z w32 n.transition transition)
    c.as_slice-url.ensures c.units-title.ensures c.as_slice-page_state.ensures c.as_slice-rest.ensures
    c.in_ok-writer.ensures c.in_ok-put_int.ensures.written c.in_ok-put_int-2.ensures.written c.in_ok-put_bytes.ensures.written c.in_ok-put_units.ensures.written c.in_ok-put_bytes-2.ensures.written c.in_ok-put_int-3.ensures.written c.in_ok-put_rest.ensures.written c.finish.ensures in
    let is = written_is c.args.tab c.args.index n.url n.title n.page_state n.transition n.rest c.finish.result.items tab index transition (λ i. rw (← c.units-title.ensures) (search rules)) n.whole n.short written in
    record { written = written; again = is.0; short = is.1 }
