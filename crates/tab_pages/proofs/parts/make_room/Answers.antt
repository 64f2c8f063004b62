use Rattle.std.proofs.Common.{◌∙◌, ◌++◌, ◌∷◌, [], ap}
use Rattle.tab_pages.specs.PartLists.{joined}
use Rattle.tab_pages.proofs.JoinLaws.{joined-push}
use Rattle.tab_pages.proofs.parts.make_room.Goals as goal

pub returns-then-ends_before-clause-same : goal.returns-then-ends_before-clause-same
returns-then-ends_before-clause-same c =
    ap joined (c.in_ok-push-2.ensures.items ∙ ap (λ p. c.args.parts.now.items ++ p ∷ []) c.new-then-ends_before.ensures) ∙ joined-push c.args.parts.now.items
