use Rattle.std.proofs.Common.{◌≡◌, ◌∙◌, ◌+◌, ◌++◌, [], suc, ap, sym, arith, get_or, insert, set}
use Rattle.std.proofs.lemmas.List.{set-get_or}
use Rattle.tab_pages.specs.PartLists.{joined}
use Rattle.tab_pages.proofs.JoinLaws.{joined-opened, joined-split}
use Rattle.tab_pages.proofs.parts.split.Goals as goal

pub returns-in_err-later-clause-same : goal.returns-in_err-later-clause-same
returns-in_err-later-clause-same c =
    let opened : c.insert.new.self.items ≡ insert c.args.parts.now.items (c.args.number + 1) [] = c.in_ok-insert.ensures.items ∙ ap (insert c.args.parts.now.items (c.args.number + 1)) c.new.ensures in
    let within = c.requires in
    ap (λ p. joined (set c.insert.new.self.items c.args.number p)) (c.in_err-later.ensures.err ∙ c.index_mut.ensures.value)
    ∙ ap joined (set-get_or c.insert.new.self.items c.args.number c.index_mut.result.now)
    ∙ ap joined opened
    ∙ joined-opened c.args.parts.now.items (c.args.number + 1) (omega arith)

pub returns-clause-same : goal.returns-clause-same
returns-clause-same c =
    let next : c.args.number + 1 ≡ suc c.args.number = omega arith in
    let opened : c.insert.new.self.items ≡ insert c.args.parts.now.items (c.args.number + 1) [] = c.in_ok-insert.ensures.items ∙ ap (insert c.args.parts.now.items (c.args.number + 1)) c.new.ensures in
    let parted : get_or c.insert.new.self.items c.args.number c.index_mut.result.now ≡ c.split.new.self ++ c.in_ok-later.later = sym c.index_mut.ensures.value ∙ c.in_ok-later.ensures.ok in
    let parted' = rw (opened, next) at parted in
    rw (opened, next) (joined-split c.args.parts.now.items c.args.number c.index_mut.result.now c.split.new.self c.in_ok-later.later c.requires parted')
