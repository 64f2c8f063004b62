use Rattle.std.proofs.Common.{◌∙◌, arith}
use Rattle.pickle_cells.proofs.PickleLaws.{body_found_by, body_only_by}
use Rattle.pickle_cells.proofs.cursor.Cursor.new.Goals as goal

pub returns-clause-found : goal.returns-clause-found
returns-clause-found c = body_found_by c.args.pickle.now c.opened.result (λ i. omega (arith, c.type_inv.pickle i)) c.opened.ensures

pub returns-clause-only : goal.returns-clause-only
returns-clause-only c = λ body is. c.opened.ensures ∙ body_only_by body c.args.pickle.now c.requires is
