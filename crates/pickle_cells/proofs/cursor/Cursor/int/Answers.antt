use Rattle.pickle_cells.specs.CellReading.{int_at}
use Rattle.pickle_cells.specs.PickleLayout.{Int, Takes}
use Rattle.pickle_cells.proofs.Calls.{fits_by, found_by, only_by}
use Rattle.pickle_cells.proofs.ItemLaws.{int_found, int_only}
use Rattle.pickle_cells.proofs.cursor.Cursor.int.Goals as goal

pub returns-clause-found : goal.returns-clause-found
returns-clause-found c =
    let fits = fits_by _ _ c.args.self.now c.self.view_is c.known.ensures in
    found_by (λ v. v) (λ v new. Takes c.args.self.now (Int v) new) c.args.self.now c.next_int.new.self (int_at c.args.self.now) c.next_int.result (λ v new e. int_found c.args.self.now v new fits e) c.next_int.ensures.exact

pub returns-clause-only : goal.returns-clause-only
returns-clause-only c = λ v rest takes. only_by (λ v. v) c.args.self.now c.next_int.new.self (int_at c.args.self.now) c.next_int.result v rest (int_only c.args.self.now v rest takes) c.next_int.ensures.exact
