use Rattle.pickle_cells.specs.CellReading.{string_at}
use Rattle.pickle_cells.specs.PickleLayout.{Text, Takes}
use Rattle.pickle_cells.proofs.Calls.{fits_by, found_by, only_by}
use Rattle.pickle_cells.proofs.ItemLaws.{string_found, string_only}
use Rattle.pickle_cells.proofs.cursor.Cursor.bytes.Goals as goal

pub returns-clause-found : goal.returns-clause-found
returns-clause-found c =
    let fits = fits_by _ _ c.args.self.now c.self.view_is c.known.ensures in
    found_by (λ v. v.now) (λ v new. Takes c.args.self.now (Text v) new) c.args.self.now c.next_counted.new.self (string_at c.args.self.now) c.next_counted.result (λ v new e. string_found c.args.self.now v new fits e) c.next_counted.ensures.exact

pub returns-clause-only : goal.returns-clause-only
returns-clause-only c = λ v rest takes. only_by (λ v. v.now) c.args.self.now c.next_counted.new.self (string_at c.args.self.now) c.next_counted.result v rest (string_only c.args.self.now v rest takes) c.next_counted.ensures.exact
