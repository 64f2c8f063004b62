use Rattle.std.proofs.Common.{◌≡◌, ◌%◌, length}
use Rattle.pickle_cells.specs.Cell.{unit_bytes}
use Rattle.pickle_cells.specs.CellReading.{string16_at, units_of}
use Rattle.pickle_cells.specs.PickleLayout.{Units, Takes}
use Rattle.pickle_cells.proofs.Calls.{fits_by, found_by, only_by}
use Rattle.pickle_cells.proofs.ItemLaws.{string16_whole, string16_found, string16_only}
use Rattle.pickle_cells.proofs.cursor.Cursor.units.Goals as goal

pub returns-clause-found : goal.returns-clause-found
returns-clause-found c =
    let fits = fits_by _ _ c.args.self.now c.self.view_is c.known.ensures in
    found_by (λ v. v.now) (λ v new. (length v % 2 ≡ 0) × Takes c.args.self.now (Units (units_of v)) new) c.args.self.now c.next_counted.new.self (string16_at c.args.self.now) c.next_counted.result
    (λ v new e. ((string16_whole c.args.self.now v new fits e).0, string16_found c.args.self.now v new fits e)) c.next_counted.ensures.exact

pub returns-clause-only : goal.returns-clause-only
returns-clause-only c = λ v rest takes. only_by (λ v. v.now) c.args.self.now c.next_counted.new.self (string16_at c.args.self.now) c.next_counted.result (unit_bytes v) rest (string16_only c.args.self.now v rest takes) c.next_counted.ensures.exact
