use Rattle.std.proofs.Common.{◌≡◌, ◌%◌, length}
use Rattle.pickle_cells.specs.CellReading.{units_of}
use Rattle.pickle_cells.specs.PickleLayout.{Units, Takes}
use Rattle.navigation_entry.proofs.KeptLaws.{kept_holds, first_of}
use Rattle.navigation_entry.proofs.fields.Fields.units.Goals as goal

pub returns-clause-even : goal.returns-clause-even
returns-clause-even c =
    let even = first_of (λ text. length text.now % 2 ≡ 0) (λ text. Takes c.of_items-cursor.result (Units (units_of text.now)) c.units-value.new.self) c.units-value.result c.units-value.ensures.found in
    kept_holds (λ text. length text.now % 2 ≡ 0) c.args.self.now.reads c.args.self.now.left c.rest.result.now c.units-value.result c.keep.result even c.keep.ensures.value
