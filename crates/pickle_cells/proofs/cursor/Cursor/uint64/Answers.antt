use Rattle.pickle_cells.specs.CellReading.{uint64_at}
use Rattle.pickle_cells.specs.PickleLayout.{Uint64, Takes}
use Rattle.pickle_cells.proofs.Calls.{fits_by, found_by, only_by}
use Rattle.pickle_cells.proofs.ItemLaws.{uint64_found, uint64_only}
use Rattle.pickle_cells.proofs.cursor.Cursor.uint64.Goals as goal

pub returns-clause-found : goal.returns-clause-found
returns-clause-found c =
    let fits = fits_by _ _ c.args.self.now c.self.view_is c.known.ensures in
    found_by (λ v. v) (λ v new. Takes c.args.self.now (Uint64 v) new) c.args.self.now c.next_uint64.new.self (uint64_at c.args.self.now) c.next_uint64.result (λ v new e. uint64_found c.args.self.now v new fits e) c.next_uint64.ensures.exact

pub returns-clause-only : goal.returns-clause-only
returns-clause-only c = λ v rest takes. only_by (λ v. v) c.args.self.now c.next_uint64.new.self (uint64_at c.args.self.now) c.next_uint64.result v rest (uint64_only c.args.self.now v rest takes) c.next_uint64.ensures.exact
