use Rattle.std.proofs.Common.{length, ap, arith}
use Rattle.pickle_cells.specs.Cell.{string16, unit_bytes, padding}
use Rattle.pickle_cells.proofs.UnitLaws.{length-unit_bytes}
use Rattle.pickle_cells.proofs.ItemLaws.{counted_whole, length-counted}
use Rattle.pickle_cells.proofs.Room.{HasRoom-more, length-more}
use Rattle.pickle_cells.proofs.writer.PickleWriter.put_units.Goals as goal

pub invariant_of-self-2 : goal.invariant_of-self-2
invariant_of-self-2 c =
    HasRoom-more c.self.inside.bytes.items (string16 c.args.v.now) c.append_string16.new.out.items c.args.self.now c.self.invariant c.self.view_is (omega (arith, length-counted (length c.args.v.now) (unit_bytes c.args.v.now), length-unit_bytes c.args.v.now, ap padding (length-unit_bytes c.args.v.now))) (counted_whole (length c.args.v.now) (unit_bytes c.args.v.now)) c.in_ok-append_string16.ensures.written

pub returns-clause-len : goal.returns-clause-len
returns-clause-len c =
    let more = length-more c.self.inside.bytes.items (string16 c.args.v.now) c.append_string16.new.out.items c.args.self.now c.self.invariant c.self.view_is c.in_ok-append_string16.ensures.written in
    omega (arith, more, length-counted (length c.args.v.now) (unit_bytes c.args.v.now), length-unit_bytes c.args.v.now, ap padding (length-unit_bytes c.args.v.now))
