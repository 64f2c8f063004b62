use Rattle.std.proofs.Common.{length, arith}
use Rattle.pickle_cells.specs.Cell.{string}
use Rattle.pickle_cells.proofs.ItemLaws.{counted_whole, length-counted}
use Rattle.pickle_cells.proofs.Room.{HasRoom-more, length-more}
use Rattle.pickle_cells.proofs.writer.PickleWriter.put_bytes.Goals as goal

pub invariant_of-self-2 : goal.invariant_of-self-2
invariant_of-self-2 c =
    HasRoom-more c.self.inside.bytes.items (string c.args.v.now) c.append_string.new.out.items c.args.self.now c.self.invariant c.self.view_is (omega (arith, length-counted (length c.args.v.now) c.args.v.now)) (counted_whole (length c.args.v.now) c.args.v.now) c.in_ok-append_string.ensures.written

pub returns-clause-len : goal.returns-clause-len
returns-clause-len c =
    let more = length-more c.self.inside.bytes.items (string c.args.v.now) c.append_string.new.out.items c.args.self.now c.self.invariant c.self.view_is c.in_ok-append_string.ensures.written in
    omega (arith, more, length-counted (length c.args.v.now) c.args.v.now)
