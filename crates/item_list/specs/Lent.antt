-- A vector as the logic holds it, for the clause on what a list lends.
use Rattle.std.specs.Borrow.{RattleType}
use Rattle.std.specs.contracts.alloc.Global as global
use Rattle.std.specs.contracts.vec.Vec as vec
use Rattle.std.specs.contracts.impls.GlobalAllocator.TheImpl.{ghosts}

abbrev pub vector_row : RattleType → RattleType
vector_row item = vec.the_row item global.the_row ghosts
