-- The stamps in what is asked for.
use Rattle.std.specs.Prelude.{◌<◌, ◌^◌}
use Rattle.inspect_words.specs.declared.order.Order.{Order}
use Rattle.inspect_words.specs.declared.order.Order.TheVariants.{List, OfState, OfFile}

-- a stamp, where there is one, is below 2 ^ 63
abbrev pub HasStamp : Order → Type 0
HasStamp List = Unit {0}
HasStamp (OfState report) = Unit {0}
HasStamp (OfFile report family stamp) = stamp < 2 ^ 63
