use Rattle.decimals.proofs.DecimalLaws.{found, only}
use Rattle.decimals.proofs.read_decimal.Goals as goal

pub returns-clause-found : goal.returns-clause-found
returns-clause-found c = found _ _ c.number.ensures

pub returns-clause-none : goal.returns-clause-none
returns-clause-none c = only _ _ c.number.ensures
