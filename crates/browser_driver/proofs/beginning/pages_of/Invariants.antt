use Rattle.std.proofs.Common.{◌≡◌, zero, take}
use Rattle.browser_model.specs.Browsers.{numbered}
use Rattle.browser_driver.proofs.beginning.pages_of.Given as goal

abbrev pub invariant-loop-index : goal.invariant-loop-index
invariant-loop-index l = l.pages ≡ numbered zero (take l.index l.shown)
