use Rattle.std.proofs.Common.{◌≡◌, ◌++◌, take}
use Rattle.shown_texts.specs.Shown.{shown_units}
use Rattle.shown_texts.proofs.units.append_units.Given as goal

abbrev pub invariant-loop-unit : goal.invariant-loop-unit
invariant-loop-unit l = l.out.items ≡ l.fn.out.items ++ shown_units (take l.unit-index l.text)
