use Rattle.std.proofs.Common.{◌≡◌}
use Rattle.std.specs.String.{string_bytes}
use Rattle.script_lines.specs.Generated.{generated}
use Rattle.script_lines.proofs.GeneratorLaws.{state_before}
use Rattle.script_lines.proofs.generator.generated.Given as goal

abbrev pub invariant-loop-place : goal.invariant-loop-place
invariant-loop-place l = record {
  lines : string_bytes l.script ≡ generated l.x l.place;
  drawn : l.state ≡ state_before l.x l.place;
}
