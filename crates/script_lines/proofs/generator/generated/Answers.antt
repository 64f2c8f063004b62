use Rattle.std.proofs.Common.{◌/◌, ◌^◌, refl, ap, ◌∙◌, ◌++◌}
use Rattle.script_lines.specs.Generated.{line_for}
use Rattle.script_lines.proofs.GeneratorLaws.{state-drawn, state-more, generated-none, generated-more}
use Rattle.script_lines.proofs.generator.generated.Goals as goal

pub loop-place-init : goal.loop-place-init
loop-place-init c = record { lines = c.in_ok-script.ensures.bytes ∙ generated-none c.args.x; drawn = refl }

pub loop-place-preserved : goal.loop-place-preserved
loop-place-preserved c =
    let state = c.next_state-state.ensures ∙ state-drawn c.args.x c.loop-place.place c.loop-place.state c.loop-place.invariant.drawn in
    record {
      lines = c.in_ok-push_line.ensures ∙ ap (λ said. said ++ line_for c.loop-place.place (c.next_state-state.result / 2 ^ 33)) c.loop-place.invariant.lines
          ∙ generated-more c.args.x c.loop-place.place _ state;
      drawn = state-more c.args.x c.loop-place.place _ state;
    }
