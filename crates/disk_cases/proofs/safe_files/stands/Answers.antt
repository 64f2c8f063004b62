use Rattle.std.proofs.Common.{ℕ, Option, sym, ap, ◌∙◌}
use Rattle.std.specs.Option.{is_some}
use Rattle.session_disk.specs.Moments.{Standing}
use Rattle.disk_cases.proofs.safe_files.stands.Goals as goal

pub returns : goal.returns
returns c = c.is_among.ensures ∙ ap (λ (standing : ℕ → Option Standing). is_some (standing c.args.stamp)) (sym c.files.ensures.standing)
