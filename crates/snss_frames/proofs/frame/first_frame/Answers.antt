-- The size that the code reads is the size of the bytes; then what it tests is what begins a frame.
use Rattle.std.proofs.Common.{◌≡◌, sym, arith}
use Rattle.std.proofs.lemmas.List.{take_rest}
use Rattle.snss_frames.specs.Frame.{size_of}
use Rattle.snss_frames.proofs.FrameLaws.{size_of-read, begins_frame_from, begins_none_from, begins_none_short, begins_none_empty, begins_with_front}
use Rattle.snss_frames.proofs.frame.first_frame.Goals as goal
use Rattle.snss_frames.proofs.frame.first_frame.Goals.{then-size-eq0-via-then-size-eq0, then-size-eq0-via-else-size-eq0+then-size-body}

pub returns-in_default-clause-exactly : goal.returns-in_default-clause-exactly
returns-in_default-clause-exactly c = sym (begins_none_short c.args.rest.now (omega arith))

pub returns-then-size-eq0-clause-exactly : goal.returns-then-size-eq0-clause-exactly
returns-then-size-eq0-clause-exactly c =
    let size : size_of c.args.rest.now ≡ c.from_le_bytes-size.result = omega (arith, size_of-read c.args.rest.now, c.from_le_bytes-size.ensures) in
    sym (elim c.then-size-eq0.branch [
      | then-size-eq0-via-then-size-eq0 w ↦ begins_none_empty c.args.rest.now (omega arith)
      | then-size-eq0-via-else-size-eq0+then-size-body w ↦ begins_none_from c.args.rest.now (omega arith)
    ])

pub returns-clause-exactly : goal.returns-clause-exactly
returns-clause-exactly c =
    let size : size_of c.args.rest.now ≡ c.from_le_bytes-size.result = omega (arith, size_of-read c.args.rest.now, c.from_le_bytes-size.ensures) in
    sym (begins_frame_from c.args.rest.now (omega arith) (omega arith))

pub returns-clause-first : goal.returns-clause-first
returns-clause-first c =
    let size : c.from_le_bytes-size.result ≡ size_of c.args.rest.now = omega (arith, size_of-read c.args.rest.now, c.from_le_bytes-size.ensures) in
    rw (take_rest c.args.rest.now 3, size) (begins_with_front c.args.rest.now (λ k. omega (arith, c.type_inv.rest k)) (omega arith) (omega arith))
