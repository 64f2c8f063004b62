use Rattle.std.proofs.Common.{rules, refl, arith}
use Rattle.file_reading.proofs.ReaderLaws.{left_within, left_held, left_at, left_ends, front_fits, front_of_file}
use Rattle.file_reading.proofs.reader.FrameReader.next.Goals as goal

pub returns : goal.returns
returns g c =
    let left = c.next.follows.holds-at-none in
    let front = c.next.ensures.first in
    let exactly = c.next.ensures.exactly in
    let filled = λ (modelled : g.D.SessionDisk.modelled). c.in_ok-fill.ensures.ends modelled (omega (arith, c.requires.reading.piece)) (c.requires.reading.known modelled).end in (
      (
        refl,
        (λ _. tt),
        record {
          reading = record {
            stamp = c.requires.reading.stamp;
            piece = search rules;
            within = left_within _ _ _ _ front left c.fill.ensures.within;
            end = c.requires.reading.end;
            known = λ modelled. record { end = (c.requires.reading.known modelled).end; held = left_held _ _ _ _ front left (c.fill.ensures.held modelled) };
          };
          stamp = refl;
          end = refl;
          moved = left_at _ _ _ _ c.fill.ensures.at exactly left;
          ended = λ modelled. left_ends _ _ _ _ exactly left (filled modelled);
        },
      ),
      record {
        first = λ modelled. front_of_file _ _ _ _ c.fill.ensures.at (c.fill.ensures.held modelled) front exactly (filled modelled);
        offset = search rules;
        fits = front_fits _ _ front;
        left = tt;
        unchanged = search rules;
        cause = search rules;
      },
    )
