use Rattle.std.proofs.Common.{rules, arith}
use Rattle.file_reading.proofs.reader.FrameReader.new.Goals as goal

pub returns-clause-reading : goal.returns-clause-reading
returns-clause-reading g c = record {
  stamp = search rules;
  piece = search rules;
  within = search rules;
  end = search rules;
  known = λ modelled. record {
    end = omega (arith, c.max-end.ensures, c.requires.headed modelled, c.in_ok-length.ensures.value modelled);
    held = search rules;
  };
}

pub returns-clause-cause : goal.returns-clause-cause
returns-clause-cause g c = record { later = c.length.ensures.cause.later; failed = search rules }
