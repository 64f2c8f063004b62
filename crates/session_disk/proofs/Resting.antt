-- Disks that are made ready are at rest.
use Rattle.std.proofs.Common.{ℕ, List, refl, arith}
use Rattle.std.proofs.lemmas.Bool.Decides.{nat_tests}
use Rattle.session_disk.specs.Moments.{Moment, IsAtRest}
use Rattle.session_disk.specs.Recordings.{empty_moment, with_safe_file}

pub empty_moment_rests : IsAtRest empty_moment
empty_moment_rests = record { files = λ stamp file e. (grind arith, grind arith); none_removed = refl }

pub with_safe_file_rests : (stamp : ℕ) (bytes : List ℕ) (m : Moment) → IsAtRest m → IsAtRest (with_safe_file stamp bytes m)
with_safe_file_rests stamp bytes m rest = record {
  files = λ s file e. let others = rest.files s file in (grind (arith, nat_tests), grind (arith, nat_tests));
  none_removed = rest.none_removed;
}
