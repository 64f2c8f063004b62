-- What writing all of some bytes comes to.
use Rattle.std.proofs.Common.{ℕ, List, [], take, drop, Option, None, Some, Result, Ok, Err, refl}
use Rattle.std.proofs.lemmas.List.{take-append-drop}
use Rattle.session_disk.specs.declared.failure.Failed.{Failed}
use Rattle.session_disk.specs.Writing.{WritesAll}
use Rattle.report_lines.specs.Reports.{Reports}

pub reported : {T : Type 0} (before now : Option (List ℕ)) (bytes : List ℕ) (result : Result T Failed) → WritesAll before now bytes result → Reports before now bytes result
reported None now bytes (Ok x) h = h
reported None now bytes (Err e) h = (bytes, record { out = []; written = h; parts = refl })
reported (Some before) now bytes (Ok x) h = h
reported (Some before) now bytes (Err e) (n, within, h) =
    (drop n bytes, record { out = take n bytes; written = h; parts = take-append-drop n bytes })
