-- The stamp of a fresh file.
use Rattle.std.specs.Prelude.{ℕ, ◌+◌, ◌-◌, ◌^◌, max, Option, None, Some, Result, Ok, Err, if◌then◌else◌, ◌==◌}
use Rattle.file_rotation.specs.declared.stamp.LastStamp.{LastStamp}

-- the larger of the moment and the greatest stamp plus 1, unless that stamp is the last one
abbrev pub fresh_stamp : ℕ → Option ℕ → Result ℕ LastStamp
fresh_stamp now None = Ok now
fresh_stamp now (Some greatest) = if greatest == 2 ^ 63 - 1 then Err (record { 0 = greatest }) else Ok (max now (greatest + 1))
