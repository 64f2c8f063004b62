-- What a call changes of that what a journal knows of its file.
use Rattle.std.specs.Prelude.{◌≡◌, ℕ, ◌+◌, ◌-◌, ◌^◌, min, nat_lt, Bool, if◌then◌else◌, length}
use Rattle.machine_law.specs.Kind.{Kind}
use Rattle.fresh_files.specs.Fresh.{fresh, frame_length}
use Rattle.log_writer.specs.Account.{is_due_at}
use Rattle.log_writer.specs.Waiting.{Waiting, place_in}
use Rattle.log_writer.specs.declared.journal.Extent.{Extent}
use Rattle.log_writer.specs.declared.journal.Present.{Present}
use Rattle.log_writer.specs.declared.limits.Limits.{Limits}

-- whether a frame of this length makes a rotation due behind so much
abbrev pub is_due : Limits → Extent → ℕ → Bool
is_due limits extent frame = is_due_at limits.every limits.max_file extent.after extent.length frame

-- without a frame that waits from this place to the end of all that waits
abbrev pub extent_behind : {S : Type 0} → Present S → ℕ → ℕ → Extent
extent_behind present whole place =
    if nat_lt place whole
    then record { after = present.after - 1; length = present.length - (whole - place) }
    else record { after = present.after; length = present.length }

module _ {S C : Type 0} (kind : Kind S C) where
  -- without the last frame that waits, where a command covers it
  abbrev pub extent_before : Present S → Waiting C → C → Extent
  extent_before present w command = extent_behind present (length w.bytes) (place_in kind w command)

  -- the length of the file that a command makes
  abbrev pub needed : Limits → Present S → Waiting C → C → ℕ
  needed limits present w command =
      let extent = extent_before present w command in
      (if is_due limits extent (frame_length kind command) then length (fresh kind present.state) else extent.length)
      + frame_length kind command

  -- One step, counted as far as 64 bits count; what was told is as before.
  pub record Stepped (old new : Present S) (command : C) : Type 0 where
    pub state : new.state ≡ kind.step old.state command
    pub count : new.count ≡ min (old.count + 1) (2 ^ 64 - 1)
    pub told : new.told ≡ old.told

  -- one step by a command whose frame comes behind so much
  pub record Takes (old new : Present S) (extent : Extent) (command : C) : Type 0 where
    pub stepped : Stepped old new command
    pub after : new.after ≡ extent.after + 1
    pub whole : new.length ≡ extent.length + frame_length kind command
    pub stamp : new.stamp ≡ old.stamp

-- The file is a fresh one of so many bytes, without commands since; state, count and what was told are as before.
pub record Restated {S : Type 0} (old new : Present S) (bytes : ℕ) : Type 0 where
  pub state : new.state ≡ old.state
  pub count : new.count ≡ old.count
  pub told : new.told ≡ old.told
  pub after : new.after ≡ 0
  pub whole : new.length ≡ bytes

-- the state, the count and what was told are as before
pub record Unstepped {S : Type 0} (old new : Present S) : Type 0 where
  pub state : new.state ≡ old.state
  pub count : new.count ≡ old.count
  pub told : new.told ≡ old.told
