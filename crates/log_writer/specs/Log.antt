-- A journal as contracts see it, and for which commands it works.
use Rattle.std.specs.Prelude.{◌≡◌, ℕ, true, List, Option, None, Some, Result, OnOk}
use Rattle.machine_law.specs.Kind.{Kind}
use Rattle.machine_law.specs.declared.machine.Machine as machine
use Rattle.session_disk.specs.declared.disk.SessionDisk as disk
use Rattle.session_disk.specs.Histories.{History, Leaves}
use Rattle.session_disk.specs.Moments.{Standing, Moment, IsAtRest}
use Rattle.session_disk.specs.Images.{Image, as_it_reads}
use Rattle.file_rotation.specs.Foreign.{is_foreign}
use Rattle.file_rotation.specs.Recovery.{IsGood}
use Rattle.log_writer.specs.Account.{Account, Outcome}
use Rattle.log_writer.specs.Waiting.{Waiting, waiting_in}
use Rattle.log_writer.specs.Journals.{JournalRuns, JournalFollows, JournalMakesRoom}
use Rattle.log_writer.specs.declared.journal.Journal.{Journal}
use Rattle.log_writer.specs.declared.journal.Present.{Present}
use Rattle.log_writer.specs.declared.limits.Limits.{Limits}
use Rattle.log_writer.specs.declared.fault.First.{First}
use Rattle.log_writer.specs.declared.fault.JournalFault.{JournalFault}

-- what a journal has and knows, without how it is stored
pub record Log (S C : Type 0) : Type 0 where
  pub history : History
  pub failures : ℕ
  pub limits : Limits
  pub failed : Option First
  pub present : Present S
  pub waiting : Waiting C

-- each foreign file of a moment is in an image, with its bytes
abbrev pub KeepsForeign : Moment → Image → Type 0
KeepsForeign m image = (s : ℕ) (file : Standing) → m.standing s ≡ Some file → is_foreign file.bytes ≡ true → image s ≡ Some file.bytes

-- a crash left what is good for these commands, and every foreign file of a moment
abbrev pub IsLeft : {S C : Type 0} → Kind S C → Moment → S → List C → ℕ → Image → Type 0
IsLeft kind m first q told image = IsGood kind first q told image × KeepsForeign m image

module _ {M D S C : Type 0} {m : machine.Ghosts M S C} {d : disk.Ghosts D} where
  abbrev pub log : Journal M D S C m d → Log S C
  log j = record {
    history = d.history j.disk;
    failures = d.failed j.disk;
    limits = j.limits;
    failed = j.failed;
    present = j.present;
    waiting = waiting_in j.pending;
  }

  -- On a modelled disk, a journal that hasn't failed meets P for each account, first state and list of commands that
  -- it stands for.
  abbrev pub WhereRuns : Journal M D S C m d → (S → List C → Account S C → Type 0) → Type 0
  WhereRuns j P = d.modelled → j.failed ≡ None → (first : S) (q : List C) (a : Account S C) →
      JournalRuns m.kind (d.history j.disk).now j.present (waiting_in j.pending) a first q → P first q a

  -- a crash at any moment of a call leaves what is good for these commands, and every foreign file
  abbrev pub LeavesGood : Journal M D S C m d → Journal M D S C m d → S → List C → Account S C → Type 0
  LeavesGood old new first q a =
      Leaves (d.history old.disk) (d.history new.disk) (IsLeft m.kind (d.history old.disk).now first q)

  -- unless the journal has failed, every foreign file stands as it stood
  abbrev pub HasForeign : Journal M D S C m d → Journal M D S C m d → S → List C → Account S C → Type 0
  HasForeign old new first q a =
      new.failed ≡ None → KeepsForeign (d.history old.disk).now (as_it_reads (d.history new.disk).now)

  -- After Ok the journal works for the outcome's account and these commands more; after a refusal as before.
  abbrev pub GoesOn : {T : Type 0} → Journal M D S C m d → Journal M D S C m d → (Account S C → Outcome S C) → List C
      → Result T JournalFault → S → List C → Account S C → Type 0
  GoesOn old new outcome more result first q a =
      JournalFollows m.kind (d.history old.disk).now new.failed (d.history new.disk).now new.present
      (waiting_in new.pending) a (outcome a) first q more result

  -- After Ok the journal has room for a command, by which it comes to the outcome; after a refusal as before.
  abbrev pub MakesRoom : {T : Type 0} → Journal M D S C m d → Journal M D S C m d → (Account S C → Outcome S C) → C
      → Result T JournalFault → S → List C → Account S C → Type 0
  MakesRoom old new outcome command result first q a =
      JournalMakesRoom m.kind (d.history old.disk).now new.failed (d.history new.disk).now new.present
      (waiting_in new.pending) a (outcome a) command first q result

  -- at rest after Ok
  abbrev pub RestsAfter : {T : Type 0} → Journal M D S C m d → Result T JournalFault → S → List C → Account S C → Type 0
  RestsAfter new result first q a = OnOk result (IsAtRest (d.history new.disk).now)
