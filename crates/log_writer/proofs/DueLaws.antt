-- Whether a command makes a rotation due, by what the journal knows and by its account, and what the call then needs.
use Rattle.std.proofs.Common.{◌≡◌, ℕ, ◌+◌, ◌≤◌, Bool, true, false, List, length, Some, refl, sym, ap, ◌∙◌, arith}
use Rattle.std.proofs.lemmas.Bool.Decides.{nat_tests}
use Rattle.machine_law.specs.Kind.{Kind}
use Rattle.session_disk.specs.Moments.{Moment}
use Rattle.fresh_files.specs.Fresh.{fresh, frame_length}
use Rattle.log_writer.specs.Account.{Account, extended, rotated, written}
use Rattle.log_writer.specs.Account as account
use Rattle.log_writer.specs.Waiting.{Waiting, waiting_in, place_in}
use Rattle.log_writer.specs.Steps.{is_due, extent_behind, extent_before, needed}
use Rattle.log_writer.specs.Journals.{JournalRuns}
use Rattle.log_writer.specs.Answers.{Call, rotation, extension}
use Rattle.log_writer.specs.declared.journal.Extent.{Extent}
use Rattle.log_writer.specs.declared.journal.Present.{Present}
use Rattle.log_writer.specs.declared.limits.Limits.{Limits}
use Rattle.log_writer.specs.declared.pending.Pending.{Pending}
use Rattle.log_writer.proofs.WaitingLaws.{waiting_length}
use Rattle.log_writer.proofs.RoomLaws.{extent_known}

-- where none is due, one more command may stand
pub few_not_due : (limits : Limits) (extent : Extent) (size : ℕ) → 1 ≤ limits.every → is_due limits extent size ≡ false → extent.after + 1 ≤ limits.every
few_not_due limits extent size some e = grind (arith, nat_tests)

module _ {S C : Type 0} (kind : Kind S C) where
  -- the journal knows of its file what its account says
  pub due_same : (limits : Limits) (m : Moment) (present : Present S) (w : Waiting C) (a : Account S C) (first : S) (q : List C) → JournalRuns kind m present w a first q → (c : C) →
      is_due limits (extent_before kind present w c) (frame_length kind c) ≡ account.is_due kind limits.every limits.max_file a c
  due_same limits m present w a first q r c = ap (λ (e : Extent). is_due limits e (frame_length kind c)) (extent_known kind m present w a first q r c)

  -- what the test of a frame's length tells
  pub due_known : (limits : Limits) (extent : Extent) (c : C) (size : ℕ) (told known : Bool) → size ≡ frame_length kind c → told ≡ is_due limits extent size → told ≡ known → is_due limits extent (frame_length kind c) ≡ known
  due_known limits extent c size told known e is e' = ap (is_due limits extent) (sym e) ∙ sym is ∙ e'

  -- and behind what waited before its frame was drafted
  pub drafted_due : (limits : Limits) (present : Present S) (old drafted : Pending C) (c : C) (place : ℕ) (extent : Extent) (size : ℕ) (told known : Bool) →
      waiting_in drafted ≡ waiting_in old → drafted.whole ≡ old.whole → place ≡ place_in kind (waiting_in drafted) c → extent ≡ extent_behind present drafted.whole place → size ≡ frame_length kind c →
      told ≡ is_due limits extent size → told ≡ known → is_due limits (extent_before kind present (waiting_in old) c) (frame_length kind c) ≡ known
  drafted_due limits present old drafted c place extent size told known waits whole here behind e is e' =
      let same : extent ≡ extent_before kind present (waiting_in old) c =
      behind ∙ ap (λ (n : ℕ). extent_behind present n place) (whole ∙ sym (waiting_length old))
      ∙ ap (extent_behind present (length (waiting_in old).bytes)) (here ∙ ap (λ (w : Waiting C). place_in kind w c) waits) in
      due_known limits (extent_before kind present (waiting_in old) c) c size told known e (is ∙ ap (λ (x : Extent). is_due limits x size) same) e'

  pub written_due : (every max_file : ℕ) (a : Account S C) (c : C) → account.is_due kind every max_file a c ≡ true → rotated kind max_file a c ≡ written kind every max_file a c
  written_due every max_file a c e = sym (rw e refl)

  pub written_not_due : (every max_file : ℕ) (a : Account S C) (c : C) → account.is_due kind every max_file a c ≡ false → extended kind max_file a c ≡ written kind every max_file a c
  written_not_due every max_file a c e = sym (rw e refl)

  module _ (limits : Limits) (present : Present S) (w : Waiting C) (c : C) where
    -- the call of `write`, where this is known
    abbrev pub known_call : Call
    known_call = record { rotates = is_due limits (extent_before kind present w c) (frame_length kind c); needs = Some (needed kind limits present w c) }

    pub needed_due : is_due limits (extent_before kind present w c) (frame_length kind c) ≡ true → length (fresh kind present.state) + frame_length kind c ≡ needed kind limits present w c
    needed_due e = sym (rw e refl)

    pub needed_not_due : is_due limits (extent_before kind present w c) (frame_length kind c) ≡ false → (extent_before kind present w c).length + frame_length kind c ≡ needed kind limits present w c
    needed_not_due e = sym (rw e refl)

    pub call_due : is_due limits (extent_before kind present w c) (frame_length kind c) ≡ true → rotation (length (fresh kind present.state) + frame_length kind c) ≡ known_call
    call_due e = sym (rw e refl)

    pub call_not_due : is_due limits (extent_before kind present w c) (frame_length kind c) ≡ false → extension ((extent_before kind present w c).length + frame_length kind c) ≡ known_call
    call_not_due e = sym (rw e refl)
