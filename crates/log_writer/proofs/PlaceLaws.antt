-- Where the frame of a command goes when what waits in front of it was appended, and what waits when it is taken.
use Rattle.std.proofs.Common.{◌≡◌, ℕ, ◌-◌, ◌≤◌, Bool, true, false, nat_lt, List, ◌++◌, length, take, drop, Option, Some, None, refl, ap, ◌∙◌, inl, inr, arith}
use Rattle.std.proofs.lemmas.Bool.{cases_lt}
use Rattle.std.proofs.lemmas.Bool.Decides.{nat_tests}
use Rattle.std.proofs.lemmas.List.{length-drop, take-append-le, drop_at}
use Rattle.snss_frames.specs.Frame.{frame_bytes}
use Rattle.machine_law.specs.Kind.{Kind}
use Rattle.fresh_files.specs.Fresh.{frame_of}
use Rattle.log_writer.specs.Pending.{IsLastWithin}
use Rattle.log_writer.specs.Waiting.{Waiting, behind, covers_last, place_in, taken_at}
use Rattle.log_writer.specs.Steps.{extent_behind, extent_before}
use Rattle.log_writer.specs.declared.journal.Present.{Present}
use Rattle.log_writer.specs.declared.pending.LastFrame.{LastFrame}

-- as much stands in front of a place, also where all before it was appended
extent_moved : {S : Type 0} (present : Present S) (whole place : ℕ) → extent_behind present (whole - place) 0 ≡ extent_behind present whole place
extent_moved present whole place = elim (cases_lt place whole) [
  | inl less ↦
      let there : nat_lt place whole ≡ true = grind (arith, nat_tests) in
      let here : nat_lt 0 (whole - place) ≡ true = grind (arith, nat_tests) in
      let same : whole - place - 0 ≡ whole - place = omega arith in
      rw (here, there, same) refl
  | inr more ↦
      let there : nat_lt place whole ≡ false = grind (arith, nat_tests) in
      let here : nat_lt 0 (whole - place) ≡ false = grind (arith, nat_tests) in
      rw (here, there) refl
]

abbrev waits : {C : Type 0} → List ℕ → Option (LastFrame C) → Waiting C
waits bytes last = record { bytes = bytes; last = last }

module _ {S C : Type 0} (kind : Kind S C) where
  placed : (bytes : List ℕ) (last : Option (LastFrame C)) (c : C) (covers : Bool) → covers_last kind last c ≡ covers → IsLastWithin (length bytes) last →
      place_in kind (behind (place_in kind (waits bytes last) c) (waits bytes last)) c ≡ 0
  placed bytes None c covers e within = omega (arith, length-drop (length bytes) bytes)
  placed bytes (Some last) c false e within =
      let less : nat_lt last.place (length bytes) ≡ true = grind (arith, nat_tests) in
      rw (e, less) (omega (arith, length-drop (length bytes) bytes))
  placed bytes (Some last) c true e within =
      let none : nat_lt last.place last.place ≡ false = grind (arith, nat_tests) in
      rw (e, none, e) (omega arith)

  -- the command is the first where what waits in front of it was appended
  pub place_behind : (w : Waiting C) (c : C) → IsLastWithin (length w.bytes) w.last → place_in kind (behind (place_in kind w c) w) c ≡ 0
  place_behind w c within = placed w.bytes w.last c (covers_last kind w.last c) refl within

  -- and there is as much in front of it
  pub extent_behind_same : (present : Present S) (w : Waiting C) (c : C) → IsLastWithin (length w.bytes) w.last → extent_before kind present (behind (place_in kind w c) w) c ≡ extent_before kind present w c
  extent_behind_same present w c within =
      ap (extent_behind present (length (drop (place_in kind w c) w.bytes))) (place_behind w c within)
      ∙ ap (λ (n : ℕ). extent_behind present n 0) (length-drop (place_in kind w c) w.bytes) ∙ extent_moved present (length w.bytes) (place_in kind w c)

  -- a frame that was drafted behind what waits, and is taken at its place
  pub taken_in : (w left : Waiting C) (c : C) (place whole : ℕ) (bytes : List ℕ) → bytes ≡ w.bytes ++ frame_bytes (frame_of kind c) → whole ≡ length w.bytes → place ≤ whole →
      left.bytes ≡ take place bytes ++ drop whole bytes → left.last ≡ Some (record { place = place; command = c }) → left ≡ taken_at kind place c w
  taken_in w left c place whole bytes drafted size within is last =
      let frame = frame_bytes (frame_of kind c) in
      let front : take place bytes ≡ take place w.bytes = ap (take place) drafted ∙ take-append-le place w.bytes frame (omega (arith, size, within)) in
      let back : drop whole bytes ≡ frame = ap (drop whole) drafted ∙ drop_at w.bytes frame whole (omega (arith, size)) in
      let all : left.bytes ≡ take place w.bytes ++ frame = is ∙ ap (λ (x : List ℕ). x ++ drop whole bytes) front ∙ ap (λ (x : List ℕ). take place w.bytes ++ x) back in
      λ i. record { bytes = all i; last = last i }
