-- A fresh file that is built frame by frame: what the bytes so far and the commands that are left make together.
use Rattle.std.proofs.Common.{◌≡◌, ℕ, ◌+◌, ◌≤◌, ◌<◌, List, ◌++◌, length, drop, get_or, append_assoc, sym, ap, ◌∙◌, subst}
use Rattle.std.proofs.lemmas.List.{append-nil, drop_all, drop_more}
use Rattle.std.specs.List.{AllByRecursion}
use Rattle.snss_frames.specs.Header.{header}
use Rattle.snss_frames.specs.Frame.{frame_bytes, marker}
use Rattle.snss_frames.specs.declared.header.Version.TheVariants.{Three}
use Rattle.machine_law.specs.Kind.{Kind}
use Rattle.fresh_files.specs.Fresh.{frame_of, frames, fresh, IsWritten}

module _ {S C : Type 0} (kind : Kind S C) (IsCommand : C → Type 0) (commands : List C) where
  -- the commands from this place on are left
  pub record Builds (bytes : List ℕ) (place : ℕ) : Type 0 where
    pub made : bytes ++ frames kind (drop place commands) ≡ header Three ++ frames kind commands
    pub sound : AllByRecursion IsCommand (drop place commands)
    pub written : AllByRecursion (IsWritten kind) (drop place commands) → AllByRecursion (IsWritten kind) commands

  pub builds_none : (bytes : List ℕ) → bytes ≡ header Three → AllByRecursion IsCommand commands → Builds bytes 0
  builds_none bytes e sound = record {
    made = ap (λ (x : List ℕ). x ++ frames kind commands) e;
    sound = sound;
    written = λ h. h;
  }

  -- the next command is one that can be written
  pub builds_sound : (bytes : List ℕ) (place : ℕ) (d : C) → place < length commands → Builds bytes place → IsCommand (get_or commands place d)
  builds_sound bytes place d within b = (subst (AllByRecursion IsCommand) (drop_more commands place d within) b.sound).0

  -- one command further
  pub builds_more : (bytes new : List ℕ) (place : ℕ) (d : C) → place < length commands → Builds bytes place →
      new ≡ bytes ++ frame_bytes (frame_of kind (get_or commands place d)) → IsWritten kind (get_or commands place d) → Builds new (place + 1)
  builds_more bytes new place d within b grown is =
      let here = drop_more commands place d within in
      let rest = drop (place + 1) commands in
      record {
        made = ap (λ (x : List ℕ). x ++ frames kind rest) grown
            ∙ append_assoc bytes (frame_bytes (frame_of kind (get_or commands place d))) (frames kind rest)
            ∙ ap (λ (x : List C). bytes ++ frames kind x) (sym here) ∙ b.made;
        sound = (subst (AllByRecursion IsCommand) here b.sound).1;
        written = λ h. b.written (subst (AllByRecursion (IsWritten kind)) (sym here) (is, h));
      }

  none_left : (bytes : List ℕ) (place : ℕ) → length commands ≤ place → Builds bytes place → bytes ≡ header Three ++ frames kind commands
  none_left bytes place all b =
      sym (append-nil bytes) ∙ ap (λ (x : List C). bytes ++ frames kind x) (sym (drop_all place commands all)) ∙ b.made

-- all commands and the marker
module _ {S C : Type 0} (kind : Kind S C) (IsCommand : C → Type 0) (state : S) (commands : List C) where
  pub builds_fresh : (bytes new : List ℕ) (place : ℕ) → commands ≡ kind.compaction state → length commands ≤ place → Builds kind IsCommand commands bytes place →
      new ≡ bytes ++ frame_bytes marker → new ≡ fresh kind state
  unfolding fresh
  builds_fresh bytes new place e all b grown =
      grown ∙ ap (λ (x : List ℕ). x ++ frame_bytes marker) (none_left kind IsCommand commands bytes place all b)
      ∙ append_assoc (header Three) (frames kind commands) (frame_bytes marker)
      ∙ ap (λ (x : List C). header Three ++ (frames kind x ++ frame_bytes marker)) e

  pub all_written : (bytes : List ℕ) (place : ℕ) → commands ≡ kind.compaction state → length commands ≤ place → Builds kind IsCommand commands bytes place →
      AllByRecursion (IsWritten kind) (kind.compaction state)
  all_written bytes place e all b =
      subst (AllByRecursion (IsWritten kind)) e (b.written (subst (AllByRecursion (IsWritten kind)) (sym (drop_all place commands all)) tt))
