-- A walk over the frames of a file that makes a line of each.
use Rattle.std.proofs.Common.{◌≡◌, ℕ, ◌+◌, false, List, [], ◌∷◌, ◌++◌, length, drop, append_assoc, Option, Result, Ok, Err, IsErr, refl, sym, ap, ◌∙◌}
use Rattle.std.proofs.lemmas.List.{append-nil}
use Rattle.snss_frames.specs.Frame.{Frame, BeginsWith, begins_frame}
use Rattle.snss_frames.specs.Reading.{Reads, ending_at}
use Rattle.session_disk.specs.declared.family.Family.{Family}
use Rattle.report_lines.specs.Reports.{IsUnderway, WrotePrefix, Adds}
use Rattle.report_lines.proofs.ReportLaws.{begun, made, sent, stopped, goes_on}
use Rattle.file_reports.specs.FileTexts.{last_line}
use Rattle.file_reports.specs.Lines.{frame_line, frame_lines, ending_line}
use Rattle.file_reports.proofs.WalkLaws.{Ahead, ahead_first, ahead_more, ahead_none, ends_at}
use Rattle.file_reports.proofs.ReportLaws.{commands_text, adds_behind, adds_failed}

-- behind a text the lines of the frames ahead make up those of all frames, behind what waited at the beginning
abbrev pub Completes : Family → List ℕ → List ℕ → ℕ → List Frame → List Frame → Type 0
Completes family old text at frames all = text ++ frame_lines family at frames ≡ old ++ frame_lines family 8 all

completes_more : (family : Family) (old text : List ℕ) (at : ℕ) (f : Frame) (later all : List Frame) → Completes family old text at (f ∷ later) all →
    Completes family old (text ++ frame_line family at f) (at + (3 + length f.payload)) later all
unfolding frame_lines
completes_more family old text at f later all e = append_assoc text (frame_line family at f) (frame_lines family (at + (3 + length f.payload)) later) ∙ e

completes_all : (family : Family) (old text : List ℕ) (at : ℕ) (all : List Frame) → Completes family old text at [] all → text ≡ old ++ frame_lines family 8 all
unfolding frame_lines
completes_all family old text at all e = sym (append-nil text) ∙ e

-- this text was made, and the frames ahead complete it
pub record Walked (family : Family) (before now : Option (List ℕ)) (old waiting bytes : List ℕ) (at : ℕ) : Type 0 where
  pub text : List ℕ
  pub underway : IsUnderway before now waiting text
  pub ahead : Ahead (Completes family old text at) bytes at

pub walked_first : (family : Family) (before : Option (List ℕ)) (old bytes : List ℕ) → Walked family before before old old bytes 8
walked_first family before old bytes = record {
  text = old;
  underway = begun before old;
  ahead = ahead_first (Completes family old old 8) bytes (λ all. refl);
}

module _ (family : Family) (before now : Option (List ℕ)) (old waiting bytes : List ℕ) (at : ℕ) (w : Walked family before now old waiting bytes at) where
  -- the line of a frame was made
  pub walked_more : (longer : List ℕ) (f : Frame) → BeginsWith (drop at bytes) f → longer ≡ waiting ++ frame_line family at f → Walked family before now old longer bytes (at + (3 + length f.payload))
  walked_more longer f b e = record {
    text = w.text ++ frame_line family at f;
    underway = rw e (made before now waiting w.text (frame_line family at f) w.underway);
    ahead = ahead_more (Completes family old w.text at) (Completes family old (w.text ++ frame_line family at f) (at + (3 + length f.payload))) bytes at (at + (3 + length f.payload)) f b refl (completes_more family old w.text at f) w.ahead;
  }

  -- whole pieces were sent
  pub walked_sent : (later : Option (List ℕ)) (left : List ℕ) → IsUnderway now later left waiting → Walked family before later old left bytes at
  walked_sent later left u = record { text = w.text; underway = sent before now later waiting w.text left w.underway u; ahead = w.ahead }

  -- the report stops
  pub walked_cut : {T E : Type 0} (later : Option (List ℕ)) (new : List ℕ) (result : Result T E) → IsErr result → WrotePrefix now later waiting →
      (all : List Frame) (rest : List ℕ) → Reads (drop 8 bytes) all rest → Adds before later old new (commands_text family all rest) result
  walked_cut later new (Ok x) err cut all rest reads = absurd cc
  walked_cut later new (Err e) err cut all rest reads =
      let a = w.ahead all rest reads in
      let lines : w.text ++ frame_lines family at a.frames ≡ old ++ frame_lines family 8 all = a.holds in
      let last = last_line all rest in
      goes_on before later w.text (frame_lines family at a.frames ++ last) (old ++ commands_text family all rest)
      (sym (append_assoc w.text (frame_lines family at a.frames) last) ∙ ap (λ (x : List ℕ). x ++ last) lines ∙ append_assoc old (frame_lines family 8 all) last)
      (stopped before now later waiting w.text w.underway cut)

  -- the last line behind all
  pub walked_ended : {T E : Type 0} (later : Option (List ℕ)) (new : List ℕ) (result : Result T E) → begins_frame (drop at bytes) ≡ false → Adds now later waiting new (ending_line (ending_at at (drop at bytes))) result →
      (all : List Frame) (rest : List ℕ) → Reads (drop 8 bytes) all rest → Adds before later old new (commands_text family all rest) result
  walked_ended later new result none adds all rest reads =
      let done = ahead_none (Completes family old w.text at) bytes at none w.ahead all rest reads in
      let last = ends_at (ending_at at (drop at bytes)) at (drop at bytes) rest all refl done in
      adds_behind before now later old waiting new (frame_lines family 8 all) _ result (rw (completes_all family old w.text at all done.0) at w.underway) (rw last at adds)

  pub walked_failed : {T E : Type 0} (later : Option (List ℕ)) (new : List ℕ) (result : Result T E) → IsErr result → begins_frame (drop at bytes) ≡ false → WrotePrefix now later (waiting ++ ending_line (ending_at at (drop at bytes))) →
      (all : List Frame) (rest : List ℕ) → Reads (drop 8 bytes) all rest → Adds before later old new (commands_text family all rest) result
  walked_failed later new result err none cut = walked_ended later new result none (adds_failed now later waiting new (ending_line (ending_at at (drop at bytes))) result err cut)

  pub walked_done : (later : Option (List ℕ)) (new : List ℕ) → begins_frame (drop at bytes) ≡ false → IsUnderway now later new (waiting ++ ending_line (ending_at at (drop at bytes))) →
      (all : List Frame) (rest : List ℕ) → Reads (drop 8 bytes) all rest → IsUnderway before later new (old ++ commands_text family all rest)
  walked_done later new none adds all rest reads = walked_ended {T = Unit {0}} {E = Unit {0}} later new (Ok tt) none adds all rest reads
