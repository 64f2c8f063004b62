-- The lines that a run prints, and those of syncs among them, of which each says no more than was told.
use Rattle.std.proofs.Common.{◌≡◌, ◌⊎◌, ℕ, ◌<◌, ◌≤◌, ◌^◌, ℤ, eqb, false, List, [], ◌∷◌, ◌++◌, drop, get_or, codes, decimal}
use Rattle.std.proofs.Common.{append_assoc, refl, sym, ap, ◌∙◌, subst, inl, inr, arith}
use Rattle.std.proofs.lemmas.List.{take-append-drop}
use Rattle.std.specs.Fmt.{signed_decimal}
use Rattle.std.specs.List.{AllByRecursion, list_any}
use Rattle.session_disk.specs.declared.family.Family.{Family}
use Rattle.session_disk.specs.declared.family.Family.TheVariants.{Session, Tabs}
use Rattle.script_lines.specs.Faults.{fault_word}
use Rattle.script_lines.specs.Lines.{Lacks}
use Rattle.script_lines.specs.declared.fault.LineFault.{LineFault}
use Rattle.script_lines.specs.declared.fault.LineFault.TheVariants.{LongLine, Utf8, UnknownVerb, Arguments, Number}
use Rattle.browser_driver.specs.declared.fault.VerbFault.{VerbFault}
use Rattle.browser_driver.specs.declared.fault.VerbFault.TheVariants.{NoWindow, NoTab, Taken, NoBack, NoForward, NoPage}
use Rattle.browser_driver.specs.declared.fault.VerbFault.TheVariants.{Place, Full}
use Rattle.run_words.specs.declared.lines.Counts.{Counts}
use Rattle.run_words.specs.declared.status.Long.{Long}
use Rattle.run_words.specs.declared.status.Long.TheVariants.{Script, File}
use Rattle.run_words.specs.declared.status.Status.{Status}
use Rattle.run_words.specs.declared.status.Status.TheVariants.{Done, Usage, Refused, LastStamp, Disk, Read, Write}
use Rattle.run_words.specs.declared.status.Status.TheVariants.{TooLong, Memory}
use Rattle.run_words.specs.declared.why.Why.{Why}
use Rattle.run_words.specs.declared.why.Why.TheVariants.{Line, Verb}
use Rattle.run_words.specs.Outcome.{IsPrefix, family_name, last_line, long_name, start_line, sync_line, verb_word}
use Rattle.run_words.specs.Outcome.{why_word}
use Rattle.script_run.specs.SyncLines.{AreTold, SaysTold, sync_lines}
use Rattle.session_drive.specs.Telling.{SyncsTold}
use Rattle.session_drive.proofs.LineLaws.{AreLines, decimal-lacks, joined, joined-append, lacks-append, lacks-text}
use Rattle.session_drive.proofs.LineLaws.{line-behind, line-first, signed-lacks, sync-lacks, sync-numbers, sync_text}

-- a text that is one line, with its line feed
abbrev IsLine : List ℕ → Type 0
IsLine text = (line : List ℕ) × Lacks 10 line × (text ≡ line ++ 10 ∷ [])

end-line : IsLine (codes "\n")
end-line = ([], tt, refl)

line-behind-part : (first text : List ℕ) → Lacks 10 first → IsLine text → IsLine (first ++ text)
line-behind-part first text lacks (line, own, is) = (
  first ++ line,
  lacks-append 10 first line lacks own,
  ap (λ x. first ++ x) is ∙ sym (append_assoc first line (10 ∷ [])),
)

behind-text : (first text : List ℕ) → list_any (λ b. eqb b 10) first ≡ false → IsLine text → IsLine (first ++ text)
behind-text first text none line = line-behind-part first text (lacks-text 10 first none) line

behind-decimal : (n : ℕ) (text : List ℕ) → IsLine text → IsLine (decimal n ++ text)
behind-decimal n text line = line-behind-part (decimal n) text (decimal-lacks 10 (omega arith) n) line

sync-line : (s t : ℕ) → sync_line s t ≡ sync_text s t ++ 10 ∷ []
sync-line s t = ap (λ x. codes "sync " ++ x) (sym (append_assoc (decimal s) (codes " " ++ decimal t) (10 ∷ [])))

-- the numbers of a sync whose line this is, without its end, are told
abbrev pub Fits : (Family → ℕ) → List ℕ → Type 0
Fits told line = (s t : ℕ) → s < 2 ^ 64 → t < 2 ^ 64 → line ≡ sync_text s t → (s ≤ told Session) × (t ≤ told Tabs)

-- a text of lines that fit
abbrev pub FitsAll : (Family → ℕ) → List ℕ → Type 0
FitsAll told text = (lines : List (List ℕ)) × AreLines (Fits told) lines × (text ≡ joined lines)

module _ (told : Family → ℕ) where
  pub fits-none : FitsAll told []
  fits-none = ([], tt, refl)

  lines-then : (xs ys : List (List ℕ)) → AreLines (Fits told) xs → AreLines (Fits told) ys
      → AreLines (Fits told) (xs ++ ys)
  lines-then [] ys one two = two
  lines-then (x ∷ xs) ys one two = (one.0, lines-then xs ys one.1 two)

  pub fits-then : (text more : List ℕ) → FitsAll told text → FitsAll told more → FitsAll told (text ++ more)
  fits-then text more one two = (
    one.0 ++ two.0,
    lines-then one.0 two.0 one.1 two.1,
    ap (λ x. x ++ more) one.2 ∙ ap (λ x. joined one.0 ++ x) two.2 ∙ sym (joined-append one.0 two.0),
  )

  -- a line that isn't one of a sync: its second byte is another one
  fits-other : (text : List ℕ) → IsLine text → (get_or text 1 0 ≡ 121 → ⊥) → FitsAll told text
  fits-other text (line, lacks, is) other = (
    line ∷ [],
    ((lacks, λ s t a b e. absurd (other (ap (λ x. get_or x 1 0) (is ∙ ap (λ x. x ++ 10 ∷ []) e)))), tt),
    is,
  )

  pub fits-start : (counts : Counts) → FitsAll told (start_line counts)
  fits-start counts =
      fits-other (start_line counts)
      (behind-text (codes "start ") _ refl (behind-decimal counts.windows _ (behind-text (codes " ") _ refl
      (behind-decimal counts.tabs _ (behind-text (codes " ") _ refl (behind-decimal counts.entries _ end-line))))))
      (λ e. omega (arith, e))

  fits-sync : (s t : ℕ) → s < 2 ^ 64 → t < 2 ^ 64 → s ≤ told Session → t ≤ told Tabs → FitsAll told (sync_line s t)
  fits-sync s t a b first second = (
    sync_text s t ∷ [],
    (
      (
        sync-lacks s t,
        λ u v p q e. let same = sync-numbers s t u v a b p q e in
            (omega (arith, same.0, first), omega (arith, same.1, second)),
      ),
      tt,
    ),
    sync-line s t,
  )

  fits-syncs : (lines : List (Family → ℕ)) → AllByRecursion (AreTold told) lines → FitsAll told (sync_lines lines)
  fits-syncs [] all = fits-none
  fits-syncs (line ∷ lines) all =
      let one = all.0 Session in
      let two = all.0 Tabs in
      fits-then (sync_line (line Session) (line Tabs)) (sync_lines lines)
      (fits-sync (line Session) (line Tabs) one.0 two.0 one.1 two.1) (fits-syncs lines all.1)

  pub fits-told : (said : List ℕ) → SaysTold told said → FitsAll told said
  fits-told said (lines, all, is) = subst (FitsAll told) (sym is) (fits-syncs lines all)

-- the words of a last line

fault-lacks : (fault : LineFault) → Lacks 10 (fault_word fault)
fault-lacks LongLine = lacks-text 10 (codes "long-line") refl
fault-lacks Utf8 = lacks-text 10 (codes "utf8") refl
fault-lacks UnknownVerb = lacks-text 10 (codes "unknown-verb") refl
fault-lacks Arguments = lacks-text 10 (codes "arguments") refl
fault-lacks Number = lacks-text 10 (codes "number") refl

about-lacks : (word : List ℕ) (z : ℤ) → list_any (λ b. eqb b 10) word ≡ false → Lacks 10 (word ++ signed_decimal z)
about-lacks word z none =
    lacks-append 10 word (signed_decimal z) (lacks-text 10 word none) (signed-lacks 10 (omega arith) z)

verb-lacks : (fault : VerbFault) → Lacks 10 (verb_word fault)
verb-lacks (NoWindow window) = about-lacks (codes "no-window ") window refl
verb-lacks (NoTab tab) = about-lacks (codes "no-tab ") tab refl
verb-lacks (Taken id) = about-lacks (codes "taken ") id refl
verb-lacks (NoBack tab) = about-lacks (codes "no-back ") tab refl
verb-lacks (NoForward tab) = about-lacks (codes "no-forward ") tab refl
verb-lacks (NoPage tab) = about-lacks (codes "no-page ") tab refl
verb-lacks (Place place) = about-lacks (codes "place ") place refl
verb-lacks (Full id) = about-lacks (codes "full ") id refl

why-lacks : (why : Why) → Lacks 10 (why_word why)
why-lacks (Line fault) = fault-lacks fault
why-lacks (Verb fault) = verb-lacks fault

family-lacks : (family : Family) → Lacks 10 (family_name family)
family-lacks Session = lacks-text 10 (codes "session") refl
family-lacks Tabs = lacks-text 10 (codes "tabs") refl

long-lacks : (what : Long) → Lacks 10 (long_name what)
long-lacks Script = lacks-text 10 (codes "script") refl
long-lacks (File family) = family-lacks family

module _ (told : Family → ℕ) where
  pub fits-last : (status : Status) → FitsAll told (last_line status)
  fits-last (Done session tabs) =
      fits-other told (last_line (Done session tabs)) (behind-text (codes "done ") _ refl (behind-decimal session _
      (behind-text (codes " ") _ refl (behind-decimal tabs _ end-line)))) (λ e. omega (arith, e))
  fits-last Usage =
      fits-other told (last_line Usage) (behind-text (codes "usage") _ refl end-line) (λ e. omega (arith, e))
  fits-last (Refused line why) =
      fits-other told (last_line (Refused line why)) (behind-text (codes "refused ") _ refl (behind-decimal line _
      (behind-text (codes " ") _ refl (line-behind-part (why_word why) _ (why-lacks why) end-line))))
      (λ e. omega (arith, e))
  fits-last (Disk family) =
      fits-other told (last_line (Disk family)) (behind-text (codes "fault disk ") _ refl
      (line-behind-part (family_name family) _ (family-lacks family) end-line)) (λ e. omega (arith, e))
  fits-last Read =
      fits-other told (last_line Read) (behind-text (codes "fault read") _ refl end-line) (λ e. omega (arith, e))
  fits-last Write = fits-none told
  fits-last (TooLong what needed) =
      fits-other told (last_line (TooLong what needed)) (behind-text (codes "fault too-long ") _ refl
      (line-behind-part (long_name what) _ (long-lacks what) (behind-text (codes " ") _ refl
      (behind-decimal needed _ end-line)))) (λ e. omega (arith, e))
  fits-last Memory =
      fits-other told (last_line Memory) (behind-text (codes "fault memory") _ refl end-line) (λ e. omega (arith, e))
  fits-last (LastStamp family stamp) =
      fits-other told (last_line (LastStamp family stamp)) (behind-text (codes "fault last-stamp ") _ refl
      (line-behind-part (family_name family) _ (family-lacks family) (behind-text (codes " ") _ refl
      (behind-decimal stamp _ end-line)))) (λ e. omega (arith, e))

  -- a line of a sync that stands in such a text, or in some prefix of it
  pub prefix-told : (all said : List ℕ) → FitsAll told all → IsPrefix said all → SyncsTold told said
  prefix-told all said (lines, fit, is) (n, within, cut) = λ s t a b h.
      let rest = drop n all in
      let after = h.after ++ rest in
      let line : (sync_line s t ++ h.after) ++ rest ≡ sync_text s t ++ 10 ∷ after =
      append_assoc (sync_line s t) h.after rest ∙ ap (λ x. x ++ after) (sync-line s t)
      ∙ append_assoc (sync_text s t) (10 ∷ []) after in
      let whole : joined lines ≡ h.before ++ (sync_text s t ++ 10 ∷ after) =
      sym is ∙ sym (take-append-drop n all) ∙ ap (λ x. x ++ rest) (sym cut ∙ h.parts)
      ∙ append_assoc h.before (sync_line s t ++ h.after) rest ∙ ap (λ x. h.before ++ x) line in
      stands s t after h.before h.starts whole s t a b refl
    where
      stands : (s t : ℕ) (after before : List ℕ) → (before ≡ []) ⊎ ((first : List ℕ) × (before ≡ first ++ 10 ∷ []))
          → joined lines ≡ before ++ (sync_text s t ++ 10 ∷ after) → Fits told (sync_text s t)
      stands s t after before (inl none) e =
          line-first (Fits told) (sync_text s t) after (sync-lacks s t) lines fit
          (e ∙ ap (λ x. x ++ (sync_text s t ++ 10 ∷ after)) none)
      stands s t after before (inr (first, ended)) e =
          line-behind (Fits told) (sync_text s t) after (sync-lacks s t) lines first fit
          (e ∙ ap (λ x. x ++ (sync_text s t ++ 10 ∷ after)) ended
          ∙ append_assoc first (10 ∷ []) (sync_text s t ++ 10 ∷ after))
