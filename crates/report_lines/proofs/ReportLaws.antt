-- How a report goes on: more of it is made, more of it is sent, and it ends.
use Rattle.std.proofs.Common.{◌≡◌, ℕ, List, [], ◌++◌, append_assoc, Option, None, Some, Result, Ok, Err, IsErr, MatchResult, refl, sym, ap, ◌∙◌}
use Rattle.std.proofs.lemmas.List.{append-nil}
use Rattle.std.specs.Io.KnownBytes.{append_known}
use Rattle.report_lines.specs.Reports.{IsUnderway, WroteAll, WrotePrefix}

append_known-nil : (known : Option (List ℕ)) → append_known known [] ≡ known
append_known-nil None = refl
append_known-nil (Some bytes) = ap Some (append-nil bytes)

append_known-append : (known : Option (List ℕ)) (x y : List ℕ) → append_known (append_known known x) y ≡ append_known known (x ++ y)
append_known-append None x y = refl
append_known-append (Some bytes) x y = ap Some (append_assoc bytes x y)

-- where a report begins, all of it waits
pub begun : (before : Option (List ℕ)) (waiting : List ℕ) → IsUnderway before before waiting waiting
begun before waiting = record { out = []; written = sym (append_known-nil before); parts = refl }

-- more text waits behind what waited
pub made : (before now : Option (List ℕ)) (waiting text more : List ℕ) → IsUnderway before now waiting text → IsUnderway before now (waiting ++ more) (text ++ more)
made before now waiting text more u = record {
  out = u.out;
  written = u.written;
  parts = sym (append_assoc u.out waiting more) ∙ ap (λ (x : List ℕ). x ++ more) u.parts;
}

-- of what waited some was sent, and this still waits
pub sent : (before now later : Option (List ℕ)) (waiting text left : List ℕ) → IsUnderway before now waiting text → IsUnderway now later left waiting → IsUnderway before later left text
sent before now later waiting text left u v = record {
  out = u.out ++ v.out;
  written = v.written ∙ ap (λ (x : Option (List ℕ)). append_known x v.out) u.written ∙ append_known-append before u.out v.out;
  parts = append_assoc u.out v.out left ∙ ap (λ (x : List ℕ). u.out ++ x) v.parts ∙ u.parts;
}

-- a prefix of what waited was sent, and then no more
pub stopped : (before now later : Option (List ℕ)) (waiting text : List ℕ) → IsUnderway before now waiting text → WrotePrefix now later waiting → WrotePrefix before later text
stopped before now later waiting text u (rest, v) = (rest, sent before now later waiting text rest u v)

-- all that waited was sent
pub ended : (before now later : Option (List ℕ)) (waiting text : List ℕ) → IsUnderway before now waiting text → WroteAll now later waiting → WroteAll before later text
ended before now later waiting text u all =
    all ∙ ap (λ (x : Option (List ℕ)). append_known x waiting) u.written ∙ append_known-append before u.out waiting ∙ ap (append_known before) u.parts

-- all of a text was written, so none of it waits
pub none_waits : (before now : Option (List ℕ)) (text : List ℕ) → WroteAll before now text → IsUnderway before now [] text
none_waits before now text all = record { out = text; written = all; parts = append-nil text }

-- a prefix of a text is one of a text that goes on
pub goes_on : (before now : Option (List ℕ)) (text more whole : List ℕ) → text ++ more ≡ whole → WrotePrefix before now text → WrotePrefix before now whole
goes_on before now text more whole e (rest, u) = (
  rest ++ more,
  record {
    out = u.out;
    written = u.written;
    parts = sym (append_assoc u.out rest more) ∙ ap (λ (x : List ℕ). x ++ more) u.parts ∙ e;
  },
)

-- two texts, one behind the other
pub adds_more : (before now later : Option (List ℕ)) (old mid new more others : List ℕ) → IsUnderway before now mid (old ++ more) → IsUnderway now later new (mid ++ others) → IsUnderway before later new (old ++ (more ++ others))
adds_more before now later old mid new more others u v =
    let both : IsUnderway before later new ((old ++ more) ++ others) = sent before now later (mid ++ others) ((old ++ more) ++ others) new (made before now mid (old ++ more) others u) v in
    rw (append_assoc old more others) at both

-- the report stopped in the second one
pub adds_stopped : (before now later : Option (List ℕ)) (old mid more others : List ℕ) → IsUnderway before now mid (old ++ more) → WrotePrefix now later (mid ++ others) → WrotePrefix before later (old ++ (more ++ others))
adds_stopped before now later old mid more others u cut =
    let both : WrotePrefix before later ((old ++ more) ++ others) = stopped before now later (mid ++ others) ((old ++ more) ++ others) (made before now mid (old ++ more) others u) cut in
    rw (append_assoc old more others) at both

-- or in the first one
pub adds_first : (before now : Option (List ℕ)) (old more others : List ℕ) → WrotePrefix before now (old ++ more) → WrotePrefix before now (old ++ (more ++ others))
adds_first before now old more others cut = goes_on before now (old ++ more) others (old ++ (more ++ others)) (append_assoc old more others) cut

-- the report stopped before any of the text went out
pub adds_none : (before : Option (List ℕ)) (old more : List ℕ) → WrotePrefix before before (old ++ more)
adds_none before old more = (old ++ more, begun before (old ++ more))

-- a call was refused when a prefix of the text had been written
pub refused : {T E : Type 0} (before now : Option (List ℕ)) (whole : List ℕ) (more : T → Type 0) (result : Result T E) → IsErr result → WrotePrefix before now whole →
    MatchResult result more (λ _. WrotePrefix before now whole)
refused before now whole more (Ok x) err cut = absurd cc
refused before now whole more (Err e) err cut = cut

-- or when nothing of it was sent
pub refused_at_once : {T E : Type 0} (before : Option (List ℕ)) (whole : List ℕ) (more : T → Type 0) (result : Result T E) → IsErr result → MatchResult result more (λ _. WrotePrefix before before whole)
refused_at_once before whole more result err = refused before before whole more result err (whole, begun before whole)
