-- A file has just one reading, and by it the file is lawful or isn't.
use Rattle.std.proofs.Common.{◌≡◌, ◌↔◌, ℕ, ◌+◌, ◌<◌, ◌≤◌, Bool, IsTrue, true, false, ◌||◌, List, [], ◌∷◌, length, take, drop, get_or, Result, Ok, Err, Contains, refl, sym, ap, ◌∙◌, subst, inl, inr, arith}
use Rattle.std.proofs.lemmas.Bool.{cases_lt, cases_Bool, both_ways}
use Rattle.std.proofs.lemmas.List.{get_or-drop}
use Rattle.std.proofs.lemmas.List.Elements.{Contains-append_cases, Contains-push_cases, Contains-append_left, Contains-append_right}
use Rattle.std.specs.List.{list_any}
use Rattle.snss_frames.specs.Header.{header_of}
use Rattle.snss_frames.specs.Frame.{Frame, marker}
use Rattle.snss_frames.specs.declared.header.Version.{Version}
use Rattle.snss_frames.specs.declared.header.Version.TheVariants.{One, Three}
use Rattle.snss_frames.specs.declared.header.HeaderFault.{HeaderFault}
use Rattle.snss_frames.specs.Reading.{Reads}
use Rattle.snss_frames.proofs.ReadingLaws as frames
use Rattle.file_reading.specs.Heads.{head_of}
use Rattle.file_reading.specs.declared.head.FileHead.TheVariants.{Known}
use Rattle.file_rotation.specs.Recovery.{IsFile, IsMarked, IsLawful}
use Rattle.file_rotation.specs.Choice.{IsLawfulAs}
use Rattle.file_reports.specs.FileReading.{FileReading, TooShort, Foreign, Framed, IsReading}
use Rattle.file_reports.specs.FileKinds.{is_marker, kind_of, is_lawful}
use Rattle.file_reports.specs.declared.kind.FileKind.TheVariants as kind
use Rattle.file_reports.proofs.KindLaws.{from_marker}
use Rattle.file_reports.proofs.ReportLaws.{head_read}

header_reading : (bytes : List ℕ) (header : Result Version HeaderFault) → ((k : ℕ) → get_or bytes k 0 < 256) → 8 ≤ length bytes → header_of (take 8 bytes) ≡ header → (reading : FileReading) × IsReading bytes reading
header_reading bytes (Err fault) range long said = (Foreign fault, (long, said))
header_reading bytes (Ok version) range long said =
    let (fs, rest, reads) = frames.has_reading (drop 8 bytes) (λ k. rw get_or-drop (range (8 + k))) in
    (Framed version fs rest, (long, said, reads))

-- all bytes have a reading
pub has_reading : (bytes : List ℕ) → ((k : ℕ) → get_or bytes k 0 < 256) → (reading : FileReading) × IsReading bytes reading
has_reading bytes range =
    elim (cases_lt (length bytes) 8) [
      | inl short ↦ (TooShort (length bytes), (refl, short))
      | inr long ↦ header_reading bytes (header_of (take 8 bytes)) range long refl
    ]

-- and only one
pub one_reading : (bytes : List ℕ) (r s : FileReading) → IsReading bytes r → IsReading bytes s → r ≡ s
one_reading bytes (TooShort n) (TooShort m) a b = ap TooShort (sym a.0 ∙ b.0)
one_reading bytes (TooShort n) (Foreign fault) a b = absurd (omega (arith, a.0, a.1, b.0))
one_reading bytes (TooShort n) (Framed version fs rest) a b = absurd (omega (arith, a.0, a.1, b.0))
one_reading bytes (Foreign fault) (TooShort m) a b = absurd (omega (arith, a.0, b.0, b.1))
one_reading bytes (Foreign fault) (Foreign other) a b =
    let e : Err fault ≡ Err other = sym a.1 ∙ b.1 in
    let same : fault ≡ other = cc in ap Foreign same
one_reading bytes (Foreign fault) (Framed version fs rest) a b = absurd (let e : Err fault ≡ Ok version = sym a.1 ∙ b.1 in cc)
one_reading bytes (Framed version fs rest) (TooShort m) a b = absurd (omega (arith, a.0, b.0, b.1))
one_reading bytes (Framed version fs rest) (Foreign fault) a b = absurd (let e : Ok version ≡ Err fault = sym a.1 ∙ b.1 in cc)
one_reading bytes (Framed version fs rest) (Framed other gs more) a b =
    let e : Ok version ≡ Ok other = sym a.1 ∙ b.1 in
    let same : version ≡ other = cc in
    let both = frames.one_reading (drop 8 bytes) fs gs rest more a.2 b.2 in
    ap (λ (x : Version). Framed x fs rest) same ∙ ap (λ (x : List Frame). Framed other x rest) both.0 ∙ ap (Framed other gs) both.1

-- the marker is among frames where the test finds it
pub marked_contains : (fs : List Frame) → list_any is_marker fs ≡ true → Contains fs marker
marked_contains [] h = absurd cc
marked_contains (f ∷ fs) h =
    elim (cases_Bool (is_marker f)) [
      | inl here ↦ subst (λ (x : Frame). Contains (f ∷ fs) x) (from_marker f here) (Contains-append_left (f ∷ []) fs f (0, omega arith, refl))
      | inr other ↦ Contains-append_right (f ∷ []) fs marker (marked_contains fs (rw other at h))
    ]

pub contains_marked : (fs : List Frame) → Contains fs marker → list_any is_marker fs ≡ true
contains_marked [] h = absurd (omega (arith, h.1))
contains_marked (f ∷ fs) h =
    elim (Contains-append_cases (f ∷ []) fs marker h) [
      | inl first ↦ elim (Contains-push_cases [] f marker first) [
        | inl nothing ↦ absurd (omega (arith, nothing.1))
        | inr same ↦ (let e : is_marker f ≡ true = ap is_marker same in rw e refl)
      ]
      | inr later ↦ either (is_marker f) (contains_marked fs later)
    ]
  where
    either : (b : Bool) {c : Bool} → c ≡ true → (b || c) ≡ true
    either true e = refl
    either false e = e

file_of : (bytes : List ℕ) (version : Version) (fs : List Frame) (rest : List ℕ) → IsReading bytes (Framed version fs rest) → IsFile bytes version fs
file_of bytes version fs rest is = record { head = is.0; said = is.1; rest = rest; read = is.2 }

-- a file whose kind is lawful is a lawful file
pub lawful_reading : (bytes : List ℕ) (reading : FileReading) → IsReading bytes reading → is_lawful (kind_of reading) ≡ true → (version : Version) × IsLawfulAs bytes version
lawful_reading bytes (TooShort n) is h = absurd cc
lawful_reading bytes (Foreign fault) is h = absurd cc
lawful_reading bytes (Framed One fs rest) is h =
    (One, record { frames = fs; lawful = record { version = One; file = file_of bytes One fs rest is; marked = tt }; said = refl })
lawful_reading bytes (Framed Three fs rest) is h =
    (Three, record { frames = fs; lawful = record { version = Three; file = file_of bytes Three fs rest is; marked = marked_contains fs h }; said = refl })

-- so a lawful file's reading has its version and its frames
pub reading_of_lawful : (bytes : List ℕ) (fs : List Frame) (l : IsLawful bytes fs) → IsReading bytes (Framed l.version fs l.file.rest)
reading_of_lawful bytes fs l = (l.file.head, l.file.said, l.file.read)

kind_lawful : (version : Version) (fs : List Frame) (rest : List ℕ) → IsMarked version fs → is_lawful (kind_of (Framed version fs rest)) ≡ true
kind_lawful One fs rest marked = refl
kind_lawful Three fs rest marked = contains_marked fs marked

-- and another file is none
pub unlawful_reading : (bytes : List ℕ) (reading : FileReading) → IsReading bytes reading → is_lawful (kind_of reading) ≡ false → (fs : List Frame) → IsLawful bytes fs → ⊥
unlawful_reading bytes reading is h fs l =
    let same = one_reading bytes reading (Framed l.version fs l.file.rest) is (reading_of_lawful bytes fs l) in
    both_ways (is_lawful (kind_of reading)) h (ap (λ (x : FileReading). is_lawful (kind_of x)) same ∙ kind_lawful l.version fs l.file.rest l.marked)

marked_alike : (marked : Bool) (fs : List Frame) → (IsTrue marked ↔ Contains fs marker) → marked ≡ list_any is_marker fs
marked_alike true fs alike = sym (contains_marked fs (alike.0 refl))
marked_alike false fs alike =
    elim (cases_Bool (list_any is_marker fs)) [
      | inl found ↦ absurd (let never = alike.1 (marked_contains fs found) in cc)
      | inr none ↦ sym none
    ]

-- a file of version 3 is of the kind that its marker makes it
pub marked_kind : (bytes : List ℕ) (reading : FileReading) (marked : Bool) → head_of bytes ≡ Known Three → IsReading bytes reading →
    ((fs : List Frame) (rest : List ℕ) → Reads (drop 8 bytes) fs rest → (IsTrue marked ↔ Contains fs marker)) → kind.Three marked ≡ kind_of reading
marked_kind bytes (TooShort n) marked known is alike = absurd (let both = sym known ∙ head_read bytes (TooShort n) is in cc)
marked_kind bytes (Foreign fault) marked known is alike = absurd (let both = sym known ∙ head_read bytes (Foreign fault) is in cc)
marked_kind bytes (Framed One fs rest) marked known is alike = absurd (let both = sym known ∙ head_read bytes (Framed One fs rest) is in cc)
marked_kind bytes (Framed Three fs rest) marked known is alike = ap kind.Three (marked_alike marked fs (alike fs rest is.2))
