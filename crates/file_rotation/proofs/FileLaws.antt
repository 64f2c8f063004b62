-- A file has one reading, so it is lawful with one list of frames; bytes with a header that is read are a file.
use Rattle.std.proofs.Common.{◌≡◌, ℕ, ◌+◌, ◌≤◌, ◌↔◌, Bool, IsTrue, nat_lt, List, length, take, drop, Result, Ok, Err, Contains, refl, sym, ◌∙◌, inl, inr, arith}
use Rattle.std.proofs.lemmas.Bool.{cases_Bool}
use Rattle.std.proofs.lemmas.Bool.Decides.{nat_tests}
use Rattle.std.proofs.lemmas.List.{get_or-drop}
use Rattle.snss_frames.specs.Header.{header_of}
use Rattle.snss_frames.specs.Frame.{Frame, marker}
use Rattle.snss_frames.specs.Reading.{Reads}
use Rattle.snss_frames.specs.declared.header.Version.{Version}
use Rattle.snss_frames.specs.declared.header.Version.TheVariants.{One, Three}
use Rattle.snss_frames.specs.declared.header.HeaderFault.{HeaderFault}
use Rattle.snss_frames.proofs.ReadingLaws.{one_reading, has_reading}
use Rattle.session_disk.specs.Moments.{IsBytes}
use Rattle.file_reading.specs.Heads.{head_of, said_by}
use Rattle.file_reading.specs.declared.head.FileHead.TheVariants.{Known, Short}
use Rattle.file_rotation.specs.Recovery.{IsFile, IsLawful}
use Rattle.file_rotation.specs.Choice.{IsLawfulAs}

-- two readings of one file agree
pub record SameFile (v w : Version) (fs gs : List Frame) (r s : List ℕ) : Type 0 where
  pub version : v ≡ w
  pub frames : fs ≡ gs
  pub rest : r ≡ s

pub one_file : (bytes : List ℕ) (v w : Version) (fs gs : List Frame) (a : IsFile bytes v fs) (b : IsFile bytes w gs) → SameFile v w fs gs a.rest b.rest
one_file bytes v w fs gs a b =
    let same = one_reading (drop 8 bytes) fs gs a.rest b.rest a.read b.read in
    record { version = (let is = sym a.said ∙ b.said in cc); frames = same.0; rest = same.1 }

-- a file is lawful in one way
pub one_lawful : (bytes : List ℕ) (fs gs : List Frame) (a : IsLawful bytes fs) (b : IsLawful bytes gs) → SameFile a.version b.version fs gs a.file.rest b.file.rest
one_lawful bytes fs gs a b = one_file bytes a.version b.version fs gs a.file b.file

said_known : (said : Result Version HeaderFault) (version : Version) → said_by said ≡ Known version → said ≡ Ok version
said_known (Ok other) version known = cc
said_known (Err fault) version known = absurd cc

-- a header that is read stands in front
pub known_head : (bytes : List ℕ) (version : Version) → head_of bytes ≡ Known version → (8 ≤ length bytes) × (header_of (take 8 bytes) ≡ Ok version)
known_head bytes version known =
    elim (cases_Bool (nat_lt (length bytes) 8)) [
      | inl short ↦ absurd (let is : Short (length bytes) ≡ Known version = rw short at known in cc)
      | inr long ↦ (grind (arith, nat_tests), said_known (header_of (take 8 bytes)) version (rw long at known))
    ]

-- bytes with a header that is read are a file
has_file : (bytes : List ℕ) (version : Version) → IsBytes bytes → head_of bytes ≡ Known version → (frames : List Frame) × IsFile bytes version frames
has_file bytes version range known =
    let (frames, rest, reads) = has_reading (drop 8 bytes) (λ k. rw get_or-drop (range (8 + k))) in
    let head = known_head bytes version known in
    (frames, record { head = head.0; said = head.1; rest = rest; read = reads })

pub lawful_one : (bytes : List ℕ) → IsBytes bytes → head_of bytes ≡ Known One → IsLawfulAs bytes One
lawful_one bytes range known =
    let (frames, file) = has_file bytes One range known in
    record { frames = frames; lawful = record { version = One; file = file; marked = tt }; said = refl }

pub lawful_three : (bytes : List ℕ) (marked : Bool) → IsBytes bytes → head_of bytes ≡ Known Three →
    ((frames : List Frame) (rest : List ℕ) → Reads (drop 8 bytes) frames rest → (IsTrue marked ↔ Contains frames marker)) → IsTrue marked → IsLawfulAs bytes Three
lawful_three bytes marked range known is found =
    let (frames, file) = has_file bytes Three range known in
    record { frames = frames; lawful = record { version = Three; file = file; marked = (is frames file.rest file.read).0 found }; said = refl }
