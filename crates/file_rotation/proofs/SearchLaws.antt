-- The search for the newest lawful file, from the newest of all files on downwards.
use Rattle.std.proofs.Common.{◌≡◌, ℕ, suc, ◌<◌, ◌≤◌, List, Option, Some, None, option_map, IsSome, IfSome, refl, sym, ap, ◌∙◌, inl, inr, arith}
use Rattle.std.proofs.lemmas.Bool.{cases_lt}
use Rattle.snss_frames.specs.Frame.{Frame}
use Rattle.session_disk.specs.Moments.{Standing, Moment, bytes_of, bytes_at, IsNewestBelow}
use Rattle.session_disk.specs.Images.{as_it_reads}
use Rattle.file_rotation.specs.declared.choice.Chosen.{Chosen}
use Rattle.file_rotation.specs.Recovery.{IsLawful, NoneLawful}
use Rattle.file_rotation.specs.Choice.{IsLawfulAs, IsNewestLawful, IsChosenAs}

-- the stamp is at most this one
abbrev pub IsUpTo : Option ℕ → ℕ → Type 0
IsUpTo None s = ⊥
IsUpTo (Some stamp) s = s ≤ stamp

-- how far the search may still go down
abbrev pub room : Option ℕ → ℕ
room None = 0
room (Some stamp) = suc stamp

-- the file that is looked at next stands, and no newer one is lawful
pub record Searched (m : Moment) (next : Option ℕ) : Type 0 where
  pub stands : IfSome next (λ stamp. IsSome (m.standing stamp))
  pub above : (s : ℕ) (bytes : List ℕ) (frames : List Frame) → as_it_reads m s ≡ Some bytes → IsLawful bytes frames → IsUpTo next s

reads_standing : (m : Moment) (s : ℕ) (bytes : List ℕ) (file : Option Standing) → m.standing s ≡ file → as_it_reads m s ≡ Some bytes → IsSome (m.standing s)
reads_standing m s bytes None e reads = let none = ap (option_map (λ (f : Standing). f.bytes)) e in absurd cc
reads_standing m s bytes (Some file) e reads = rw e refl

reads_bytes : (m : Moment) (s : ℕ) (bytes : List ℕ) (file : Option Standing) → m.standing s ≡ file → IsSome file → bytes ≡ bytes_at s m → as_it_reads m s ≡ Some bytes
reads_bytes m s bytes None e some same = absurd (let h = some in cc)
reads_bytes m s bytes (Some file) e some same =
    ap (option_map (λ (f : Standing). f.bytes)) e ∙ ap Some (sym (same ∙ ap bytes_of e))

-- what was read of the file that is looked at
pub searched_reads : (m : Moment) (stamp : ℕ) (bytes : List ℕ) → Searched m (Some stamp) → bytes ≡ bytes_at stamp m → as_it_reads m stamp ≡ Some bytes
searched_reads m stamp bytes searched same = reads_bytes m stamp bytes (m.standing stamp) refl searched.stands same

below_unlawful : (m : Moment) (stamp : ℕ) (bytes : List ℕ) → Searched m (Some stamp) → bytes ≡ bytes_at stamp m → ((frames : List Frame) → IsLawful bytes frames → ⊥) →
    (s : ℕ) (other : List ℕ) (frames : List Frame) → as_it_reads m s ≡ Some other → IsLawful other frames → s < stamp
below_unlawful m stamp bytes searched same refused s other frames reads lawful =
    elim (cases_lt s stamp) [
      | inl less ↦ less
      | inr not_less ↦
          let upto = searched.above s other frames reads lawful in
          let here : s ≡ stamp = omega arith in
          let own = searched_reads m stamp bytes searched same in
          let is : other ≡ bytes = (let there = ap (as_it_reads m) here in cc) in
          absurd (refused frames (rw is at lawful))
    ]

-- past a file that isn't lawful
pub searched_more : (m : Moment) (stamp : ℕ) (bytes : List ℕ) (next : Option ℕ) → Searched m (Some stamp) → bytes ≡ bytes_at stamp m →
    ((frames : List Frame) → IsLawful bytes frames → ⊥) → IsNewestBelow m.standing (Some stamp) next → Searched m next
searched_more m stamp bytes None searched same refused none = record {
  stands = tt;
  above = λ s other frames reads lawful.
      none s (reads_standing m s other (m.standing s) refl reads) (below_unlawful m stamp bytes searched same refused s other frames reads lawful);
}
searched_more m stamp bytes (Some next) searched same refused newest = record {
  stands = newest.stands;
  above = λ s other frames reads lawful.
      newest.greatest s (reads_standing m s other (m.standing s) refl reads) (below_unlawful m stamp bytes searched same refused s other frames reads lawful);
}

-- a lawful file is found
pub searched_found : (m : Moment) (stamp : ℕ) (bytes : List ℕ) → Searched m (Some stamp) → bytes ≡ bytes_at stamp m → IsNewestLawful (as_it_reads m) stamp bytes
searched_found m stamp bytes searched same = record {
  stands = searched_reads m stamp bytes searched same;
  newest = λ s other others later reads lawful. let upto = searched.above s other others reads lawful in omega arith;
}

-- none is
pub searched_none : (m : Moment) → Searched m None → NoneLawful (as_it_reads m)
searched_none m searched = searched.above

-- the newest lawful file is the chosen one
pub chosen_from : (m : Moment) (chosen : Chosen) (bytes : List ℕ) → IsNewestLawful (as_it_reads m) chosen.stamp bytes → IsLawfulAs bytes chosen.version → IsChosenAs (as_it_reads m) chosen
chosen_from m chosen bytes newest lawful = record {
  frames = lawful.frames;
  newest = record { bytes = bytes; stands = newest.stands; lawful = lawful.lawful; newest = newest.newest };
  said = lawful.said;
}
