-- A buffer that is filled from a file's start, read by read.
use Rattle.std.proofs.Common.{◌≡◌, ℕ, ◌+◌, ◌≤◌, List, ◌++◌, length, take, sym, ap, ◌∙◌, arith}
use Rattle.std.proofs.lemmas.List.{length-drop, length-take-le, take-append-le}
use Rattle.std.proofs.Math.Seq.{take-add, take-append-add}
use Rattle.session_disk.specs.Moments.{IsReadAt}
use borrow.Rule.Slice.PartMut.{put_mid, post_of}

-- so many bytes of the file stand at the start of the buffer
pub record IsFilledTo (file : List ℕ) (n : ℕ) (buffer : List ℕ) : Type 0 where
  pub within : n ≤ length file
  pub bytes : take n buffer ≡ take n file

-- behind a prefix, a piece that has so many bytes of its own
take-put : (old piece : List ℕ) (n k count : ℕ) → n ≤ length old → count ≤ length piece → take (n + count) (put_mid n k old piece) ≡ take n old ++ take count piece
take-put old piece n k count room small =
    let prefix : length (take n old) ≡ n = length-take-le n old room in
    (rw prefix at (take-append-add (take n old) (piece ++ post_of n k old) count))
    ∙ ap (λ (x : List ℕ). take n old ++ x) (take-append-le count piece (post_of n k old) small)

-- one read further
pub filled_more : (file old piece : List ℕ) (n k count : ℕ) → n ≤ length old → count ≤ length piece → IsFilledTo file n old → IsReadAt file n count piece → IsFilledTo file (n + count) (put_mid n k old piece)
filled_more file old piece n k count room small filled read = record {
  within = omega (arith, length-drop n file, filled.within, read.within);
  bytes = take-put old piece n k count room small
      ∙ ap (λ (x : List ℕ). x ++ take count piece) filled.bytes ∙ ap (λ (x : List ℕ). take n file ++ x) read.bytes
      ∙ sym (take-add n count file);
}
