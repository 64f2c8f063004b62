-- What a list of files by rising stamp keeps when one is added, changed or taken out.
use Rattle.std.proofs.Common.{◌≡◌, ◌≢◌, ℕ, zero, suc, ◌<◌, ◌≤◌, ◌^◌, nat_lt, nat_eq, true, false, not, cond, ◌&&◌, List, [], ◌∷◌, ◌++◌, map, length, get_or, set, take, drop, Option, Some, None, IsSome, IsNone, IfSome, option_map, refl, sym, ap, ◌∙◌, arith}
use Rattle.std.proofs.lemmas.Bool.Decides.{nat_tests}
use Rattle.std.proofs.lemmas.List.{take_all, drop_all, append-nil, length-append}
use Rattle.std.specs.List.{list_any}
use Rattle.session_disk.specs.declared.memory.file_list.DiskFile.{DiskFile}
use Rattle.session_disk.specs.Moments.{Standing, with_file, settled_file, IsBelow, IsNewest, IsNewestBelow}
use Rattle.session_disk.specs.DiskFiles.{standing_of, standing_in, settle_file, all_above, is_bounded, is_listed, place_of, end_of, unsettled_stamps}

-- a bound below all stamps, for what stands, for a lower bound and at an index
pub stands_above : (bound : ℕ) (files : List DiskFile) (stamp : ℕ) → all_above bound files ≡ true → IsSome (standing_in files stamp) → bound < stamp
stands_above bound [] stamp a s = grind arith
stands_above bound (file ∷ files) stamp a s = grind (arith, nat_tests, stands_above bound files stamp)

all_above-weaken : (low high : ℕ) (files : List DiskFile) → low ≤ high → all_above high files ≡ true → all_above low files ≡ true
all_above-weaken low high [] h a = refl
all_above-weaken low high (file ∷ files) h a = grind (arith, nat_tests, all_above-weaken low high files)

above_at : (bound : ℕ) (files : List DiskFile) (i : ℕ) (d : DiskFile) → all_above bound files ≡ true → i < length files → bound < (get_or files i d).stamp
above_at bound [] i d a h = absurd (omega arith)
above_at bound (file ∷ files) zero d a h = grind (arith, nat_tests)
above_at bound (file ∷ files) (suc i) d a h = above_at bound files i d (grind (arith, nat_tests)) (omega arith)

-- the place of a stamp
pub place_of-le : (files : List DiskFile) (stamp : ℕ) → place_of stamp files ≤ length files
place_of-le [] stamp = omega arith
place_of-le (file ∷ files) stamp = grind (arith, nat_tests, place_of-le files stamp)

pub place_of-stands : (files : List DiskFile) (stamp : ℕ) → is_listed files ≡ true → IsSome (standing_in files stamp) → (place_of stamp files < length files) × ((d : DiskFile) → (get_or files (place_of stamp files) d).stamp ≡ stamp)
place_of-stands [] stamp l s = grind arith
place_of-stands (file ∷ files) stamp l s = grind (arith, nat_tests, stands_above file.stamp files stamp, place_of-stands files stamp)

none_before : (files : List DiskFile) (stamp : ℕ) → standing_in (take (place_of stamp files) files) stamp ≡ None
none_before [] stamp = refl
none_before (file ∷ files) stamp = grind (arith, nat_tests, none_before files stamp)

-- one more file
standing_in-at : (files : List DiskFile) (i : ℕ) (file : DiskFile) (stamp : ℕ) → standing_in (take i files) file.stamp ≡ None → standing_in (take i files ++ file ∷ drop i files) stamp ≡ with_file file.stamp (Some (standing_of file)) (standing_in files) stamp
standing_in-at files zero file stamp h = refl
standing_in-at [] (suc i) file stamp h = refl
standing_in-at (first ∷ files) (suc i) file stamp h = grind (arith, nat_tests, standing_in-at files i file stamp)

pub standing_in-insert : (files : List DiskFile) (file : DiskFile) → standing_in (take (place_of file.stamp files) files ++ file ∷ drop (place_of file.stamp files) files) ≡ with_file file.stamp (Some (standing_of file)) (standing_in files)
standing_in-insert files file = λ i stamp. standing_in-at files (place_of file.stamp files) file stamp (none_before files file.stamp) i

all_above-insert : (bound : ℕ) (files : List DiskFile) (i : ℕ) (file : DiskFile) → bound < file.stamp → all_above bound files ≡ true → all_above bound (take i files ++ file ∷ drop i files) ≡ true
all_above-insert bound files zero file h a = grind (arith, nat_tests)
all_above-insert bound [] (suc i) file h a = grind (arith, nat_tests)
all_above-insert bound (first ∷ files) (suc i) file h a = grind (arith, nat_tests, all_above-insert bound files i file)

pub is_listed-insert : (files : List DiskFile) (file : DiskFile) → is_listed files ≡ true → file.stamp < 2 ^ 63 → length file.bytes ≤ 2 ^ 62 → IsNone (standing_in files file.stamp) → is_listed (take (place_of file.stamp files) files ++ file ∷ drop (place_of file.stamp files) files) ≡ true
is_listed-insert [] file l s b n = grind (arith, nat_tests)
is_listed-insert (first ∷ files) file l s b n =
    let later = is_listed-insert files file in
    let above = all_above-insert first.stamp files (place_of file.stamp files) file in
    let weaker = all_above-weaken file.stamp first.stamp files in
    grind (arith, nat_tests)

-- a file changed in its place
standing_in-set : (files : List DiskFile) (i : ℕ) (file d : DiskFile) (stamp : ℕ) → is_listed files ≡ true → i < length files → (get_or files i d).stamp ≡ file.stamp → standing_in (set files i file) stamp ≡ with_file file.stamp (Some (standing_of file)) (standing_in files) stamp
standing_in-set [] i file d stamp l h e = absurd (omega arith)
standing_in-set (first ∷ files) zero file d stamp l h e = grind (arith, nat_tests)
standing_in-set (first ∷ files) (suc i) file d stamp l h e =
    let later = standing_in-set files i file d stamp in
    let above = above_at first.stamp files i d in
    grind (arith, nat_tests)

all_above-set : (bound : ℕ) (files : List DiskFile) (i : ℕ) (file d : DiskFile) → all_above bound files ≡ true → i < length files → (get_or files i d).stamp ≡ file.stamp → all_above bound (set files i file) ≡ true
all_above-set bound [] i file d a h e = absurd (omega arith)
all_above-set bound (first ∷ files) zero file d a h e = grind (arith, nat_tests)
all_above-set bound (first ∷ files) (suc i) file d a h e = grind (arith, nat_tests, all_above-set bound files i file d)

pub is_listed-set : (files : List DiskFile) (i : ℕ) (file d : DiskFile) → is_listed files ≡ true → i < length files → (get_or files i d).stamp ≡ file.stamp → length file.bytes ≤ 2 ^ 62 → is_listed (set files i file) ≡ true
is_listed-set [] i file d l h e b = absurd (omega arith)
is_listed-set (first ∷ files) zero file d l h e b = grind (arith, nat_tests)
is_listed-set (first ∷ files) (suc i) file d l h e b = grind (arith, nat_tests, is_listed-set files i file d, all_above-set first.stamp files i file d)

-- the file in a place stands, and is no longer than any file may be
pub standing_in-get : (files : List DiskFile) (i : ℕ) (d : DiskFile) → is_listed files ≡ true → i < length files → standing_in files (get_or files i d).stamp ≡ Some (standing_of (get_or files i d))
standing_in-get [] i d l h = absurd (omega arith)
standing_in-get (first ∷ files) zero d l h = grind (arith, nat_tests)
standing_in-get (first ∷ files) (suc i) d l h = grind (arith, nat_tests, standing_in-get files i d, above_at first.stamp files i d)

pub listed_at : (files : List DiskFile) (i : ℕ) (d : DiskFile) → is_listed files ≡ true → i < length files → ((get_or files i d).stamp < 2 ^ 63) × (length (get_or files i d).bytes ≤ 2 ^ 62)
listed_at [] i d l h = absurd (omega arith)
listed_at (first ∷ files) zero d l h = (grind (arith, nat_tests), grind (arith, nat_tests))
listed_at (first ∷ files) (suc i) d l h = listed_at files i d (grind (arith, nat_tests)) (omega arith)

-- two look-ups at different stamps, in either order
apart : (stamp a b : ℕ) (x y z : Option Standing) → a ≢ b → cond (nat_eq stamp a) x (cond (nat_eq stamp b) y z) ≡ cond (nat_eq stamp b) y (cond (nat_eq stamp a) x z)
apart stamp a b x y z ne = grind (arith, nat_tests)

-- a file taken out
none_at : (bound : ℕ) (files : List DiskFile) (stamp : ℕ) → all_above bound files ≡ true → stamp ≤ bound → standing_in files stamp ≡ None
none_at bound [] stamp a h = refl
none_at bound (file ∷ files) stamp a h = grind (arith, nat_tests, none_at bound files stamp)

standing_in-without : (files : List DiskFile) (i : ℕ) (d : DiskFile) (stamp : ℕ) → is_listed files ≡ true → i < length files → standing_in (take i files ++ drop (suc i) files) stamp ≡ with_file (get_or files i d).stamp None (standing_in files) stamp
standing_in-without [] i d stamp l h = absurd (omega arith)
standing_in-without (first ∷ files) zero d stamp l h = grind (arith, nat_tests, none_at first.stamp files stamp)
standing_in-without (first ∷ files) (suc i) d stamp l h =
    let listed : is_listed files ≡ true = grind (arith, nat_tests) in
    let later = standing_in-without files i d stamp listed (omega arith) in
    let above = above_at first.stamp files i d (grind (arith, nat_tests)) (omega arith) in
    rw later (apart stamp first.stamp (get_or files i d).stamp (Some (standing_of first)) None (standing_in files stamp) (omega (arith, above)))

all_above-without : (bound : ℕ) (files : List DiskFile) (i : ℕ) → all_above bound files ≡ true → all_above bound (take i files ++ drop (suc i) files) ≡ true
all_above-without bound [] zero a = refl
all_above-without bound [] (suc i) a = refl
all_above-without bound (first ∷ files) zero a = grind (arith, nat_tests)
all_above-without bound (first ∷ files) (suc i) a = grind (arith, nat_tests, all_above-without bound files i)

pub is_listed-without : (files : List DiskFile) (i : ℕ) → is_listed files ≡ true → is_listed (take i files ++ drop (suc i) files) ≡ true
is_listed-without [] zero l = refl
is_listed-without [] (suc i) l = refl
is_listed-without (first ∷ files) zero l = grind (arith, nat_tests)
is_listed-without (first ∷ files) (suc i) l = grind (arith, nat_tests, is_listed-without files i, all_above-without first.stamp files i)

-- all names settled, from the start
abbrev pub settled_prefix : ℕ → List DiskFile → List DiskFile
settled_prefix zero files = files
settled_prefix (suc n) [] = []
settled_prefix (suc n) (file ∷ files) = settle_file file ∷ settled_prefix n files

pub settled_prefix-next : (files : List DiskFile) (i : ℕ) (d : DiskFile) → i < length files → set (settled_prefix i files) i (settle_file (get_or (settled_prefix i files) i d)) ≡ settled_prefix (suc i) files
settled_prefix-next [] i d h = absurd (omega arith)
settled_prefix-next (file ∷ files) zero d h = refl
settled_prefix-next (file ∷ files) (suc i) d h = ap (λ fs. settle_file file ∷ fs) (settled_prefix-next files i d (omega arith))

settled_prefix-all : (files : List DiskFile) → settled_prefix (length files) files ≡ map settle_file files
settled_prefix-all [] = refl
settled_prefix-all (file ∷ files) = ap (λ fs. settle_file file ∷ fs) (settled_prefix-all files)

-- the list after the loop, as a vector gives it back
pub settled_prefix-whole : (files items : List DiskFile) (n i : ℕ) → n ≡ length files → length items ≡ n → i ≡ n → items ≡ settled_prefix i files → take n (items ++ drop (length items) files) ≡ map settle_file files
settled_prefix-whole files items n i en el ei e =
    let all = settled_prefix-all files in
    let whole = drop_all (length items) files (omega (arith, en, el)) in
    let prefix = take_all n (items ++ []) (omega (arith, el, length-append items [])) in
    let same = append-nil items in
    cc

-- all names settled
pub standing_in-settled : (files : List DiskFile) (stamp : ℕ) → standing_in (map settle_file files) stamp ≡ option_map settled_file (standing_in files stamp)
standing_in-settled [] stamp = refl
standing_in-settled (file ∷ files) stamp = grind (arith, nat_tests, standing_in-settled files stamp)

all_above-settled : (bound : ℕ) (files : List DiskFile) → all_above bound (map settle_file files) ≡ all_above bound files
all_above-settled bound [] = refl
all_above-settled bound (file ∷ files) = ap (λ b. nat_lt bound file.stamp && b) (all_above-settled bound files)

pub is_listed-settled : (files : List DiskFile) → is_listed (map settle_file files) ≡ is_listed files
is_listed-settled [] = refl
is_listed-settled (file ∷ files) =
    let above = all_above-settled file.stamp files in
    let later = is_listed-settled files in
    cc

-- which names weren't settled
none_unsettled : (files : List DiskFile) (stamp : ℕ) → all_above stamp files ≡ true → list_any (nat_eq stamp) (unsettled_stamps files) ≡ false
none_unsettled [] stamp a = refl
none_unsettled (file ∷ files) stamp a = grind (arith, nat_tests, none_unsettled files stamp)

pub settled_from_stamps : (files : List DiskFile) (stamp : ℕ) (file : Standing) → is_listed files ≡ true → standing_in files stamp ≡ Some file → file.settled ≡ not (list_any (nat_eq stamp) (unsettled_stamps files))
settled_from_stamps [] stamp file l e = grind arith
settled_from_stamps (first ∷ files) stamp file l e = grind (arith, nat_tests, settled_from_stamps files stamp file, none_unsettled files stamp)

-- the file x in a place that was found by its stamp
module _ (files : List DiskFile) (i : ℕ) (stamp : ℕ) (x : DiskFile) (listed : is_listed files ≡ true) (within : i < length files) (found : (d : DiskFile) → (get_or files i d).stamp ≡ stamp) (is : x ≡ get_or files i x) where
  pub found_stamp : x.stamp ≡ stamp
  found_stamp = ap (λ file. file.stamp) is ∙ found x

  pub found_stands : standing_in files stamp ≡ Some (standing_of x)
  found_stands = rw (sym is) at (rw (found x) at (standing_in-get files i x listed within))

  pub found_bytes : length x.bytes ≤ 2 ^ 62
  found_bytes = rw (sym is) at (listed_at files i x listed within).1

  pub found_bounded : is_bounded x ≡ true
  found_bounded =
      let here = rw (sym is) at (listed_at files i x listed within) in
      grind (arith, nat_tests)

  pub change_is_listed : (file : DiskFile) → file.stamp ≡ x.stamp → length file.bytes ≤ 2 ^ 62 → is_listed (set files i file) ≡ true
  change_is_listed file same fits = is_listed-set files i file x listed within (found x ∙ sym (same ∙ found_stamp)) fits

  pub change_stands : (change : Standing → Standing) (file : DiskFile) → file.stamp ≡ x.stamp → standing_of file ≡ change (standing_of x) → standing_in (set files i file) ≡ with_file stamp (option_map change (standing_in files stamp)) (standing_in files)
  change_stands change file same e =
      let at_stamp = same ∙ found_stamp in
      let was = ap (option_map change) found_stands in
      let now = λ (s : ℕ). standing_in-set files i file x s listed within (found x ∙ sym at_stamp) in
      rw was (rw (sym e) (rw (sym at_stamp) (λ j s. now s j)))

  pub without_stands : standing_in (take i files ++ drop (suc i) files) ≡ with_file stamp None (standing_in files)
  without_stands = rw (sym (found x)) (λ j s. standing_in-without files i x s listed within j)

-- nothing stands below a bound in whose place no file comes before
pub none_below : (files : List DiskFile) (below : Option ℕ) → is_listed files ≡ true → end_of below files ≡ 0 → IsNewestBelow (standing_in files) below None
none_below [] below l e = λ s stands within. grind arith
none_below (first ∷ files) None l e = absurd (omega (arith, e))
none_below (first ∷ files) (Some bound) l e = λ s stands within. grind (arith, nat_tests, stands_above first.stamp files s)

-- without the first file
end_rest : (first : DiskFile) (files : List DiskFile) (below : Option ℕ) (n : ℕ) → end_of below (first ∷ files) ≡ suc n → end_of below files ≡ n
end_rest first files None n e = omega (arith, e)
end_rest first files (Some bound) n e = grind (arith, nat_tests)

pub end_of-le : (files : List DiskFile) (below : Option ℕ) → end_of below files ≤ length files
end_of-le files None = omega arith
end_of-le files (Some bound) = place_of-le files bound

last_within : (files : List DiskFile) (below : Option ℕ) (i : ℕ) (d : DiskFile) → end_of below files ≡ suc i → IsBelow below (get_or files i d).stamp
last_within files None i d e = tt
last_within [] (Some bound) i d e = grind arith
last_within (first ∷ files) (Some bound) zero d e = grind (arith, nat_tests)
last_within (first ∷ files) (Some bound) (suc i) d e = last_within files (Some bound) i d (end_rest first files (Some bound) (suc i) e)

last_greatest : (files : List DiskFile) (below : Option ℕ) (i : ℕ) (d : DiskFile) → is_listed files ≡ true → end_of below files ≡ suc i → (s : ℕ) → IsSome (standing_in files s) → IsBelow below s → s ≤ (get_or files i d).stamp
last_greatest [] below i d l e s stands within = grind arith
last_greatest (first ∷ files) below zero d l e s stands within =
    let none = none_below files below (grind (arith, nat_tests)) (end_rest first files below 0 e) s in
    grind (arith, nat_tests)
last_greatest (first ∷ files) below (suc i) d l e s stands within =
    let listed : is_listed files ≡ true = grind (arith, nat_tests) in
    let rest = end_rest first files below (suc i) e in
    let later = last_greatest files below i d listed rest s in
    let above = above_at first.stamp files i d (grind (arith, nat_tests)) (omega (arith, rest, end_of-le files below)) in
    grind (arith, nat_tests)

-- the last file of those before the bound's place has the greatest stamp
pub last_below : (files : List DiskFile) (below : Option ℕ) (i : ℕ) (d : DiskFile) → is_listed files ≡ true → end_of below files ≡ suc i → IsNewest (standing_in files) below (get_or files i d).stamp
last_below files below i d l e =
    let within : i < length files = omega (arith, e, end_of-le files below) in
    record {
      stands = rw (standing_in-get files i d l within);
      within = last_within files below i d e;
      greatest = last_greatest files below i d l e;
    }

pub below_from : (below : Option ℕ) (stamp : ℕ) → IsBelow below stamp → IfSome below (λ bound. stamp < bound)
below_from None stamp h = tt
below_from (Some bound) stamp h = h
