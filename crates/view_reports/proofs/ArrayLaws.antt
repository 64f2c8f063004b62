-- Lists whose values are put one by one: what is left of the text of an array.
use Rattle.std.proofs.Common.{◌≡◌, ℕ, ◌+◌, ◌<◌, ◌≤◌, ℤ, suc, add-one, length, get_or, drop, drop-cons, Bool, true, false, List, [], ◌∷◌, ◌++◌, map, codes, Option, sym, ap, ◌∙◌}
use Rattle.std.proofs.lemmas.List.{drop_all}
use Rattle.serde_json.specs.Data.{Data}
use Rattle.serde_json.specs.View.{items_of}
use Rattle.serde_json.specs.Written.{compact_text, items_text, comma_if}
use Rattle.navigation_entry.specs.declared.navigation.Navigation.{Navigation}
use Rattle.view_reports.specs.PageValue.{page_value, pages_value}
use Rattle.view_reports.proofs.StreamLaws.{IsMadeUpTo, begins, appends}

-- what is left are the texts of a list's values from the i-th on
pub next_value : {X : Type 0} (f : X → Data) (xs : List X) (i : ℕ) (x : X) (later : Bool) (before now : Option (List ℕ)) (waiting whole : List ℕ) → i < length xs → x ≡ get_or xs i x →
    IsMadeUpTo before now waiting (items_text later (items_of (map f (drop i xs)))) whole →
    IsMadeUpTo before now waiting (comma_if later ++ (compact_text (f x) ++ items_text true (items_of (map f (drop (i + 1) xs))))) whole
next_value {X} f xs i x later before now waiting whole h e u =
    let split : drop i xs ≡ x ∷ drop (i + 1) xs = rw add-one (drop-cons xs i x h ∙ ap (λ (y : X). y ∷ drop (suc i) xs) (sym e)) in
    rw split at u

-- behind the last value nothing is left but the bracket
pub no_value : {X : Type 0} (f : X → Data) (xs : List X) (i : ℕ) (later : Bool) (before now : Option (List ℕ)) (waiting whole : List ℕ) → length xs ≤ i →
    IsMadeUpTo before now waiting (items_text later (items_of (map f (drop i xs)))) whole → IsMadeUpTo before now waiting (codes "]") whole
no_value {X} f xs i later before now waiting whole h u =
    rw (drop_all i xs h) at u

-- what is left of the array of a closed tab's pages, which stand behind their indices
abbrev pub pages_left : Bool → List (ℤ × Navigation) → List ℕ
pages_left later pages = items_text later (items_of (map page_value (map (λ page. page.1) pages)))

pub opened : (pages left : List (ℤ × Navigation)) (before : Option (List ℕ)) (old new : List ℕ) → left ≡ pages → new ≡ old ++ codes "[" →
    IsMadeUpTo before before new (pages_left false left) (old ++ compact_text (pages_value (map (λ page. page.1) pages)))
opened pages left before old new e f =
    rw e (appends before before old new (codes "[") (pages_left false pages) (old ++ (codes "[" ++ pages_left false pages)) (begins before old (codes "[" ++ pages_left false pages)) f)

pub next_page : (left others : List (ℤ × Navigation)) (page : ℤ × Navigation) (later : Bool) (before now : Option (List ℕ)) (waiting whole : List ℕ) → left ≡ page ∷ others →
    IsMadeUpTo before now waiting (pages_left later left) whole → IsMadeUpTo before now waiting (comma_if later ++ (compact_text (page_value page.1) ++ pages_left true others)) whole
next_page left others page later before now waiting whole e u = rw e at u

pub no_page : (left : List (ℤ × Navigation)) (later : Bool) (before now : Option (List ℕ)) (waiting whole : List ℕ) → left ≡ [] →
    IsMadeUpTo before now waiting (pages_left later left) whole → IsMadeUpTo before now waiting (codes "]") whole
no_page left later before now waiting whole e u = rw e at u
