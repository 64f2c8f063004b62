-- Of a text that is reported piece by piece, a first part was made and a rest is left.
use Rattle.std.proofs.Common.{◌≡◌, ℕ, ◌+◌, ◌<◌, List, [], ◌∷◌, ◌++◌, append_assoc, length, get_or, drop, drop-cons, add-one, suc, Option, refl, sym, ap, ◌∙◌}
use Rattle.std.specs.List.{flat_map}
use Rattle.std.proofs.lemmas.List.{append-nil}
use Rattle.report_lines.specs.Reports.{IsUnderway, WrotePrefix}
use Rattle.report_lines.proofs.ReportLaws.{begun, made, sent, stopped, goes_on}

-- since the sink had written `before`, all of `whole` was made but what is `left`, and of that `waiting` wasn't sent
pub record IsMadeUpTo (before now : Option (List ℕ)) (waiting left whole : List ℕ) : Type 0 where
  pub text : List ℕ
  pub underway : IsUnderway before now waiting text
  pub parts : text ++ left ≡ whole

-- where nothing of the text was made
pub begins_as : (before : Option (List ℕ)) (waiting whole left : List ℕ) → whole ≡ left → IsMadeUpTo before before waiting left (waiting ++ whole)
begins_as before waiting whole left e = record { text = waiting; underway = begun before waiting; parts = ap (λ (x : List ℕ). waiting ++ x) (sym e) }

pub begins : (before : Option (List ℕ)) (waiting left : List ℕ) → IsMadeUpTo before before waiting left (waiting ++ left)
begins before waiting left = begins_as before waiting left left refl

-- a piece was made, and none was sent
pub appends : (before now : Option (List ℕ)) (waiting new piece left whole : List ℕ) → IsMadeUpTo before now waiting (piece ++ left) whole → new ≡ waiting ++ piece → IsMadeUpTo before now new left whole
appends before now waiting new piece left whole u e = rw e (record {
  text = u.text ++ piece;
  underway = made before now waiting u.text piece u.underway;
  parts = append_assoc u.text piece left ∙ u.parts;
})

-- a piece was made, and some was sent
pub adds : (before now later : Option (List ℕ)) (waiting new piece left whole : List ℕ) → IsMadeUpTo before now waiting (piece ++ left) whole → IsUnderway now later new (waiting ++ piece) → IsMadeUpTo before later new left whole
adds before now later waiting new piece left whole u v = record {
  text = u.text ++ piece;
  underway = sent before now later (waiting ++ piece) (u.text ++ piece) new (made before now waiting u.text piece u.underway) v;
  parts = append_assoc u.text piece left ∙ u.parts;
}

-- the report stopped in a piece
pub stops_in : (before now later : Option (List ℕ)) (waiting piece left whole : List ℕ) → IsMadeUpTo before now waiting (piece ++ left) whole → WrotePrefix now later (waiting ++ piece) → WrotePrefix before later whole
stops_in before now later waiting piece left whole u cut =
    goes_on before later (u.text ++ piece) left whole (append_assoc u.text piece left ∙ u.parts)
    (stopped before now later (waiting ++ piece) (u.text ++ piece) (made before now waiting u.text piece u.underway) cut)

-- the report stopped where a piece wasn't made
pub stops : (before now : Option (List ℕ)) (waiting left whole : List ℕ) → IsMadeUpTo before now waiting left whole → WrotePrefix before now whole
stops before now waiting left whole u = goes_on before now u.text left whole u.parts (waiting, u.underway)

-- nothing is left
ends : (before now : Option (List ℕ)) (waiting whole : List ℕ) → IsMadeUpTo before now waiting [] whole → IsUnderway before now waiting whole
ends before now waiting whole u = rw (sym u.parts ∙ append-nil u.text) u.underway

alone : (before now : Option (List ℕ)) (waiting piece whole : List ℕ) → IsMadeUpTo before now waiting piece whole → IsMadeUpTo before now waiting (piece ++ []) whole
alone before now waiting piece whole u = rw (append-nil piece) u

-- the last piece was made, and none was sent
pub appends_last : (before now : Option (List ℕ)) (waiting new piece whole : List ℕ) → IsMadeUpTo before now waiting piece whole → new ≡ waiting ++ piece → IsUnderway before now new whole
appends_last before now waiting new piece whole u e = ends before now new whole (appends before now waiting new piece [] whole (alone before now waiting piece whole u) e)

-- the last piece was made, and some was sent
pub adds_last : (before now later : Option (List ℕ)) (waiting new piece whole : List ℕ) → IsMadeUpTo before now waiting piece whole → IsUnderway now later new (waiting ++ piece) → IsUnderway before later new whole
adds_last before now later waiting new piece whole u v = ends before later new whole (adds before now later waiting new piece [] whole (alone before now waiting piece whole u) v)

-- the report stopped in the last piece
pub stops_in_last : (before now later : Option (List ℕ)) (waiting piece whole : List ℕ) → IsMadeUpTo before now waiting piece whole → WrotePrefix now later (waiting ++ piece) → WrotePrefix before later whole
stops_in_last before now later waiting piece whole u cut = stops_in before now later waiting piece [] whole (alone before now waiting piece whole u) cut

-- A text is made of a start, a list and an end, of which the list alone is sent on the way: the report stopped in the list,
-- or behind it, or all was made.
module _ (before now : Option (List ℕ)) (old mid more start list end : List ℕ) (parts : more ≡ start ++ (list ++ end)) (is : mid ≡ old ++ start) where
  started : IsMadeUpTo before before mid (list ++ end) (old ++ more)
  started = appends before before old mid start (list ++ end) (old ++ more) (begins_as before old more (start ++ (list ++ end)) parts) is

  pub stops_in_list : WrotePrefix before now (mid ++ list) → WrotePrefix before now (old ++ more)
  stops_in_list cut = stops_in before before now mid list end (old ++ more) started cut

  pub stops_behind_list : (new : List ℕ) → IsUnderway before now new (mid ++ list) → WrotePrefix before now (old ++ more)
  stops_behind_list new u = stops before now new end (old ++ more) (adds before before now mid new list end (old ++ more) started u)

  pub ends_behind_list : (new last : List ℕ) → IsUnderway before now new (mid ++ list) → last ≡ new ++ end → IsUnderway before now last (old ++ more)
  ends_behind_list new last u e = appends_last before now new last end (old ++ more) (adds before before now mid new list end (old ++ more) started u) e

-- what is left are the texts of a list's items from the i-th on
pub next_item : {X : Type 0} (f : X → List ℕ) (xs : List X) (i : ℕ) (x : X) (before now : Option (List ℕ)) (waiting whole : List ℕ) → i < length xs → x ≡ get_or xs i x →
    IsMadeUpTo before now waiting (flat_map f (drop i xs)) whole → IsMadeUpTo before now waiting (f x ++ flat_map f (drop (i + 1) xs)) whole
next_item {X} f xs i x before now waiting whole h e u =
    let split : drop i xs ≡ x ∷ drop (i + 1) xs = rw add-one (drop-cons xs i x h ∙ ap (λ (y : X). y ∷ drop (suc i) xs) (sym e)) in
    rw split at u
