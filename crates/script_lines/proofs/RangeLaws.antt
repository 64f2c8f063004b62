-- A verb that a line says has its numbers in their ranges, and texts that fit a line.
use Rattle.std.proofs.Common.{◌≡◌, ℕ, ℤ, pos, ◌≤◌, Bool, true, false, cond, leb, ◌&&◌, List, [], ◌∷◌, length, Option, Some, None, Ok, Err, refl, sym, subst, arith, length-append}
use Rattle.std.specs.Prelude.{option_and_then, option_map}
use Rattle.std.specs.List.{join_with_byte, AllByRecursion}
use Rattle.std.specs.Option.{ok_or}
use Rattle.std.specs.Str.{bytes_eq}
use Rattle.std.proofs.lemmas.Int.{ints}
use Rattle.std.proofs.lemmas.Bool.Decides.{nat_tests}
use Rattle.decimals.specs.Decimal.{number_of}
use Rattle.script_lines.specs.Numbers.{within, number_in, counted_in}
use Rattle.script_lines.specs.Verbs.{Field, Moment, Id, Place, Signed, Half, Colour, Address, StateLength, Text, MaybeText, Value, Maker, Form, table, form_under}
use Rattle.script_lines.specs.Reading.{units, is_over, next, behind, has_fields, value_in, made_in, verb_under, verb_with, verb_among, fields_of}
use Rattle.script_lines.specs.Ranges.{IsWithin, IsId, IsPlace, IsMoment, IsShort, IsVerb}
use Rattle.script_lines.specs.declared.verb.Verb.{Verb}
use Rattle.script_lines.specs.declared.fault.LineFault.TheVariants.{Number, Arguments}
use Rattle.script_lines.proofs.FieldLaws.{joined-fields}
use Rattle.script_lines.proofs.UnitLaws.{length-units}

-- numbers

chosen : (t : Bool) (m n : ℕ) → cond t (Some m) None ≡ Some n → (t ≡ true) × (m ≡ n)
chosen true m n e = (refl, cc)
chosen false m n e = absurd cc

within_tells : (least greatest m n : ℕ) → within least greatest m ≡ Some n → (least ≤ n) × (n ≤ greatest)
within_tells least greatest m n e =
    let t = chosen (leb least m && leb m greatest) m n e in
    let test = t.0 in
    let is = t.1 in
    (grind (arith, nat_tests), grind (arith, nat_tests))

number_by : (least greatest : ℕ) (read : Option ℕ) (n : ℕ) → option_and_then (within least greatest) read ≡ Some n → (least ≤ n) × (n ≤ greatest)
number_by least greatest None n e = absurd cc
number_by least greatest (Some m) n e = within_tells least greatest m n e

number_tells : (least greatest : ℕ) (field : List ℕ) (n : ℕ) → number_in least greatest field ≡ Some n → (least ≤ n) × (n ≤ greatest)
unfolding number_in
number_tells least greatest field n e = number_by least greatest (number_of field) n e

counted_by : (least greatest : ℕ) (read : Option ℕ) (z : ℤ) → ((n : ℕ) → read ≡ Some n → (least ≤ n) × (n ≤ greatest)) → option_map pos read ≡ Some z → IsWithin least greatest z
counted_by least greatest None z h e = absurd cc
counted_by least greatest (Some n) z h e =
    let is : pos n ≡ z = cc in
    let bounds = h n refl in
    subst (λ x. IsWithin least greatest x) is (omega (arith, ints), omega (arith, ints))

counted_tells : (least greatest : ℕ) (field : List ℕ) (z : ℤ) → counted_in least greatest field ≡ Some z → IsWithin least greatest z
unfolding counted_in
counted_tells least greatest field z e = counted_by least greatest (number_in least greatest field) z (number_tells least greatest field) e

-- texts

abbrev FitsLine : List (List ℕ) → Type 0
FitsLine left = IsShort (join_with_byte 32 left)

next_fits : (left : List (List ℕ)) → FitsLine left → IsShort (next left)
next_fits [] h = omega arith
next_fits (field ∷ []) h = h
next_fits (field ∷ other ∷ others) h = omega (arith, h, length-append field (32 ∷ join_with_byte 32 (other ∷ others)))

behind_fits : (left : List (List ℕ)) → FitsLine left → FitsLine (behind left)
behind_fits [] h = h
behind_fits (field ∷ []) h = omega arith
behind_fits (field ∷ other ∷ others) h = omega (arith, h, length-append field (32 ∷ join_with_byte 32 (other ∷ others)))

units_fit : (text said : List ℕ) → IsShort text → Some (units text) ≡ Some said → IsShort said
units_fit text said h e =
    let is : units text ≡ said = cc in
    subst IsShort is (omega (arith, h, length-units text))

-- fields

abbrev IsInRange : (field : Field) → Value field → Type 0
IsInRange Moment moment = IsMoment moment
IsInRange Id id = IsId id
IsInRange Place place = IsPlace place
IsInRange Signed z = Unit {0}
IsInRange Half n = Unit {0}
IsInRange Colour n = Unit {0}
IsInRange Address bytes = IsShort bytes
IsInRange StateLength n = n ≤ 1000000
IsInRange Text text = IsShort text
IsInRange MaybeText text = IsShort text

length_tells : (over : Bool) (field : List ℕ) (n : ℕ) → cond over (Some 0) (number_in 0 1000000 field) ≡ Some n → n ≤ 1000000
length_tells true field n e = let is : 0 ≡ n = cc in omega arith
length_tells false field n e = (number_tells 0 1000000 field n e).1

said_tells : (field : Field) (left : List (List ℕ)) (x : Value field) → FitsLine left → value_in field left ≡ Some x → IsInRange field x
said_tells Moment left x h e = counted_tells _ _ (next left) x e
said_tells Id left x h e = counted_tells _ _ (next left) x e
said_tells Place left x h e = counted_tells _ _ (next left) x e
said_tells Signed left x h e = tt
said_tells Half left x h e = tt
said_tells Colour left x h e = tt
said_tells Address left x h e = let is : next left ≡ x = cc in subst IsShort is (next_fits left h)
said_tells StateLength left x h e = length_tells (is_over left) (next left) x e
said_tells Text left x h e = units_fit (join_with_byte 32 left) x h e
said_tells MaybeText left x h e = units_fit (join_with_byte 32 left) x h e

-- verbs

abbrev MakesVerb : (fields : List Field) → Maker fields → Type 0
MakesVerb [] verb = IsVerb verb
MakesVerb (field ∷ fields) maker = (x : Value field) → IsInRange field x → MakesVerb fields (maker x)

by_field : {A : Type 0} (read : Option A) (maker : A → Option Verb) (verb : Verb) → option_and_then maker read ≡ Some verb → (x : A) × (read ≡ Some x) × (maker x ≡ Some verb)
by_field None maker verb e = absurd cc
by_field (Some x) maker verb e = (x, refl, e)

verb_tells : (fields : List Field) (maker : Maker fields) (left : List (List ℕ)) (verb : Verb) → MakesVerb fields maker → FitsLine left → made_in fields maker left ≡ Some verb → IsVerb verb
verb_tells [] maker left verb makes h e = let is : maker ≡ verb = cc in subst IsVerb is makes
verb_tells (field ∷ fields) maker left verb makes h e =
    let t = by_field (value_in field left) (λ x. made_in fields (maker x) (behind left)) verb e in
    verb_tells fields (maker t.0) (behind left) verb (makes t.0 (said_tells field left t.0 h t.1)) (behind_fits left h) t.2

abbrev MakesVerbs : List (List ℕ × Form) → Type 0
MakesVerbs rows = AllByRecursion (λ row. MakesVerb row.1.fields row.1.verb) rows

table_makes : MakesVerbs table
table_makes = (
  (λ w h t i. (h, i)),
  (
    (λ t h u i n j s k. (h, i, j, k)),
    (
      (λ t h. h),
      (
        (λ t h. h),
        (
          (λ t h. h),
          (
            (λ t h. h),
            (
              (λ t h. h),
              (
                (λ t h. h),
                (
                  (λ t h w i p j. (h, i, j)),
                  (
                    (λ t h x i y j c k s l. (h, l)),
                    (
                      (λ t h s i. (h, i)),
                      ((λ w h. h), ((λ w h p i. (h, i)), ((λ w h x i y j a k b l c m. h), ((λ w h. h), ((λ w h. h), ((λ m h. h), (tt, (tt, tt)))))))),
                    ),
                  ),
                ),
              ),
            ),
          ),
        ),
      ),
    ),
  ),
)

form_makes : (rows : List (List ℕ × Form)) (word : List ℕ) (form : Form) → MakesVerbs rows → form_under word rows ≡ Some form → MakesVerb form.fields form.verb
form_makes [] word form h e = absurd cc
form_makes (row ∷ rows) word form h e = under (bytes_eq word row.0) row rows word form h e (form_makes rows word form h.1)
  where
    under : (t : Bool) (row : List ℕ × Form) (rows : List (List ℕ × Form)) (word : List ℕ) (form : Form) → MakesVerbs (row ∷ rows) → cond t (Some row.1) (form_under word rows) ≡ Some form → (form_under word rows ≡ Some form → MakesVerb form.fields form.verb) → MakesVerb form.fields form.verb
    under true row rows word form h e again = let is : row.1 ≡ form = cc in subst (λ (f : Form). MakesVerb f.fields f.verb) is h.0
    under false row rows word form h e again = again e

-- lines

given_tells : (t : Bool) (read : Option Verb) (verb : Verb) → cond t (ok_or read Number) (Err Arguments) ≡ Ok verb → read ≡ Some verb
given_tells true None verb e = absurd cc
given_tells true (Some said) verb e = cc
given_tells false read verb e = absurd cc

under_tells : (form : Option Form) (left : List (List ℕ)) (verb : Verb) → ((f : Form) → form ≡ Some f → MakesVerb f.fields f.verb) → FitsLine left → verb_under form left ≡ Ok verb → IsVerb verb
under_tells None left verb makes h e = absurd cc
under_tells (Some form) left verb makes h e =
    verb_tells form.fields form.verb left verb (makes form refl) h (given_tells (has_fields form.fields left) (made_in form.fields form.verb left) verb e)

-- a verb that a line says is as large as a line lets it be
pub line-ranged : (line : List ℕ) (verb : Verb) → length line ≤ 8192 → verb_with (next (fields_of line)) (behind (fields_of line)) ≡ Ok verb → IsVerb verb
unfolding verb_among
line-ranged line verb h e =
    let fits = behind_fits (fields_of line) (subst IsShort (sym (joined-fields line)) h) in
    under_tells (form_under (next (fields_of line)) table) (behind (fields_of line)) verb (λ form f. form_makes table (next (fields_of line)) form table_makes f) fits e
