-- Lines worked out by the definitions.
use Rattle.std.proofs.Common.{◌≡◌, pos, negsuc, [], ◌∷◌, replicate, drop, Some, None, Ok, Err, refl}
use Rattle.std.specs.Prelude.{codes}
use Rattle.std.specs.Str.{chars, is_utf8}
use Rattle.std.specs.Fmt.{digits}
use Rattle.decimals.specs.Decimal.{is_plain, number_of}
use Rattle.script_lines.specs.Numbers.{number_in, counted_in, minus_in, signed_of}
use Rattle.script_lines.specs.Reading.{units, verb_among, reading}
use Rattle.script_lines.specs.Generated.{state_at, line_for, generated as script_of}
use Rattle.script_lines.specs.declared.verb.Verb.TheVariants.{At, Tab, Visit, SetBounds, Group, Title, Sync}
use Rattle.script_lines.specs.declared.fault.LineFault.TheVariants.{LongLine, Utf8, UnknownVerb, Arguments, Number}
use lib.Utf8.{encode}

pub verbs :
    (reading (codes "tab 1 2") ≡ Ok (Some (Tab (pos 1) (pos 2))))
    × (reading (codes "at 9223372036854775807") ≡ Ok (Some (At (pos 9223372036854775807))))
    × (reading (codes "visit 2 u") ≡ Ok (Some (Visit (pos 2) (codes "u") 0 [])))
    × (reading (codes "visit 2 u 3 ") ≡ Ok (Some (Visit (pos 2) (codes "u") 3 [])))
    × (reading (codes "visit 2 u 3  a b") ≡ Ok (Some (Visit (pos 2) (codes "u") 3 (codes " a b"))))
    × (reading (codes "group 2 0 18446744073709551615 7") ≡ Ok (Some (Group (pos 2) 0 18446744073709551615 7 [])))
    × (reading (codes "title 2 ") ≡ Ok (Some (Title (pos 2) [])))
    × (reading (codes "bounds 1 -2147483648 0 5 5 0") ≡ Ok (Some (SetBounds (pos 1) (record { x = negsuc 2147483647; y = pos 0; width = pos 5; height = pos 5; show = pos 0 }))))
    × (reading (codes "sync") ≡ Ok (Some Sync))
    × (reading [] ≡ Ok None)
    × (reading (codes "# tab") ≡ Ok None)
unfolding chars is_utf8 is_plain number_of number_in counted_in minus_in signed_of units verb_among reading encode
verbs = (refl, refl, refl, refl, refl, refl, refl, refl, refl, refl, refl)

pub faults :
    (reading (codes "tab 1") ≡ Err Arguments)
    × (reading (codes "tab 1 02") ≡ Err Number)
    × (reading (codes "tab 0 2") ≡ Err Number)
    × (reading (codes "tab 1 2147483648") ≡ Err Number)
    × (reading (codes "fly 1") ≡ Err UnknownVerb)
    × (reading (codes " tab 1 2") ≡ Err UnknownVerb)
    × (reading (codes "tab x 2 3") ≡ Err Arguments)
    × (reading (codes "sync ") ≡ Err Arguments)
    × (reading (codes "visit 2 ") ≡ Err Arguments)
    × (reading (codes "visit 2 u ") ≡ Err Arguments)
    × (reading (codes "visit 2 u word") ≡ Err Number)
    × (reading (codes "title 2") ≡ Err Arguments)
    × (reading (codes "bounds 1 -0 0 5 5 0") ≡ Err Number)
    × (reading (codes "bounds 1 2147483648 0 5 5 0") ≡ Err Number)
    × (reading (35 ∷ 255 ∷ []) ≡ Err Utf8)
unfolding chars is_utf8 is_plain number_of number_in counted_in minus_in signed_of units verb_among reading encode
faults = (refl, refl, refl, refl, refl, refl, refl, refl, refl, refl, refl, refl, refl, refl, refl)

-- the longest line, and one that is longer
pub lengths : (reading (replicate 8192 35) ≡ Ok None) × (reading (replicate 8193 35) ≡ Err LongLine)
unfolding chars is_utf8 reading encode
lengths = (refl, refl)

-- the shortest script, and the first one that closes its tab
pub drawn :
    (script_of 1 1 ≡ codes "tab 3 1\n")
    × (script_of 1 2 ≡ codes "tab 3 1\nvisit 1 http://h75/ 153 p1\n")
    × (drop 167 (script_of 1 9) ≡ codes "close-tab 1\ntab 1 2\n")
unfolding digits state_at line_for script_of
drawn = (refl, refl, refl)
