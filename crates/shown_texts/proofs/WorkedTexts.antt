-- Texts shown by hand.
use Rattle.std.proofs.Common.{◌≡◌, [], ◌∷◌, ◌++◌, codes, refl}
use Rattle.shown_texts.specs.Shown.{shown_byte, shown_bytes, shown_unit, shown_units}

an_address : shown_bytes (codes "http://a/?b=~ c") ≡ codes "http://a/?b=~ c"
unfolding shown_byte
an_address = refl

a_quote_and_a_backslash : shown_bytes (codes "\"\\") ≡ codes "\\x22\\\\"
unfolding shown_byte
a_quote_and_a_backslash = refl

-- what clears a terminal, a line feed and DEL
control_bytes : shown_bytes (0x1B ∷ codes "[2J" ++ (0x0A ∷ 0x7F ∷ [])) ≡ codes "\\x1b[2J\\x0a\\x7f"
unfolding shown_byte
control_bytes = refl

bytes_above_ascii : shown_bytes (0x80 ∷ 0xC3 ∷ 0xFF ∷ []) ≡ codes "\\x80\\xc3\\xff"
unfolding shown_byte
bytes_above_ascii = refl

a_quote_and_a_backslash_in_units : shown_units (codes "\"\\") ≡ codes "\\x22\\\\"
unfolding shown_unit
a_quote_and_a_backslash_in_units = refl

-- both halves of a pair, each by itself
surrogates : shown_units (0xD83D ∷ 0xDE00 ∷ 0xD800 ∷ []) ≡ codes "\\ud83d\\ude00\\ud800"
unfolding shown_unit
surrogates = refl

units_above_ascii : shown_units (0x00 ∷ 0x7E ∷ 0x7F ∷ 0xE9 ∷ 0xFFFF ∷ []) ≡ codes "\\u0000~\\u007f\\u00e9\\uffff"
unfolding shown_unit
units_above_ascii = refl
