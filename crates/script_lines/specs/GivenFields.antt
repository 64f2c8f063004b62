-- The fields that a line still has.
use Rattle.std.specs.Prelude.{ℕ, List, [], Option, Some, None}
use Rattle.std.specs.Option.{option_copied}
use Rattle.script_lines.specs.declared.fields.Fields.{Fields}
use Rattle.script_lines.specs.Reading.{fields_of}

abbrev pub fields_in : Option (List ℕ) → List (List ℕ)
fields_in None = []
fields_in (Some text) = fields_of text

abbrev pub given : Fields → List (List ℕ)
given fields = fields_in (option_copied fields.left)
