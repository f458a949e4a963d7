-- Inner: a walk over the fields of a text.
use Rattle.std.specs.Prelude.{ℕ, List, [], Option, Some, None}
use Rattle.pim_text.specs.Fields.{fields}

-- the fields that a walk has left: those of a text, or none behind the last one
abbrev pub fields_left : Option (List ℕ) → List (List ℕ)
fields_left None = []
fields_left (Some text) = fields text
