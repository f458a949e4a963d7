-- Inner: what a writer of notes does.
use Rattle.std.specs.Prelude.{ℕ, List, Option, Result}
use Rattle.pim_io.specs.Outside.{Wrote}
use Rattle.pim_io.specs.declared.sink.SinkFault.{SinkFault}
use Rattle.pim_top.specs.Notes.{note_line}

-- the sink took the line with this text; or a front of it, and its count of faults rose
abbrev pub WroteLine : {X : Type 0} → (X → Option (List ℕ)) → (X → ℕ) → X → X → List ℕ → Result (Unit {0}) SinkFault → Type 0
WroteLine told counted old new text result = Wrote result (told old) (told new) (counted old) (counted new) (note_line text)
