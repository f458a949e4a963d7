-- Inner: the draft that is kept while a text is read.
use Rattle.std.specs.Prelude.{nat_lt, if◌then◌else◌, List, ℕ, Option, Some, None, option_map, Result}
use Rattle.pim_io.specs.Lines.{lines}
use Rattle.pim_isa.specs.declared.draft.TheConstants.{MAX_CELLS}
use Rattle.pim_text.specs.declared.fault.TextFault.{TextFault}
use Rattle.pim_text.specs.declared.section.Section.{Section}
use Rattle.pim_text.specs.Parts.{Kind, Parts}
use Rattle.pim_text.specs.Reading.{Reading, start, read_from}

-- a draft of at most as many cells as a program may have
abbrev pub within_limit : {I : Type 0} → Parts I → Option (Parts I)
within_limit draft = if nat_lt MAX_CELLS draft.cells then None else Some draft

-- the draft that bytes are the text of, where one that is too large is dropped when it begins
abbrev pub parts_within_limit : {I : Type 0} → Kind I → List ℕ → Result (Parts I) TextFault
parts_within_limit kind bytes = read_from kind within_limit start (lines bytes)

-- how far a reader is, whose draft is seen so
abbrev pub reading : {D I : Type 0} → (D → Parts I) → Section → Option D → Reading I
reading parts section draft = record { section = section; draft = option_map parts draft }
