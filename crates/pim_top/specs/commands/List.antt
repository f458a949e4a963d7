-- What `list` writes.
use Rattle.std.specs.Prelude.{ℕ, List, Result}
use Rattle.pim_asm.specs.Listing.{listing_of}
use Rattle.pim_top.specs.Programs.{program_of, text_by}
use Rattle.pim_top.specs.declared.judgement.Judgement.{Judgement}

-- the listing of the program of a program file, or why its bytes are refused
abbrev pub list_of : List ℕ → Result (List ℕ) Judgement
list_of file = text_by listing_of (program_of file)
