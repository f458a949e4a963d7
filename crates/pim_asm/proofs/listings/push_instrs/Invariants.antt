use Rattle.std.proofs.Common.{◌≡◌, ◌++◌, drop}
use Rattle.pim_asm.specs.Listing.{instrs_listing}
use Rattle.pim_asm.proofs.listings.push_instrs.Given as goal

-- the text so far, with the lines of the instructions that are left, is the whole
abbrev pub invariant-loop-number : goal.invariant-loop-number
invariant-loop-number l = l.text ++ instrs_listing l.number (drop l.number l.instrs) ≡ l.initial.text ++ instrs_listing 0 l.instrs
