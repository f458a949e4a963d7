use Rattle.std.proofs.Common.{◌≡◌, drop}
use Rattle.pim_isa.specs.Sound.{cells_of}
use Rattle.pim_isa.specs.Steps.{bit}
use Rattle.pim_prove.specs.Clean.{first_unset_output}
use Rattle.pim_prove.proofs.marks.Marks.unset_output.Given as goal

-- the first of the outputs that are left is the first of all
abbrev pub invariant-loop-number : goal.invariant-loop-number
invariant-loop-number l =
    first_unset_output (bit l.self) l.number (cells_of (drop l.number l.outputs)) ≡ first_unset_output (bit l.self) 0 (cells_of l.outputs)
