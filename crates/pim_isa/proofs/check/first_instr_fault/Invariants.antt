use Rattle.std.proofs.Common.{◌≡◌, drop}
use Rattle.pim_isa.specs.Validity.{first_instr_fault}
use Rattle.pim_isa.proofs.check.first_instr_fault.Given as goal

-- the rest, from its place on, gives what the whole list gives
abbrev pub invariant-loop-place : goal.invariant-loop-place
invariant-loop-place l =
    first_instr_fault l.target l.cells l.place (drop l.place l.instrs) ≡ first_instr_fault l.target l.cells 0 l.instrs
