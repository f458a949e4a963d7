use Rattle.std.proofs.Common.{◌≡◌, drop}
use Rattle.pim_imply.specs.Validity.{first_instr_fault}
use Rattle.pim_imply.proofs.program.instrs_fault.Given as goal

-- the rest, from its place on, gives what the whole list gives
abbrev pub invariant-loop-place : goal.invariant-loop-place
invariant-loop-place l = first_instr_fault l.cells l.place (drop l.place l.instrs) ≡ first_instr_fault l.cells 0 l.instrs
