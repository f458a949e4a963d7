use Rattle.std.proofs.Common.{◌≡◌, ◌++◌, drop}
use Rattle.pim_imply.specs.Text.{instrs_text}
use Rattle.pim_imply.proofs.printing.push_instrs.Given as goal

-- the text so far, with the lines of the instructions that are left, is the whole
abbrev pub invariant-loop-instr : goal.invariant-loop-instr
invariant-loop-instr l = l.text ++ instrs_text (drop l.instr-index l.instrs) ≡ l.initial.text ++ instrs_text l.instrs
