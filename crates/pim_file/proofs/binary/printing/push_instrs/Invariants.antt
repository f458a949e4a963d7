use Rattle.std.proofs.Common.{◌≡◌, ◌++◌, drop}
use Rattle.std.specs.List.{AllByRecursion}
use Rattle.pim_file.specs.Binary.{each_bin, instr_bin}
use Rattle.pim_file.specs.BinarySpelled.{HasBytes}
use Rattle.pim_file.proofs.binary.printing.push_instrs.Given as goal

-- the bytes so far, with the instructions that are left, are the whole
abbrev pub invariant-loop-instr : goal.invariant-loop-instr
invariant-loop-instr l = record {
  whole : l.bytes.items ++ each_bin instr_bin (drop l.instr-index l.instrs) ≡ l.initial.bytes.items ++ each_bin instr_bin l.instrs;
  spelled : AllByRecursion HasBytes (drop l.instr-index l.instrs);
}
