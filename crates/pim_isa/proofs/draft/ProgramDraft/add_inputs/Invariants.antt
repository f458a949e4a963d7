use Rattle.std.proofs.Common.{◌≡◌, ◌++◌, drop}
use Rattle.pim_isa.specs.PortLists.{input_ports}
use Rattle.pim_isa.proofs.draft.ProgramDraft.add_inputs.Given as goal

-- the draft so far, with the ports of the labels that are left, is the draft with all of them
abbrev pub invariant-loop-label : goal.invariant-loop-label
invariant-loop-label l = record {
  counted : l.cell ≡ l.label-index;
  whole : record l.self { inputs = l.self.inputs ++ input_ports l.label-index (drop l.label-index l.labels) }
      ≡ record l.initial.self { inputs = l.initial.self.inputs ++ input_ports 0 l.labels };
}
