use Rattle.std.proofs.lemmas.List.Elements.{All-push}
use Rattle.pim_isa.specs.Sound.{HasLabel}
use Rattle.pim_isa.proofs.draft.ProgramDraft.add_output.Goals as goal

-- the labels with one output more
pub invariant_of-self-2 : goal.invariant_of-self-2
invariant_of-self-2 c = record {
  small = c.self.invariant.small;
  input_labels = c.self.invariant.input_labels;
  output_labels =
      rw c.in_ok-push.ensures.items
      (All-push HasLabel c.self.inside.outputs.items _ c.self.invariant.output_labels
      c.in_ok-label.ensures.labels);
  notes = c.self.invariant.notes;
}
