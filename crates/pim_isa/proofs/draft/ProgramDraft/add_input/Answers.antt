use Rattle.std.proofs.lemmas.List.Elements.{All-push}
use Rattle.pim_isa.specs.Sound.{HasLabel}
use Rattle.pim_isa.proofs.NoteLemmas.{Notes-push}
use Rattle.pim_isa.proofs.draft.ProgramDraft.add_input.Goals as goal

-- the labels and the notes with one input more
pub invariant_of-self-2 : goal.invariant_of-self-2
invariant_of-self-2 c = record {
  small = c.self.invariant.small;
  input_labels =
      rw c.in_ok-push.ensures.items
      (All-push HasLabel c.self.inside.inputs.items _ c.self.invariant.input_labels
      c.in_ok-label.ensures.labels);
  output_labels = c.self.invariant.output_labels;
  notes =
      rw (c.in_ok-push.ensures.items, c.mark.ensures, c.first_bad-self-inside.ensures, c.deref.ensures.value, c.len-place.ensures, c.self.inside.inputs.ok.0)
      (Notes-push c.self.inside.cells c.self.inside.inputs.items c.self.inside.marks.items c.self.inside.bad_input _ c.make_room.new.marks.items
      c.self.invariant.notes
      (c.in_ok-make_room.ensures.within c.self.invariant.notes.within)
      c.in_ok-make_room.ensures.room
      c.in_ok-make_room.ensures.same);
}
