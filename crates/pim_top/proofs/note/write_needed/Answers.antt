use Rattle.std.proofs.Common.{◌++◌, ◌∙◌, List, ℕ, codes, subst}
use Rattle.pim_io.specs.Outside.{Wrote}
use Rattle.pim_top.specs.Notes.{note_line}
use Rattle.pim_top.proofs.note.write_needed.Goals as goal

pub returns : goal.returns
returns g c =
    let F : List ℕ → Type 0 = λ d. Wrote c.write_two.result (g.E.Sink.taken c.args.notes.now) (g.E.Sink.taken c.write_two.new.notes) (g.E.Sink.faults c.args.notes.now) (g.E.Sink.faults c.write_two.new.notes) (note_line (codes "too few cells: needed " ++ d)) in
    subst F (c.as_bytes.ensures.value ∙ c.format.ensures.text) c.write_two.ensures
