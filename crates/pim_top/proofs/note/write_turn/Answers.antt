use Rattle.std.proofs.Common.{◌++◌, ◌∙◌, List, ℕ, codes, subst}
use Rattle.pim_io.specs.Outside.{Wrote}
use Rattle.pim_top.specs.Notes.{bad, note_line}
use Rattle.pim_top.proofs.note.write_turn.Goals as goal

pub returns : goal.returns
returns g c =
    let F : List ℕ → Type 0 = λ d. Wrote c.write_bad_two.result (g.E.Sink.taken c.args.notes.now) (g.E.Sink.taken c.write_bad_two.new.notes) (g.E.Sink.faults c.args.notes.now) (g.E.Sink.faults c.write_bad_two.new.notes) (note_line (bad (codes "turn line " ++ d))) in
    subst F (c.as_bytes.ensures.value ∙ c.format.ensures.text) c.write_bad_two.ensures
