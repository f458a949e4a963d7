use Rattle.std.proofs.Common.{◌++◌, List, ℕ, codes, subst}
use Rattle.pim_io.specs.Outside.{Wrote}
use Rattle.pim_top.proofs.note.write_bad_two.Goals as goal

pub returns : goal.returns
returns g c =
    let F : List ℕ → Type 0 = λ p. Wrote c.write_pieces.result (g.E.Sink.taken c.args.notes.now) (g.E.Sink.taken c.write_pieces.new.sink) (g.E.Sink.faults c.args.notes.now) (g.E.Sink.faults c.write_pieces.new.sink) ((((p ++ codes "bad input: ") ++ c.args.text.now) ++ c.args.name.now) ++ codes "\n") in
    subst F c.as_slice.ensures c.write_pieces.ensures.wrote
