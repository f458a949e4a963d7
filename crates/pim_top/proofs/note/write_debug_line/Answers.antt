use Rattle.std.proofs.Common.{◌++◌, ◌∙◌, List, ℕ, ap, append_assoc, codes, subst}
use Rattle.pim_io.specs.Outside.{Wrote}
use Rattle.pim_top.proofs.note.write_debug_line.Goals as goal

pub returns : goal.returns
returns g c =
    let text = c.args.text.now in
    let name = c.args.number.now in
    let digits = c.as_bytes.result.now in
    let F : List ℕ → List ℕ → Type 0 = λ p t. Wrote c.write_pieces.result (g.E.Sink.taken c.args.notes.now) (g.E.Sink.taken c.write_pieces.new.sink) (g.E.Sink.faults c.args.notes.now) (g.E.Sink.faults c.write_pieces.new.sink) ((((p ++ codes "bad input: ") ++ codes "debug line ") ++ t) ++ codes "\n") in
    let G : List ℕ → Type 0 = λ p. Wrote c.write_pieces.result (g.E.Sink.taken c.args.notes.now) (g.E.Sink.taken c.write_pieces.new.sink) (g.E.Sink.faults c.args.notes.now) (g.E.Sink.faults c.write_pieces.new.sink) ((((((p ++ codes "bad input: ") ++ codes "debug line ") ++ digits) ++ text) ++ name) ++ codes "\n") in
    subst (λ (t : List ℕ). F (codes "pim: ") t) (append_assoc digits text name ∙ ap (λ (d : List ℕ). d ++ (text ++ name)) (c.as_bytes.ensures.value ∙ c.format.ensures.text))
    (subst G c.as_slice.ensures c.write_pieces.ensures.wrote)
