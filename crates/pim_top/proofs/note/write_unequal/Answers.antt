use Rattle.std.proofs.Common.{◌++◌, ◌∙◌, List, ℕ, ap, append_assoc, codes, subst}
use Rattle.pim_io.specs.Outside.{Wrote}
use Rattle.pim_top.proofs.note.write_unequal.Goals as goal

pub returns : goal.returns
returns g c =
    let first = c.bytes.result.now in
    let word = codes " output " in
    let second = c.as_bytes.result.now in
    let F : List ℕ → List ℕ → Type 0 = λ p t. Wrote c.write_pieces.result (g.E.Sink.taken c.args.notes.now) (g.E.Sink.taken c.write_pieces.new.sink) (g.E.Sink.faults c.args.notes.now) (g.E.Sink.faults c.write_pieces.new.sink) (((p ++ codes "unequal ") ++ t) ++ codes "\n") in
    let G : List ℕ → Type 0 = λ p. Wrote c.write_pieces.result (g.E.Sink.taken c.args.notes.now) (g.E.Sink.taken c.write_pieces.new.sink) (g.E.Sink.faults c.args.notes.now) (g.E.Sink.faults c.write_pieces.new.sink) (((((p ++ codes "unequal ") ++ first) ++ word) ++ second) ++ codes "\n") in
    subst (λ (t : List ℕ). F (codes "pim: ") t)
    (append_assoc first word second ∙ ap (λ (v : List ℕ). v ++ (word ++ second)) c.bytes.ensures
    ∙ ap (λ (d : List ℕ). c.args.vector.now ++ (word ++ d)) (c.as_bytes.ensures.value ∙ c.format.ensures.text))
    (subst G c.as_slice.ensures c.write_pieces.ensures.wrote)
