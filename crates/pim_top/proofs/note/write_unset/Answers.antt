use Rattle.std.proofs.Common.{◌++◌, ◌∙◌, List, ℕ, ap, append_assoc, codes, decimal, subst}
use Rattle.pim_io.specs.Outside.{Wrote}
use Rattle.pim_top.proofs.note.write_unset.Goals as goal

pub returns-in-Used : goal.returns-in-Used
returns-in-Used g c =
    let first = c.as_bytes.result.now in
    let words = codes " uses unset cell " in
    let second = c.as_bytes-in-Used.result.now in
    let F : List ℕ → List ℕ → Type 0 = λ p t. Wrote c.write_pieces.result (g.E.Sink.taken c.args.notes.now) (g.E.Sink.taken c.write_pieces.new.sink) (g.E.Sink.faults c.args.notes.now) (g.E.Sink.faults c.write_pieces.new.sink) ((((p ++ codes "bad input: ") ++ codes "program instruction ") ++ t) ++ codes "\n") in
    let G : List ℕ → Type 0 = λ p. Wrote c.write_pieces.result (g.E.Sink.taken c.args.notes.now) (g.E.Sink.taken c.write_pieces.new.sink) (g.E.Sink.faults c.args.notes.now) (g.E.Sink.faults c.write_pieces.new.sink) ((((((p ++ codes "bad input: ") ++ codes "program instruction ") ++ first) ++ words) ++ second) ++ codes "\n") in
    rw c.in-Used.is
    (subst (λ (t : List ℕ). F (codes "pim: ") t)
    (append_assoc first words second ∙ ap (λ (d : List ℕ). d ++ (words ++ second)) (c.as_bytes.ensures.value ∙ c.format.ensures.text)
    ∙ ap (λ (d : List ℕ). decimal c.in-Used.instr ++ (words ++ d)) (c.as_bytes-in-Used.ensures.value ∙ c.format-in-Used.ensures.text))
    (subst G c.as_slice.ensures c.write_pieces.ensures.wrote))
