use Rattle.std.proofs.Common.{◌++◌, ◌∙◌, List, ℕ, codes, subst}
use Rattle.pim_io.specs.Outside.{Wrote}
use Rattle.pim_top.proofs.note.write_front.Goals as goal

pub returns-in-None : goal.returns-in-None
returns-in-None g c =
    let F : List ℕ → Type 0 = λ p. Wrote c.write_pieces.result (g.E.Sink.taken c.args.notes.now) (g.E.Sink.taken c.write_pieces.new.sink) (g.E.Sink.faults c.args.notes.now) (g.E.Sink.faults c.write_pieces.new.sink) (p ++ codes "bad input: ") in
    rw c.in-None.is (subst F c.as_slice.ensures c.write_pieces.ensures.wrote)

pub returns-in-Some : goal.returns-in-Some
returns-in-Some g c =
    let F : List ℕ → List ℕ → Type 0 = λ p d. Wrote c.write_pieces-in-Some.result (g.E.Sink.taken c.args.notes.now) (g.E.Sink.taken c.write_pieces-in-Some.new.sink) (g.E.Sink.faults c.args.notes.now) (g.E.Sink.faults c.write_pieces-in-Some.new.sink) ((((p ++ codes "bad input: ") ++ codes "part ") ++ d) ++ codes " ") in
    rw c.in-Some.is
    (subst (λ (d : List ℕ). F (codes "pim: ") d) (c.as_bytes-number.ensures.value ∙ c.format.ensures.text)
    (subst (λ (p : List ℕ). F p c.as_bytes-number.result.now) c.as_slice-in-Some.ensures c.write_pieces-in-Some.ensures.wrote))
