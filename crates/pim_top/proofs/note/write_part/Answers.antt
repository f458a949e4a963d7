use Rattle.std.proofs.Common.{◌++◌, List, ℕ, append_assoc, codes, subst, sym}
use Rattle.pim_io.specs.Outside.{Wrote}
use Rattle.pim_top.specs.Notes.{part_words}
use Rattle.pim_top.proofs.note.write_part.Goals as goal

pub returns : goal.returns
returns g c =
    let words = part_words c.args.part in
    let text = c.args.text.now in
    let start = g.E.Sink.taken c.args.notes.now in
    let count = g.E.Sink.faults c.args.notes.now in
    let now = g.E.Sink.taken c.write_front.new.notes in
    let faults = g.E.Sink.faults c.write_front.new.notes in
    let last = g.E.Sink.taken c.write_pieces.new.sink in
    let end = g.E.Sink.faults c.write_pieces.new.sink in
    let W : List ℕ → Type 0 = λ t. Wrote c.write_pieces.result start last count end (codes "pim: bad input: " ++ t) in
    subst W (sym (append_assoc words text (codes "\n")))
    (c.tell_writes.ensures.both start now last count faults end c.write_pieces.result (codes "pim: bad input: " ++ words) (text ++ codes "\n") c.in_ok-write_front.ensures c.write_pieces.ensures.wrote)
