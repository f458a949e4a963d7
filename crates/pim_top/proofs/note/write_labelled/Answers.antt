use Rattle.std.proofs.Common.{◌++◌, List, ℕ, Ok, Err, codes, sym, subst, append_assoc}
use Rattle.std.proofs.lemmas.Result.{err_from_is_err_and}
use Rattle.pim_io.specs.Outside.{Wrote}
use Rattle.pim_io.specs.declared.sink.SinkFault.{SinkFault}
use Rattle.pim_top.specs.Notes.{spaced}
use Rattle.pim_top.proofs.SpacedLabels.{wrote-labels}
use Rattle.pim_top.proofs.note.write_labelled.Goals as goal

pub returns-in_err-write_pieces : goal.returns-in_err-write_pieces
returns-in_err-write_pieces g c =
    let text = c.args.text.now in
    let labels = spaced c.args.labels.now in
    let front = codes "pim: bad input: " ++ text in
    let start = g.E.Sink.taken c.args.notes.now in
    let count = g.E.Sink.faults c.args.notes.now in
    let next = g.E.Sink.taken c.write_pieces.new.sink in
    let more = g.E.Sink.faults c.write_pieces.new.sink in
    let fault = c.in_err-write_pieces.field-0.0 in
    let F : List ℕ → Type 0 = λ p. Wrote {A = Unit {0}} {E = SinkFault} (Err fault) start next count more ((p ++ codes "bad input: ") ++ text) in
    let W : List ℕ → Type 0 = λ t. Wrote {A = Unit {0}} {E = SinkFault} (Err fault) start next count more t in
    let part = c.tell_writes.ensures.failed start next count more fault front (labels ++ codes "\n") (subst F c.as_slice.ensures c.in_err-write_pieces.ensures.wrote) in
    let p = err_from_is_err_and c.from_residual.result c.from_residual.ensures.1 in
    rw p.1 (subst W (sym (append_assoc front labels (codes "\n"))) part)

pub returns-in_err-write_labels : goal.returns-in_err-write_labels
returns-in_err-write_labels g c =
    let text = c.args.text.now in
    let labels = spaced c.args.labels.now in
    let start = g.E.Sink.taken c.args.notes.now in
    let count = g.E.Sink.faults c.args.notes.now in
    let next = g.E.Sink.taken c.write_labels.new.notes in
    let more = g.E.Sink.faults c.write_labels.new.notes in
    let fault = c.in_err-write_labels.field-0.0 in
    let part =
    wrote-labels c.tell_writes.ensures c.as_slice.result.now text labels start (g.E.Sink.taken c.write_pieces.new.sink) next count (g.E.Sink.faults c.write_pieces.new.sink) more
    (Err fault) c.as_slice.ensures c.in_ok-write_pieces.ensures.wrote c.in_err-write_labels.ensures in
    let p = err_from_is_err_and c.from_residual-in_err-write_labels.result c.from_residual-in_err-write_labels.ensures.1 in
    rw p.1 (c.tell_writes.ensures.failed start next count more fault ((codes "pim: bad input: " ++ text) ++ labels) (codes "\n") part)

pub returns : goal.returns
returns g c =
    let text = c.args.text.now in
    let labels = spaced c.args.labels.now in
    let start = g.E.Sink.taken c.args.notes.now in
    let count = g.E.Sink.faults c.args.notes.now in
    let next = g.E.Sink.taken c.write_labels.new.notes in
    let more = g.E.Sink.faults c.write_labels.new.notes in
    let last = g.E.Sink.taken c.write_all.new.sink in
    let end = g.E.Sink.faults c.write_all.new.sink in
    let part =
    wrote-labels c.tell_writes.ensures c.as_slice.result.now text labels start (g.E.Sink.taken c.write_pieces.new.sink) next count (g.E.Sink.faults c.write_pieces.new.sink) more
    (Ok tt) c.as_slice.ensures c.in_ok-write_pieces.ensures.wrote c.in_ok-write_labels.ensures in
    c.tell_writes.ensures.both start next last count more end c.write_all.result ((codes "pim: bad input: " ++ text) ++ labels) (codes "\n") part c.write_all.ensures.wrote
