use Rattle.std.proofs.Common.{◌≡◌, ◌∙◌, [], rules, false, true, length, ap, sym, inl, inr, arith}
use Rattle.std.specs.Prelude.{Err, slice_range}
use Rattle.pim_io.specs.Lines.{line_view, lines_left}
use Rattle.pim_share.specs.Pieces.{behind, is_end, with_part}
use Rattle.pim_share.proofs.Cuts.{ahead, at_end, cut_err, cut_ok, end_is, no_cut}
use Rattle.pim_share.proofs.pieces.parse_many.Goals as goal

pub piece-requires-clause-order : goal.piece-requires-clause-order
piece-requires-clause-order c =
    let scan = c.loop-line.scan in
    let next = c.line.new.self in
    let line = line_view c.in-Some.line in
    let bytes = c.args.bytes.now in
    let here = ahead (length bytes) scan next line c.in-Some.ensures.lines c.in-Some.ensures.after c.loop-line.invariant.1 in
    omega (arith, here.begins, c.behind-to.ensures, c.loop-line.invariant.2)

pub piece-requires-clause-inside : goal.piece-requires-clause-inside
piece-requires-clause-inside c =
    let scan = c.loop-line.scan in
    let next = c.line.new.self in
    let line = line_view c.in-Some.line in
    let bytes = c.args.bytes.now in
    let here = ahead (length bytes) scan next line c.in-Some.ensures.lines c.in-Some.ensures.after c.loop-line.invariant.1 in
    let yes : is_end line ≡ true = search rules in
    let ended = end_is line yes in
    omega (arith, here.cut ended, here.within, c.behind-to.ensures)

pub returns-in_err-add_part-clause-exact : goal.returns-in_err-add_part-clause-exact
returns-in_err-add_part-clause-exact c =
    let scan = c.loop-line.scan in
    let next = c.line.new.self in
    let line = line_view c.in-Some.line in
    let bytes = c.args.bytes.now in
    let here = ahead (length bytes) scan next line c.in-Some.ensures.lines c.in-Some.ensures.after c.loop-line.invariant.1 in
    let yes : is_end line ≡ true = search rules in
    let ended = end_is line yes in
    let is : c.from_residual.result ≡ Err c.in_err-add_part.field-0.0 = search rules in
    let piece : c.piece.result.now ≡ slice_range bytes c.loop-line.from (behind line) = c.piece.ensures.value ∙ ap (slice_range bytes c.loop-line.from) c.behind-to.ensures in
    rw is (elim c.in_err-add_part.ensures.exact [
      | inl memory ↦ inl memory
      | inr fault ↦ inr (cut_err bytes c.loop-line.parts.items c.loop-line.from (lines_left scan) c.loop-line.invariant.0 line (lines_left next) c.in-Some.ensures.lines
          c.in_err-add_part.field-0.0 yes (sym (ap (with_part c.loop-line.parts.items) piece) ∙ fault))
    ])

pub loop-line-preserved-then-is_end : goal.loop-line-preserved-then-is_end
loop-line-preserved-then-is_end c =
    let scan = c.loop-line.scan in
    let next = c.line.new.self in
    let line = line_view c.in-Some.line in
    let bytes = c.args.bytes.now in
    let here = ahead (length bytes) scan next line c.in-Some.ensures.lines c.in-Some.ensures.after c.loop-line.invariant.1 in
    let yes : is_end line ≡ true = search rules in
    let ended = end_is line yes in
    let piece : c.piece.result.now ≡ slice_range bytes c.loop-line.from (behind line) = c.piece.ensures.value ∙ ap (slice_range bytes c.loop-line.from) c.behind-to.ensures in
    let whole = cut_ok bytes c.loop-line.parts.items c.loop-line.from (lines_left scan) c.loop-line.invariant.0 line (lines_left next) c.in-Some.ensures.lines
    c.add_part.new.parts.items yes (sym (ap (with_part c.loop-line.parts.items) piece) ∙ c.in_ok-add_part.ensures.exact) in (
      rw c.behind-to.ensures whole,
      here.within,
      omega (arith, here.cut ended, c.behind-to.ensures),
      omega (arith, c.in_ok-add_part.ensures.long, c.piece.ensures.long, c.loop-line.invariant.3),
      λ some. omega (arith, c.in_ok-add_part.ensures.some),
    )

pub loop-line-preserved : goal.loop-line-preserved
loop-line-preserved c =
    let scan = c.loop-line.scan in
    let next = c.line.new.self in
    let line = line_view c.in-Some.line in
    let bytes = c.args.bytes.now in
    let here = ahead (length bytes) scan next line c.in-Some.ensures.lines c.in-Some.ensures.after c.loop-line.invariant.1 in
    let no : is_end line ≡ false = search rules in (
      no_cut bytes c.loop-line.parts.items c.loop-line.from (lines_left scan) c.loop-line.invariant.0 line (lines_left next) c.in-Some.ensures.lines no,
      here.within,
      omega (arith, here.later, c.loop-line.invariant.2),
      c.loop-line.invariant.3,
      c.loop-line.invariant.4,
    )

pub returns-in_err-add_rest-clause-exact : goal.returns-in_err-add_rest-clause-exact
returns-in_err-add_rest-clause-exact c =
    let scan = c.loop-line.scan in
    let none : lines_left scan ≡ [] = search rules in
    let whole = at_end c.args.bytes.now c.loop-line.parts.items c.loop-line.from (lines_left scan) c.loop-line.invariant.0 none in
    let is : c.from_residual-in_err-add_rest.result ≡ Err c.in_err-add_rest.field-0.0 = search rules in
    rw is (elim c.in_err-add_rest.ensures.exact [ inl memory ↦ inl memory | inr fault ↦ inr (whole ∙ fault) ])

pub returns-clause-exact : goal.returns-clause-exact
returns-clause-exact c =
    let scan = c.loop-line.scan in
    let none : lines_left scan ≡ [] = search rules in
    at_end c.args.bytes.now c.loop-line.parts.items c.loop-line.from (lines_left scan) c.loop-line.invariant.0 none ∙ c.in_ok-add_rest.ensures.exact
