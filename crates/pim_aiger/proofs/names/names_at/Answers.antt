use Rattle.std.proofs.Common.{◌≡◌, ◌+◌, [], sym, ap, ◌∙◌, arith}
use Rattle.pim_io.specs.declared.limits.TheConstants.{MAX_PROGRAM}
use Rattle.pim_io.specs.Lines.{line_view, lines_left}
use Rattle.pim_aiger.specs.SymbolTable.{then_names, with_line, symbols_of, no_names}
use Rattle.pim_aiger.specs.inner.Views.{header_view}
use Rattle.pim_aiger.proofs.FirstLine.{first_line_starts, stays_within}
use Rattle.pim_aiger.proofs.Symbols.{line_added}
use Rattle.pim_aiger.proofs.names.names_at.Goals as goal

pub overflow_add-place : goal.overflow_add-place
overflow_add-place c =
    omega (arith, first_line_starts c.loop-line.scan.number c.loop-line.scan.start [] c.loop-line.scan.rest (line_view c.in-Some.line) (lines_left c.line.new.self) c.in-Some.ensures.lines, c.loop-line.invariant.within)

pub loop-line-preserved : goal.loop-line-preserved
loop-line-preserved c =
    let header = header_view c.args.header.now in
    let place = c.args.place in
    let names = c.loop-line.names in
    let line = c.in-Some.line in
    let text = c.text_of-text.result.now in
    let others = symbols_of header place (lines_left c.line.new.self) in
    let so_far : then_names names (with_line header (place + line.start) text others) ≡ then_names (no_names header) (symbols_of header place (lines_left c.new-scan.result)) = ap (λ t. then_names names (with_line header (place + line.start) t others)) c.text_of-text.ensures ∙ ap (λ ls. then_names names (symbols_of header place ls)) (sym c.in-Some.ensures.lines) ∙ c.loop-line.invariant.exact in
    record {
      exact = sym (line_added header (place + line.start) text names others c.add.new.self (sym c.if-is_comment.ensures) (sym c.if-is_empty.ensures) c.in_ok-add.ensures.exact) ∙ so_far;
      sized = c.in_ok-add.ensures.sized;
      within = stays_within place MAX_PROGRAM c.loop-line.scan c.line.new.self (line_view line) c.loop-line.invariant.within c.in-Some.ensures.lines c.in-Some.ensures.after;
    }
