use Rattle.std.proofs.Common.{◌≡◌, ◌∙◌, ℕ, List, [], Err, rules, ap, inr, length, sym, arith}
use Rattle.std.proofs.lemmas.List.{length_push}
use Rattle.pim_io.specs.Lines.{LineView, ScanView, line_view, lines_left}
use Rattle.pim_top.specs.commands.Share.{turns_in, turns_of}
use Rattle.pim_top.proofs.commands.share.Turns.{no_turn, none_before, one_more, with_turns}
use Rattle.pim_top.proofs.commands.share.turns_of.Goals as goal

pub loop-line-init : goal.loop-line-init
loop-line-init c = (
  ap (λ (turns : List ℕ). with_turns turns (turns_in (lines_left c.new-scan.result))) c.new-turns.ensures.items
      ∙ none_before (turns_in (lines_left c.new-scan.result)) ∙ ap (λ (scan : ScanView). turns_in (lines_left scan)) c.new-scan.ensures,
  search rules,
)

pub returns-in_err-turn_of-clause-refused : goal.returns-in_err-turn_of-clause-refused
returns-in_err-turn_of-clause-refused c =
    let scan = c.loop-line.scan in
    let j = c.in_err-turn_of.field-0.0 in
    let is : c.from_residual.result ≡ Err j = search rules in
    let whole : with_turns c.loop-line.turns.items (turns_in (lines_left scan)) ≡ Err j =
    ap (λ (ls : List LineView). with_turns c.loop-line.turns.items (turns_in ls)) c.in-Some.ensures.lines
    ∙ no_turn c.loop-line.turns.items (line_view c.in-Some.line) (lines_left c.line.new.self) j c.in_err-turn_of.ensures.refused in
    rw is (inr (sym c.loop-line.invariant.0 ∙ whole))

pub loop-line-preserved : goal.loop-line-preserved
loop-line-preserved c =
    let scan = c.loop-line.scan in
    let next = c.line.new.self in
    let line = line_view c.in-Some.line in
    let whole = one_more c.loop-line.turns.items line (lines_left next) c.in_ok-turn_of.field-0 c.in_ok-turn_of.ensures.turn in
    let here : with_turns c.push_turn.new.turns.items (turns_in (lines_left next)) ≡ turns_of c.args.input.now =
    ap (λ (t : List ℕ). with_turns t (turns_in (lines_left next))) c.in_ok-push_turn.ensures
    ∙ whole
    ∙ ap (λ (ls : List LineView). with_turns c.loop-line.turns.items (turns_in ls)) (sym c.in-Some.ensures.lines)
    ∙ c.loop-line.invariant.0 in
    let longer = ap (λ (turns : List ℕ). length turns) c.in_ok-push_turn.ensures in
    let one = length_push c.loop-line.turns.items c.in_ok-turn_of.field-0 in
    (here, omega (arith, longer, one, c.in-Some.ensures.shorter, c.loop-line.invariant.1))

pub returns-clause-turns : goal.returns-clause-turns
returns-clause-turns c =
    let none : lines_left c.loop-line.scan ≡ [] = search rules in
    sym c.loop-line.invariant.0 ∙ (rw none (search rules))

pub returns-clause-few : goal.returns-clause-few
returns-clause-few c = omega (arith, c.loop-line.invariant.1, c.requires)
