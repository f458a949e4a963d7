use Rattle.std.proofs.Common.{ℕ, ◌+◌, ◌<◌, ◌∷◌, [], true, List, length, sym, ap, ◌∙◌, take, arith}
use Rattle.std.proofs.lemmas.Bool.Decides.{nat_tests}
use Rattle.std.proofs.lemmas.List.{take_rest}
use Rattle.pim_io.specs.Lines.{LineView, lines_left, lines_after}
use Rattle.pim_io.proofs.LineCuts.{lines_after-cut, lines_after-last, last_line-some}
use Rattle.pim_io.proofs.scan.Scan.line.Goals as goal

pub returns-then-len-bytes-clause-lines : goal.returns-then-len-bytes-clause-lines
returns-then-len-bytes-clause-lines c =
    let bytes = c.self.inside.rest.now in
    let len = c.line_len-len.result in
    let number = c.self.inside.given + 1 in
    let start = c.self.inside.start in
    let line : LineView = record { number = number; start = start; text = take len bytes; ended = true } in
    let cut = lines_after-cut number start bytes len c.if-len-bytes.true c.line_len-len.ensures.before (c.line_len-len.ensures.found c.if-len-bytes.true) in
    ap lines_left (sym c.self.view_is) ∙ cut ∙ ap (λ (rest : List ℕ). line ∷ lines_after (number + 1) (start + len + 1) [] rest) (sym (take_rest bytes (len + 1)))

pub returns-clause-lines : goal.returns-clause-lines
returns-clause-lines c =
    let bytes = c.self.inside.rest.now in
    let number = c.self.inside.given + 1 in
    let start = c.self.inside.start in
    let some : 0 < length bytes = grind (arith, nat_tests) in
    let last = lines_after-last number start bytes (λ k h. c.line_len-len.ensures.before k (omega arith)) in
    ap lines_left (sym c.self.view_is) ∙ last ∙ last_line-some number start bytes some
