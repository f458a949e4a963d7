use Rattle.std.proofs.Common.{rules, ◌≡◌, ◌∙◌, ap, arith, count_by, length, subst, sym}
use Rattle.pim_adder.specs.Drawn.{RowsView}
use Rattle.pim_bench.specs.Trials.{is_wrong, rows_from}
use Rattle.pim_bench.specs.declared.trial.TheConstants.{LANES}
use Rattle.pim_bench.specs.inner.Executed.{Answers, TrialView, later}
use Rattle.pim_bench.proofs.Lent.{length-written}
use Rattle.pim_bench.proofs.Rows.{later-bits}
use Rattle.pim_bench.proofs.Tiles.{answered}
use Rattle.pim_bench.proofs.trial.Trial.wrong_of_next.Goals as goal

pub invariant_of-self : goal.invariant_of-self
invariant_of-self c =
    let before = c.self.invariant in
    let inside = c.self.inside in
    let pack = c.pack_rows.ensures in
    let compare = c.compare_rows.ensures in
    let bits : c.pack_rows.new.rows.bits ≡ inside.drawn.bits = ap (λ (r : RowsView). r.bits) pack.after ∙ later-bits LANES inside.drawn in
    let line : length inside.line.items ≡ inside.line.len = search rules in
    let sum : length inside.sum.items ≡ inside.sum.len = search rules in
    let answer : length inside.answer.items ≡ inside.answer.len = search rules in
    let line_packed = length-written inside.line.len inside.line.items c.pack_rows.new.line line (omega (arith, pack.line, line)) in
    let sum_packed = length-written inside.sum.len inside.sum.items c.pack_rows.new.sum sum (omega (arith, pack.sum, sum)) in
    record {
      inputs = omega (arith, before.inputs, bits);
      outputs = omega (arith, before.outputs, bits);
      same = compare.after ∙ ap (later LANES) before.same ∙ sym pack.after;
      cells = c.run.ensures.frame.cells ∙ c.load_vectors.ensures.frame.cells ∙ before.cells;
      words = c.run.ensures.frame.words ∙ c.load_vectors.ensures.frame.words ∙ before.words;
      vector_columns = pack.sizes.columns ∙ before.vector_columns;
      vector_words = pack.sizes.words ∙ before.vector_words;
      result_columns = c.gather_results.ensures.columns ∙ before.result_columns;
      result_words = c.gather_results.ensures.words ∙ before.result_words;
      line_long = length-written inside.line.len _ c.compare_rows.new.line line_packed (omega (arith, compare.line, line_packed)) ∙ sym line ∙ before.line_long;
      sum_long = length-written inside.sum.len _ c.compare_rows.new.sum sum_packed (omega (arith, compare.sum, sum_packed)) ∙ sym sum ∙ before.sum_long;
      answer_long = length-written inside.answer.len inside.answer.items c.compare_rows.new.answer answer (omega (arith, compare.answer, answer)) ∙ sym answer ∙ before.answer_long;
    }

pub returns-clause-wrong : goal.returns-clause-wrong
returns-clause-wrong c =
    let before = c.self.invariant in
    let p = c.self.inside.program.now in
    let results = c.gather_results.new.results in
    let answers : Answers p c.self.inside.checked results LANES =
    subst (λ (r : RowsView). Answers p r results LANES) (sym before.same)
    (answered p c.self.inside.drawn c.pack_rows.new.tile results c.load_vectors.new.bank c.run.new.self c.self.inside.bank.words before.words c.pack_rows.ensures.packed
    c.load_vectors.ensures.rows (λ r small. c.run.ensures.rows r (omega (arith, c.load_vectors.ensures.frame.words)))
    (λ r small. c.gather_results.ensures.rows r (omega (arith, c.load_vectors.ensures.frame.words, c.run.ensures.frame.words)))) in
    c.compare_rows.ensures.wrong p answers ∙ ap (λ (r : RowsView). count_by (is_wrong p) (rows_from LANES r)) before.same
    ∙ ap (λ (t : TrialView). count_by (is_wrong t.program) (rows_from LANES t.row)) c.self.view_is
