use Rattle.std.proofs.Common.{refl, ap, ◌∙◌, arith, length}
use Rattle.pim_vectors.specs.Next.{LinesView}
use Rattle.pim_top.specs.inner.Standing.{first_line}
use Rattle.pim_top.proofs.WalkSteps.{told-start}
use Rattle.pim_top.proofs.walk.walk.Goals as goal

pub loop-more-init : goal.loop-more-init
loop-more-init g c =
    let runner = g.E.Executor.runner c.args.executor.now in
    record {
      goes = told-start runner (g.S.Source.left c.args.input.now) (g.K.Sink.taken c.args.output.now) c.args.lines.now (g.E.Executor.rows c.args.executor.now)
          (c.requires.start ∙ ap first_line c.requires.width) c.requires.empty;
      room = omega (arith, ap length c.requires.empty, c.requires.some);
      same = refl;
      longest = ap (λ (v : LinesView). v.longest) c.requires.start;
      input_steady = refl;
      output_steady = refl;
    }
