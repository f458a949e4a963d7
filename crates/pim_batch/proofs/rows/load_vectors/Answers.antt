use Rattle.std.proofs.Common.{◌≡◌, ℕ, ◌+◌, ◌*◌, ap, ◌∙◌, arith}
use Rattle.pim_isa.specs.Results.{load}
use Rattle.pim_vectors.specs.Tiles.{vector_of}
use Rattle.pim_batch.proofs.rows.load_vectors.Goals as goal

pub returns-clause-rows : goal.returns-clause-rows
returns-clause-rows c = λ r small.
    let lane : 64 * 0 + r ≡ r = omega arith in
    c.load_lanes.ensures.rows r small ∙ ap (λ (n : ℕ). load c.args.program.now c.args.fill (vector_of c.args.vectors.now n)) lane
