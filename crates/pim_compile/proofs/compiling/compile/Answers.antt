use Rattle.std.specs.Prelude.{IfSome}
use Rattle.std.proofs.Common.{subst}
use Rattle.pim_compile.specs.declared.fit.Fit.{Fit}
use Rattle.pim_compile.specs.inner.Fits.{program_of}
use Rattle.pim_compile.specs.inner.Scheduled.{IsScheduled}
use Rattle.pim_compile.proofs.Composed.{IsFlat, compiled}
use Rattle.pim_compile.proofs.compiling.compile.Goals as goal

pub returns-in-Program : goal.returns-in-Program
returns-in-Program c =
    let n = c.args.net.now in
    let g = c.in_ok-aig.aig in
    let ports = c.in_ok-ports.ports in
    let f : IsFlat n g ports = record {
      graph = c.in_ok-aig.ensures.flat;
      values = c.in_ok-aig.ensures.values;
      counted = c.in_ok-aig.ensures.counted;
      few = c.in_ok-aig.ensures.accepted;
      inputs = c.in_ok-ports.ensures.inputs;
      outputs = c.in_ok-ports.ensures.outputs;
      size = c.in_ok-ports.ensures.as_many_inputs;
    } in
    let S : Fit → Type 0 = λ x. IfSome (program_of x) (IsScheduled g ports c.args.target c.args.level c.args.budget) in
    let h = compiled n g ports c.args.target c.args.level c.args.budget c.in-Program.program f (subst S c.in-Program.is c.in_ok-program.ensures.fits) in
    record {
      computes = h.computes;
      target = h.is_target;
      cells = h.cells;
      primed = h.primed;
      follows = h.follows;
      batched = h.batched;
      nors = h.nors;
      chosen = h.chosen;
      quick = h.quick;
      cycles = h.cycles;
      accepted = h.accepted;
      refused = tt;
      coarse = tt;
    }
