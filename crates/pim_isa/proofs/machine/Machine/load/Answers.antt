use Rattle.std.proofs.Common.{◌≡◌, arith, ◌∙◌, ap, length}
use Rattle.std.proofs.lemmas.List.{length-replicate}
use Rattle.std.proofs.lemmas.Grind.{common_steps}
use Rattle.pim_isa.specs.Results.{load}
use Rattle.pim_isa.proofs.RowLemmas.{length-with_inputs}
use Rattle.pim_isa.proofs.LoadLemmas.{load_is}
use Rattle.pim_isa.proofs.machine.Machine.load.Goals as goal

-- a bit for each cell
pub invariant_of-result : goal.invariant_of-result
invariant_of-result c = (
  rw (c.put_inputs.ensures.bits, length-with_inputs c.inputs.result.now c.args.vector.now _)
      (ap length c.in_ok-row.ensures ∙ length-replicate _ _ ∙ c.cells.ensures.value),
  omega arith,
  c.cells.ensures.valid,
)

pub returns-clause-loaded : goal.returns-clause-loaded
returns-clause-loaded c =
    let same : c.put_inputs.new.self ≡ load c.args.program.now c.args.fill c.args.vector.now = grind (arith, common_steps) in
    rw same (load_is c.args.program.now c.args.fill c.args.vector.now c.cells.ensures.valid.sound c.requires)
