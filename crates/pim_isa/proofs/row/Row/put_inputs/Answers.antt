use Rattle.std.proofs.Common.{◌≡◌, min, length, sym, ap, ◌∙◌, rules}
use Rattle.std.proofs.lemmas.Slice.Zip.{zip_end}
use Rattle.pim_isa.proofs.RowLemmas.{length-with_inputs, with_inputs_end}
use Rattle.pim_isa.proofs.row.Row.put_inputs.Goals as goal

-- at the end nothing is left to put
pub returns-clause-bits : goal.returns-clause-bits
returns-clause-bits c =
    let all : length c.loop-port.yielded ≡ min (length c.args.inputs.now) (length c.args.bits.now) =
    zip_end c.args.inputs.now c.args.bits.now _ _ _ c.next.new.self _ (search rules) (search rules) c.loop-port.yielded_by c.in-None.is c.next.ensures.steps in
    sym (with_inputs_end (length c.loop-port.yielded) c.args.inputs.now c.args.bits.now c.loop-port.self all) ∙ c.loop-port.invariant

-- a bit for each cell still
pub returns-clause-long : goal.returns-clause-long
returns-clause-long c = ap length (returns-clause-bits c) ∙ length-with_inputs c.args.inputs.now c.args.bits.now c.args.self.now
