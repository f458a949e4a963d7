use Rattle.std.proofs.Common.{◌∙◌}
use Rattle.pim_adder.proofs.Growing.{adder_made}
use Rattle.pim_adder.proofs.netlist.adder.Goals as goal

pub returns-in-Ok-clause-exact : goal.returns-in-Ok-clause-exact
returns-in-Ok-clause-exact c =
    c.in-Ok.ensures.kept
    ∙ adder_made c.args.bits c.new-draft.result c.add_inputs.new.draft c.add_inputs-2.new.draft c.add_input.new.self c.add_bits.new.draft c.add_sums.new.draft c.add_output.new.self c.deref.result.now c.deref-2.result.now
    (c.deref.ensures.value ∙ c.in_ok-carry.ensures.text) (c.deref-2.ensures.value ∙ c.in_ok-carry-2.ensures.text)
    c.new-draft.ensures c.in_ok-add_inputs.ensures.made c.in_ok-add_inputs-2.ensures.made c.in_ok-add_input.ensures.ok c.in_ok-add_bits.ensures c.in_ok-add_sums.ensures c.in_ok-add_output.ensures.ok
