use Rattle.std.proofs.Common.{◌+◌, ◌∙◌, length, ap, arith}
use Rattle.std.proofs.lemmas.List.{length_push}
use Rattle.pim_net.specs.Netlist.{DraftView}
use Rattle.pim_adder.proofs.Growing.{inputs_more}
use Rattle.pim_adder.proofs.netlist.add_inputs.Goals as goal

pub loop-k-preserved : goal.loop-k-preserved
loop-k-preserved c = record {
  made = inputs_more c.args.draft.now c.loop-k.draft c.add_input.new.self c.args.letter c.args.start c.loop-k.k c.deref.result.now (c.deref.ensures.value ∙ c.in_ok-name.ensures.text) c.loop-k.invariant.made c.in_ok-add_input.ensures.ok;
  count = omega (arith, ap (λ (d : DraftView). length d.inputs) c.in_ok-add_input.ensures.ok, length_push c.loop-k.draft.inputs (c.args.start + c.loop-k.k), c.loop-k.invariant.count);
}
