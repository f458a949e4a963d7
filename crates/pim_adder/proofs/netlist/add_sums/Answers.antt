use Rattle.std.proofs.Common.{◌∙◌, length, ap, arith}
use Rattle.std.proofs.lemmas.List.{length_push}
use Rattle.pim_net.specs.Netlist.{DraftView}
use Rattle.pim_adder.specs.Adders.{plain, sum}
use Rattle.pim_adder.proofs.Growing.{outputs_more}
use Rattle.pim_adder.proofs.netlist.add_sums.Goals as goal

pub loop-k-preserved : goal.loop-k-preserved
loop-k-preserved c = record {
  made = outputs_more c.args.draft.now c.loop-k.draft c.add_output.new.self c.args.bits c.loop-k.k c.deref.result.now (c.deref.ensures.value ∙ c.in_ok-name.ensures.text) c.loop-k.invariant.made c.in_ok-add_output.ensures.ok;
  count = omega (arith, ap (λ (d : DraftView). length d.outputs) c.in_ok-add_output.ensures.ok, length_push c.loop-k.draft.outputs (plain (sum c.args.bits c.loop-k.k)), c.loop-k.invariant.count);
}
