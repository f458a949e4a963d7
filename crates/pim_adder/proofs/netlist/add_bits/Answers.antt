use Rattle.std.proofs.Common.{◌+◌, length, ap, arith}
use Rattle.std.proofs.lemmas.List.{length_push}
use Rattle.pim_net.specs.Netlist.{DraftView}
use Rattle.pim_net.specs.declared.parts.Equation.{Equation}
use Rattle.pim_adder.specs.Adders.{carry, sum}
use Rattle.pim_adder.proofs.Growing.{bits_more}
use Rattle.pim_adder.proofs.netlist.add_bits.Goals as goal

pub loop-i-preserved : goal.loop-i-preserved
loop-i-preserved c =
    let first : Equation = record { sig = sum c.args.bits c.loop-i.i; cover = c.in_ok-sum.sum } in
    let second : Equation = record { sig = carry c.args.bits (c.loop-i.i + 1); cover = c.in_ok-carry.carry } in
    record {
      made = bits_more c.args.draft.now c.loop-i.draft c.add_cover.new.self c.add_cover-in-loop-i.new.self c.args.bits c.loop-i.i c.in_ok-sum.sum c.in_ok-carry.carry c.in_ok-sum.ensures c.in_ok-carry.ensures c.loop-i.invariant.made c.in_ok-add_cover.ensures.ok c.in_ok-add_cover-2.ensures.ok;
      count = omega (arith, ap (λ (d : DraftView). length d.equations) c.in_ok-add_cover-2.ensures.ok, ap (λ (d : DraftView). length d.equations) c.in_ok-add_cover.ensures.ok, length_push c.loop-i.draft.equations first, length_push c.add_cover.new.self.equations second, c.loop-i.invariant.count);
    }
