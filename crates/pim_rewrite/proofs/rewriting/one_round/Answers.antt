use Rattle.std.proofs.Common.{◌≡◌, sym, ◌∙◌, ap, subst, arith}
use Rattle.pim_mig.specs.Graph.{MigView}
use Rattle.pim_mig.specs.Needs.{needed_count}
use Rattle.pim_rewrite.specs.Cases.{distribute}
use Rattle.pim_rewrite.specs.Normal.{HasValues}
use Rattle.pim_rewrite.specs.Passes.{flip}
use Rattle.pim_rewrite.proofs.rewriting.one_round.Goals as goal

both_values : (g s t : MigView) → s.inputs ≡ g.inputs → HasValues g s → HasValues s t → HasValues g t
both_values g s t same first second = λ bits count. second bits (count ∙ sym same) ∙ first bits count

pub flip-requires : goal.flip-requires
flip-requires c = record {
  few = omega (arith, c.in_ok-spread.ensures.fewer, ap needed_count c.in_ok-reading.ensures, c.requires.few);
}

pub returns-clause-round : goal.returns-clause-round
returns-clause-round c = c.in_ok-new.ensures.flipped ∙ ap flip (c.in_ok-spread.ensures.distributed ∙ ap distribute c.in_ok-reading.ensures)

pub returns-clause-values : goal.returns-clause-values
returns-clause-values c =
    let g = c.args.mig.now in
    let r = c.in_ok-reading.reading in
    let s = c.in_ok-spread.spread in
    let same = ap (λ (h : MigView). h.inputs) (c.in_ok-spread.ensures.distributed ∙ ap distribute c.in_ok-reading.ensures) in
    let P = λ (h : MigView). HasValues h s in
    both_values g s c.in_ok-new.new same (subst P c.in_ok-reading.ensures c.in_ok-spread.ensures.values) c.in_ok-new.ensures.values

pub returns-clause-fewer : goal.returns-clause-fewer
returns-clause-fewer c = omega (arith, c.in_ok-spread.ensures.fewer, c.in_ok-new.ensures.no_more, ap needed_count c.in_ok-reading.ensures)
