use Rattle.std.proofs.Common.{◌+◌, sym, ◌∙◌, ap, subst}
use Rattle.pim_mig.specs.Graph.{MigView}
use Rattle.pim_mig.specs.Majs.{begun}
use Rattle.pim_mig.specs.Needs.{is_needed}
use Rattle.pim_rewrite.specs.Normal.{AreUpright}
use Rattle.pim_rewrite.specs.Passes.{flip}
use Rattle.pim_rewrite.proofs.NoMore.{flip_no_more}
use Rattle.pim_rewrite.proofs.Upright.{none_upright, rest_upright}
use Rattle.pim_rewrite.proofs.rewriting.flip.Goals as goal

pub returns-clause-no_more : goal.returns-clause-no_more
returns-clause-no_more c =
    flip_no_more c.nodes_have_laws.ensures c.args.mig.now c.in_ok-new.new c.nodes.ensures.sound (c.in_ok-new.ensures.made ∙ ap flip c.in_ok-reading.ensures)

pub returns-clause-upright : goal.returns-clause-upright
returns-clause-upright c =
    let g = c.args.mig.now in
    subst AreUpright (sym (ap (λ (t : MigView). t.nodes) (c.in_ok-new.ensures.made ∙ ap flip c.in_ok-reading.ensures)))
    (rest_upright c.nodes_have_laws.ensures g.inputs (is_needed g) (begun g.inputs) (1 + g.inputs) g.nodes none_upright)
