use Rattle.std.proofs.Common.{◌<◌, ℕ, List, All, length, ap, sym, ◌∙◌, subst}
use Rattle.pim_net.specs.Netlist.{NetView}
use Rattle.pim_net.proofs.Wiring.{topo_within}
use Rattle.pim_net.proofs.net.Net.topo.Goals as goal

pub returns-clause-within : goal.returns-clause-within
returns-clause-within c =
    let net = c.self.inside in
    let P : NetView → Type 0 = λ v. All (λ k. k < length v.equations) v.topo in
    let within = subst P c.self.view_is (topo_within (length net.equations.items) net.topo.items c.self.invariant.by_depth.once) in
    let same = c.as_slice.ensures.value ∙ ap (λ (v : NetView). v.topo) c.self.view_is in
    subst (λ (topo : List ℕ). All (λ k. k < length c.args.self.now.equations) topo) (sym same) within
