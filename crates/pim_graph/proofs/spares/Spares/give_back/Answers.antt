use Rattle.std.proofs.Common.{◌∷◌, map, IsPermutation, subst, heap_items}
use Rattle.std.proofs.lemmas.List.Sorted.{IsPermutation-map}
use Rattle.pim_graph.specs.inner.Pools.{SparesView}
use Rattle.pim_graph.proofs.spares.Spares.give_back.Goals as goal

pub returns-clause-free : goal.returns-clause-free
returns-clause-free c =
    let P : SparesView → Type 0 = λ s. IsPermutation (c.args.cell ∷ s.free) (map (λ r. r.0) (heap_items c.push.new.self)) in
    subst P c.self.view_is (IsPermutation-map (λ r. r.0) _ _ c.in_ok-push.ensures.permutation)
