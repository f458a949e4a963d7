use Rattle.std.proofs.Common.{◌<◌, ◌∷◌, length, map, IsPermutation, heap_items, subst, ap, arith}
use Rattle.std.proofs.lemmas.List.Sorted.{IsPermutation-map, length_permutation}
use Rattle.pim_graph.specs.inner.Pools.{SparesView}
use Rattle.pim_graph.proofs.spares.Spares.take.Goals as goal

pub returns-in-Some : goal.returns-in-Some
returns-in-Some c =
    let P : SparesView → Type 0 = λ s. IsPermutation s.free (c.in-Some.field-0.0 ∷ map (λ r. r.0) (heap_items c.pop.new.self)) in
    let perm = subst P c.self.view_is (IsPermutation-map (λ r. r.0) _ _ c.in-Some.ensures.permutation) in
    let len = length_permutation _ _ perm in
    let some : 0 < length c.args.self.now.free = omega arith in
    record {
      fresh_cell = λ none. absurd (omega arith);
      fresh_left = λ none. absurd (omega arith);
      reused_cell = λ _. perm;
      reused_left = λ _. ap (λ (s : SparesView). s.next) c.self.view_is;
    }
