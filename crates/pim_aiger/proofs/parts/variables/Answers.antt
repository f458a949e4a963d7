use Rattle.std.proofs.Common.{◌≡◌, ◌+◌, ◌<◌, ◌++◌, ◌∷◌, [], sym, arith}
use Rattle.std.specs.List.{range_with_len}
use Rattle.std.proofs.lemmas.List.{map-id, length_push}
use Rattle.std.proofs.lemmas.List.Elements.{All-push}
use Rattle.std.proofs.lemmas.List.FromFn.{map-range_with_len_more}
use Rattle.pim_net.specs.declared.limits.TheConstants.{MAX_SIGNALS}
use Rattle.pim_aiger.proofs.parts.variables.Goals as goal

pub loop-k-preserved : goal.loop-k-preserved
loop-k-preserved c =
    let k = c.loop-k.k in
    let more : range_with_len 1 (k + 1) ≡ range_with_len 1 k ++ (k + 1) ∷ [] = simp map-id at (map-range_with_len_more (λ x. x) 1 k (k + 1) (omega arith)) in
    record {
      range = rw (c.in_ok-push.ensures.items, c.loop-k.invariant.range) (sym more);
      below = rw c.in_ok-push.ensures.items (All-push (λ v. v < MAX_SIGNALS) c.loop-k.variables.items (k + 1) c.loop-k.invariant.below (omega arith));
      count = rw c.in_ok-push.ensures.items (omega (arith, length_push c.loop-k.variables.items (k + 1), c.loop-k.invariant.count));
    }
