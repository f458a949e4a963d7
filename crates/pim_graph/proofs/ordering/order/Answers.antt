use Rattle.std.proofs.Common.{◌≡◌, ◌+◌, ◌<◌, ℕ, true, All, List, [], fold, drop, get_or, length, slice_index, ap, subst, sym, ◌∙◌, arith, Vec, Global}
use Rattle.std.proofs.lemmas.Result.{IfOk-weaker}
use Rattle.pim_graph.specs.Graphs.{has, kids_of}
use Rattle.pim_graph.specs.Orders.{IsReached, visited, order}
use Rattle.pim_graph.specs.Peaks.{IsPlaced, needed}
use Rattle.pim_graph.specs.Usages.{falling, usages}
use Rattle.pim_graph.proofs.Orderings.{order-IsPlaced}
use Rattle.pim_graph.proofs.Reaching.{order_reached, order_complete, order_needs}
use Rattle.pim_graph.proofs.ordering.order.Goals as goal

pub returns-clause-order : goal.returns-clause-order
returns-clause-order c =
    let g = c.args.graph.now in
    let walked : List ℕ → List ℕ → List ℕ = λ us gates. fold (visited (λ x. falling (slice_index us) (kids_of g x))) [] gates in
    let first : c.deref.result.now ≡ usages g = c.deref.ensures.value ∙ c.in_ok-usage.ensures.values in
    let second : c.deref-2.result.now ≡ usages g = c.deref-2.ensures.value ∙ c.in_ok-usage.ensures.values in
    let named : c.in_ok-roots.roots.items ≡ g.roots = c.in_ok-roots.ensures.items ∙ c.roots.ensures.list in
    let roots : c.deref-3.result.now ≡ falling (slice_index (usages g)) g.roots = c.deref-3.ensures.value ∙ (c.in_ok-sort_falling.ensures.list ∙ (ap (λ (us : List ℕ). falling (slice_index us) c.in_ok-roots.roots.items) first ∙ ap (falling (slice_index (usages g))) named)) in
    let e : walked c.deref-2.result.now c.deref-3.result.now ≡ order g = ap (λ (us : List ℕ). walked us c.deref-3.result.now) second ∙ ap (walked (usages g)) roots in
    IfOk-weaker c.walk.result _ _ (λ (out : Vec ℕ Global) p. p ∙ e) c.walk.ensures

pub returns-clause-placed : goal.returns-clause-placed
returns-clause-placed c =
    let g = c.args.graph.now in
    let P : List ℕ → Type 0 = IsPlaced g in
    IfOk-weaker c.walk.result _ _ (λ (out : Vec ℕ Global) e. subst P (sym e) (order-IsPlaced g c.roots.ensures.sound)) (returns-clause-order c)

pub returns-clause-reached : goal.returns-clause-reached
returns-clause-reached c =
    let g = c.args.graph.now in
    let P : List ℕ → Type 0 = All (IsReached g) in
    IfOk-weaker c.walk.result _ _ (λ (out : Vec ℕ Global) e. subst P (sym e) (order_reached g)) (returns-clause-order c)

pub returns-clause-complete : goal.returns-clause-complete
returns-clause-complete c =
    let g = c.args.graph.now in
    let P : List ℕ → Type 0 = λ xs. (x : ℕ) → IsReached g x → has xs x ≡ true in
    IfOk-weaker c.walk.result _ _ (λ (out : Vec ℕ Global) e. subst P (sym e) (order_complete g c.roots.ensures.sound)) (returns-clause-order c)

pub returns-clause-needed : goal.returns-clause-needed
returns-clause-needed c =
    let g = c.args.graph.now in
    let P : List ℕ → Type 0 = λ xs. (p : ℕ) → p < length xs → needed g (drop (p + 1) xs) (get_or xs p 0) ≡ true in
    IfOk-weaker c.walk.result _ _ (λ (out : Vec ℕ Global) e. λ p l. subst P (sym e) (order_needs g c.roots.ensures.sound) p (omega (arith, out.ok.0))) (returns-clause-order c)
