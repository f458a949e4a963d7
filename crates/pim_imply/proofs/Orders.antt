-- The order of the gates.
use Rattle.std.proofs.Common.{◌≡◌, ℕ, ◌*◌, ◌<◌, ◌≤◌, List, [], length, All, Option, ap, subst, arith}
use Rattle.pim_aig.specs.Graph.{AigView, nodes}
use Rattle.pim_graph.specs.Allotments.{AllotmentView, IsAllotment}
use Rattle.pim_graph.specs.Graphs.{GraphView}
use Rattle.pim_graph.specs.Orders.{IsReached, order}
use Rattle.pim_graph.specs.Peaks.{IsPlaced}
use Rattle.pim_imply.specs.Gates.{gates, imply_graph}
use Rattle.pim_imply.proofs.GateReads.{kids_count}

-- the gates of the order are there
pub order_there : (g : AigView) (v : GraphView) → v ≡ imply_graph g → IsPlaced v (order v) → All (λ l. l < 2 * nodes g) (gates g)
order_there g v is placed =
    let P : GraphView → Type 0 = λ w. All (λ x. x < length w.kids) (order w) in
    let Q : ℕ → Type 0 = λ n. All (λ x. x < n) (gates g) in
    subst Q (kids_count g) (subst P is placed.there)

pub order_few : (g : AigView) (v : GraphView) → v ≡ imply_graph g → length (order v) ≤ length v.kids → length (gates g) ≤ 2 * nodes g
order_few g v is few =
    let a = ap (λ (w : GraphView). length (order w)) is in
    let b = ap (λ (w : GraphView). length w.kids) is in
    let d = kids_count g in
    omega arith

pub moved : (v w : GraphView) (xs ys : List ℕ) (o u : List (Option ℕ)) (f h : ℕ) (a : AllotmentView) → v ≡ w → xs ≡ ys → o ≡ u → f ≡ h → IsAllotment v xs o f a → IsAllotment w ys u h a
moved v w xs ys o u f h a p q r s all =
    let A : GraphView → Type 0 = λ x. IsAllotment x xs o f a in
    let B : List ℕ → Type 0 = λ x. IsAllotment w x o f a in
    let C : List (Option ℕ) → Type 0 = λ x. IsAllotment w ys x f a in
    let D : ℕ → Type 0 = λ x. IsAllotment w ys u x a in
    subst D s (subst C r (subst B q (subst A p all)))

pub all_reached : (v w : GraphView) (xs ys : List ℕ) → v ≡ w → xs ≡ ys → All (IsReached v) xs → All (IsReached w) ys
all_reached v w xs ys p q all =
    let A : GraphView → Type 0 = λ x. All (IsReached x) xs in
    let B : List ℕ → Type 0 = λ x. All (IsReached w) x in
    subst B q (subst A p all)
