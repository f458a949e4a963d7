use Rattle.std.proofs.Common.{◌≡◌, ℕ, ◌+◌, ◌<◌, ◌++◌, ◌∷◌, [], List, length, get_or, set, take, drop, count_by, Option, refl, sym, ◌∙◌, ap, subst, arith}
use Rattle.std.proofs.Math.ListN.{length-set}
use Rattle.pim_graph.specs.Allotments.{cells_along, taken_at}
use Rattle.pim_graph.specs.Peaks.{needed, peak}
use Rattle.pim_graph.specs.Readers.{CountsReads}
use Rattle.pim_graph.specs.inner.Pools.{IsChoice, IsPool, holds}
use Rattle.pim_graph.proofs.Allotting.{placed_pool, placed_cells, next_pool, held_at, next_within, next_is, cells_left, cells_end, cells_peak, option_all, allotted, empty_pool, no_cells, below_of, over_before, children_single}
use Rattle.pim_graph.proofs.Peaking.{peak_bounds}
use Rattle.pim_graph.proofs.Placing.{reads_left}
use Rattle.pim_graph.proofs.allotments.allot.Goals as goal

pub loop-place-init : goal.loop-place-init
loop-place-init c = record {
  left = c.in_ok-left.ensures.counts;
  len = omega (arith, c.in_ok-cells.ensures.len, c.len.ensures.count, c.in_ok-cells.cells.ok);
  pool = empty_pool _ _ _ _ c.new-spares.ensures;
  given = no_cells _ _ _ _;
  most = omega (arith, ap (λ s. s.next) c.new-spares.ensures);
  cells = omega (arith, ap (λ s. s.next) c.new-spares.ensures);
}

pub choose-cell-requires-clause-there : goal.choose-cell-requires-clause-there
choose-cell-requires-clause-there c =
    let g = c.args.graph.now in
    let order = c.args.order.now in
    let p = c.loop-place.place in
    let len = ap (λ (xs : List ℕ). length xs) c.deref.ensures.value in
    option_all c.taken_at-taken.result (λ k. k < length c.deref.result.now) (λ k e.
    let b = below_of g order p k c.requires.placed (over_before g order c.args.over.now p k c.requires.placed c.requires.over c.loop-place-test.true (sym c.taken_at-taken.ensures ∙ e)) in
    omega (arith, c.loop-place.invariant.len))

pub loop-place-preserved : goal.loop-place-preserved
loop-place-preserved c =
    let g = c.args.graph.now in
    let order = c.args.order.now in
    let over = c.args.over.now in
    let p = c.loop-place.place in
    let x = get_or order p 0 in
    let left = c.loop-place.left in
    let new = c.release.new.left in
    let old = c.loop-place.cells.items in
    let cell = c.choose-cell.result in
    let before = c.loop-place.spares in
    let chosen = c.choose-cell.new.spares in
    let inv = c.loop-place.invariant in
    let here = c.loop-place-test.true in
    let n = length g.kids in
    let held = count_by (needed g (drop p order)) (take p order) in
    let choice : IsChoice (taken_at over p) old before chosen cell =
    let M : Option ℕ → Type 0 = λ t. IsChoice t old before chosen cell in
    let N : List ℕ → Type 0 = λ xs. IsChoice c.taken_at-taken.result xs before chosen cell in
    subst M c.taken_at-taken.ensures (subst N c.deref.ensures.value c.choose-cell.ensures) in
    let need = c.requires.needed p here in
    let pool = placed_pool g order left old over p c.args.first cell before chosen c.requires.placed c.requires.over here inv.left inv.len need choice inv.pool in
    let counts : CountsReads g (drop (p + 1) order) new = record {
      len = c.in_ok-release.ensures.len;
      counts = reads_left g order p c.children-children.result.now left new n here c.children-children.ensures.list inv.left.counts c.in_ok-release.ensures.left;
    } in
    let taken = c.taken_at-taken.result in
    let px = take p order ++ x ∷ [] in
    let single = children_single g order c.children-children.result.now p c.requires.placed here c.children-children.ensures.list in
    let K : Option ℕ → Type 0 = λ t. IsPool (holds g left t) px (set old x cell) c.args.first chosen in
    let L : List ℕ → Type 0 = λ xs. IsPool (holds g left taken) px xs c.args.first chosen in
    let M : List ℕ → Type 0 = λ xs. IsPool (holds g new taken) px xs c.args.first c.release.new.spares in
    let N : Option ℕ → Type 0 = λ t. IsPool (holds g new t) px (set old x cell) c.args.first c.release.new.spares in
    let value = c.deref-in-loop-place.ensures.value in
    let released = subst N c.taken_at-taken.ensures (subst M value (c.in_ok-release.ensures.pool px c.args.first single (subst L (sym value) (subst K (sym c.taken_at-taken.ensures) pool)))) in
    let count = inv.pool.counted in
    let same = held_at g order left p c.requires.placed inv.left in
    let most = peak_bounds g [] order p here in
    let next = c.in_ok-release.ensures.next in
    let counted : c.args.first + length before.free + held ≡ before.next = omega arith in
    let within = next_within (taken_at over p) old before chosen cell c.args.first held (peak g order) choice counted inv.most (omega arith) in
    record {
      left = counts;
      len = length-set old x cell ∙ inv.len;
      pool = next_pool g order new (set old x cell) over p c.args.first c.release.new.spares c.requires.placed c.requires.over here counts released;
      given = placed_cells g order left old over p c.args.first cell before chosen c.requires.placed c.requires.over here inv.left inv.len need choice inv.pool inv.given;
      most = omega arith;
      cells =
          let is = next_is (taken_at over p) old before chosen cell c.args.first held choice counted in
          cells_left g order over p c.args.first before.next c.release.new.spares.next (c.args.first + cells_along g order over) here (next ∙ is) inv.cells;
    }

pub returns-clause-allotment : goal.returns-clause-allotment
returns-clause-allotment c =
    let inv = c.loop-place.invariant in
    allotted c.args.graph.now c.args.order.now c.loop-place.left c.loop-place.cells.items c.args.over.now c.loop-place.place c.args.first c.loop-place.spares _ c.loop-place-test.false inv.len refl c.width.ensures inv.given inv.pool

pub returns-clause-cells : goal.returns-clause-cells
returns-clause-cells c =
    let inv = c.loop-place.invariant in
    let next = cells_end c.args.graph.now c.args.order.now c.args.over.now c.loop-place.place c.args.first c.loop-place.spares.next _ c.loop-place-test.false (omega (arith, inv.pool.counted)) inv.cells in
    c.width.ensures ∙ next

pub returns-clause-exact : goal.returns-clause-exact
returns-clause-exact c = λ none.
    let inv = c.loop-place.invariant in
    let next = cells_end c.args.graph.now c.args.order.now c.args.over.now c.loop-place.place c.args.first c.loop-place.spares.next _ c.loop-place-test.false (omega (arith, inv.pool.counted)) inv.cells in
    c.width.ensures ∙ next ∙ ap (λ (n : ℕ). c.args.first + n) (cells_peak c.args.graph.now c.args.over.now [] c.args.order.now none)
