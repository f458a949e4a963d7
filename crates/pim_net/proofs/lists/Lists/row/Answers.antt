use Rattle.std.proofs.Common.{◌≡◌, ◌-◌, ◌*◌, ◌+◌, ◌<◌, length, sym, ap, ◌∙◌, arith}
use Rattle.std.specs.Prelude.{slice_get}
use Rattle.pim_net.specs.inner.ListsViews.{ListsView}
use Rattle.pim_net.proofs.Rows.{length-rows_of, rows_of-at, row_fits}
use Rattle.pim_net.proofs.lists.Lists.row.Goals as goal

pub slice_bounds-result-end : goal.slice_bounds-result-end
slice_bounds-result-end c =
    let i = c.self.inside in
    let count = ap (λ (v : ListsView). length v.rows) c.self.view_is in
    let within : c.args.k < i.count = omega (arith, count, length-rows_of (length i.ins.items) i.count i.cells.items, c.requires) in
    let w : c.len-width.result ≡ length i.ins.items = omega arith in
    let fits = row_fits c.args.k i.count c.len-width.result within in
    let whole = ap (λ n. i.count * n) w in
    let cells : length c.deref.result.now ≡ i.count * length i.ins.items = ap length c.deref.ensures.value ∙ c.self.invariant.filled in
    omega (arith, fits, cells, whole)

pub returns : goal.returns
returns c =
    let i = c.self.inside in
    let width = length i.ins.items in
    let k = c.args.k in
    let count = ap (λ (v : ListsView). length v.rows) c.self.view_is in
    let within : k < i.count = omega (arith, count, length-rows_of width i.count i.cells.items, c.requires) in
    let at = rows_of-at width i.count i.cells.items k within in
    let there = sym (ap (λ (v : ListsView). slice_get v.rows k) c.self.view_is) ∙ at in
    let w : c.len-width.result ≡ width = omega arith in
    let n : k * c.len-width.result + c.len-width.result - k * c.len-width.result ≡ c.len-width.result = omega arith in
    rw (n, w, c.deref.ensures.value) there
