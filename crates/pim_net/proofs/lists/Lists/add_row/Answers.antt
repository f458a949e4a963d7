use Rattle.std.proofs.Common.{◌≡◌, ◌+◌, ◌++◌, ◌∷◌, [], List, length, sym, ap, ◌∙◌, arith, add-one, length-append}
use Rattle.pim_net.specs.Covers.{rows_of}
use Rattle.pim_net.specs.inner.ListsViews.{ListsView}
use Rattle.pim_net.specs.declared.cover.Bit3.{Bit3}
use Rattle.pim_net.proofs.Rows.{length-rows_of, rows_of-push}
use Rattle.pim_net.proofs.lists.Lists.add_row.Goals as goal

pub invariant_of-self-2 : goal.invariant_of-self-2
invariant_of-self-2 c =
    let i = c.self.inside in
    let cells = c.in_ok-extend_from_slice.ensures.items in
    record {
      filled = rw cells (omega (arith, length-append i.cells.items c.args.row.now, c.self.invariant.filled, c.requires.whole, ap (λ (v : ListsView). length v.ins) c.self.view_is));
      below = c.self.invariant.below;
      narrow = c.self.invariant.narrow;
      short = omega (arith, ap (λ (v : ListsView). length v.rows) c.self.view_is, length-rows_of (length i.ins.items) i.count i.cells.items, c.requires.room);
    }

pub returns-clause-ok : goal.returns-clause-ok
returns-clause-ok c =
    let i = c.self.inside in
    let row = c.args.row.now in
    let whole : length row ≡ length i.ins.items = c.requires.whole ∙ sym (ap (λ (v : ListsView). length v.ins) c.self.view_is) in
    let pushed = rows_of-push (length i.ins.items) i.count i.cells.items row c.self.invariant.filled whole in
    let grown = ap (rows_of (length i.ins.items) (i.count + 1)) c.in_ok-extend_from_slice.ensures.items in
    let rows = grown ∙ (rw add-one pushed) in
    ap (λ (r : List (List Bit3)). record { ins = i.ins.items; rows = r }) rows
    ∙ ap (λ (v : ListsView). record { ins = v.ins; rows = v.rows ++ row ∷ [] }) c.self.view_is
