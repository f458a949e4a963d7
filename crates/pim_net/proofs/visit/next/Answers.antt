use Rattle.std.proofs.Common.{◌≡◌, length, get_or, ap, sym, ◌∙◌, arith}
use Rattle.pim_net.specs.inner.DepthFirst.{ins, marked_depth, depth_mark}
use Rattle.pim_net.proofs.Equations.{ins_read}
use Rattle.pim_net.specs.Tables.{values}
use Rattle.pim_net.proofs.visit.next.Goals as goal

pub bounds : goal.bounds
bounds c =
    let k = c.in-Cover.k in
    omega (arith, c.requires.sized, (c.requires.wired.covers (get_or c.ins-columns.result.now c.args.at.column 0) k (sym c.in-Cover.ensures)).0)

pub returns-in-Input : goal.returns-in-Input
returns-in-Input c =
    let at = c.args.at in
    let same : c.ins-columns.result.now ≡ ins c.args.equations.now at.equation = c.ins-columns.ensures.ins ∙ sym (ins_read c.args.equations.now at.equation c.index-equations-at.result c.requires.known) in
    let long = ap length same in (
      omega (arith, long, c.if-column-columns.false, c.requires.within),
      ap (λ l. marked_depth c.args.marks.now (values c.args.table.now (get_or l at.column 0))) (sym same) ∙ ap (marked_depth c.args.marks.now) (sym c.in-Input.ensures),
    )

pub returns-in-New : goal.returns-in-New
returns-in-New c =
    let at = c.args.at in
    let same : c.ins-columns.result.now ≡ ins c.args.equations.now at.equation = c.ins-columns.ensures.ins ∙ sym (ins_read c.args.equations.now at.equation c.index-equations-at.result c.requires.known) in
    let long = ap length same in (
      omega (arith, long, c.if-column-columns.false, c.requires.within),
      ap (λ l. values c.args.table.now (get_or l at.column 0)) (sym same) ∙ sym c.in-Cover.ensures,
      c.in-New.is,
    )

pub returns-in-Open : goal.returns-in-Open
returns-in-Open c =
    let at = c.args.at in
    let same : c.ins-columns.result.now ≡ ins c.args.equations.now at.equation = c.ins-columns.ensures.ins ∙ sym (ins_read c.args.equations.now at.equation c.index-equations-at.result c.requires.known) in
    let long = ap length same in (
      omega (arith, long, c.if-column-columns.false, c.requires.within),
      ap (λ l. values c.args.table.now (get_or l at.column 0)) (sym same) ∙ sym c.in-Cover.ensures,
      c.in-Open.is,
    )

pub returns-in-Deep : goal.returns-in-Deep
returns-in-Deep c =
    let at = c.args.at in
    let same : c.ins-columns.result.now ≡ ins c.args.equations.now at.equation = c.ins-columns.ensures.ins ∙ sym (ins_read c.args.equations.now at.equation c.index-equations-at.result c.requires.known) in
    let long = ap length same in (
      omega (arith, long, c.if-column-columns.false, c.requires.within),
      ap (λ l. marked_depth c.args.marks.now (values c.args.table.now (get_or l at.column 0))) (sym same) ∙ ap (marked_depth c.args.marks.now) (sym c.in-Cover.ensures) ∙ ap depth_mark c.in-Deep.is,
    )
