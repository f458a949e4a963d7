use Rattle.std.proofs.Common.{◌≡◌, ◌<◌, ◌≤◌, [], List, length, replicate, ap, sym, ◌∙◌, ⊎_elim, subst, arith, rules}
use Rattle.std.proofs.lemmas.Result.{err_from_is_err_and}
use Rattle.std.proofs.lemmas.Bool.{cases_lt}
use Rattle.pim_net.specs.inner.DepthFirst.{mark, is_new, IsMarked}
use Rattle.std.proofs.lemmas.List.{get_or_read}
use Rattle.pim_net.specs.declared.search.Mark.{Mark}
use Rattle.pim_net.specs.declared.search.Mark.TheVariants.{New}
use Rattle.pim_net.proofs.Marking.{marks_new, deep_of, cycle_from}
use Rattle.pim_net.specs.Tables.{values}
use Rattle.pim_net.proofs.levels.levels.Goals as goal
use Rattle.pim_net.proofs.levels.levels.Goals.{then-is_new+in_ok-visit, else-is_new}

pub roots-init : goal.roots-init
roots-init c =
    let is : c.in_ok-marks.marks.items ≡ replicate (length c.args.equations.now) New = c.in_ok-marks.ensures.items_if_clones_equal (λ y h. search rules) in
    record {
      marked = marks_new c.args.equations.now (values c.args.table.now) c.in_ok-marks.marks.items is;
      fresh = c.new-path.ensures.items;
      came = λ k h. absurd (omega arith);
    }

pub roots-preserved : goal.roots-preserved
roots-preserved c =
    let root = c.roots.root in
    let within : root < length c.roots.marks.items = omega (arith, c.roots.invariant.marked.sized, c.roots-test.true) in
    elim c.if-is_new.branch [
      | then-is_new+in_ok-visit w ↦ record {
        marked = subst (λ (v : List Mark). IsMarked c.args.equations.now (values c.args.table.now) v []) (sym (ap (λ v. v.items) w.marks-is)) w.in_ok-visit.ensures.visited.marked;
        fresh = ap (λ v. v.items) w.path-is ∙ w.in_ok-visit.ensures.emptied;
        came = λ k h. ap (λ v. is_new (mark v.items k)) w.marks-is ∙ ⊎_elim
            (λ (lt : k < root). w.in_ok-visit.ensures.visited.kept k (c.roots.invariant.came k lt))
            (λ (ge : root ≤ k). ap (λ n. is_new (mark w.visit.new.marks.items n)) (let e : k ≡ root = omega arith in e) ∙ w.in_ok-visit.ensures.visited.came)
            (cases_lt k root);
      }
      | else-is_new w ↦ record {
        marked = subst (λ (v : List Mark). IsMarked c.args.equations.now (values c.args.table.now) v []) (sym (ap (λ v. v.items) w.marks-is)) c.roots.invariant.marked;
        fresh = ap (λ v. v.items) w.path-is ∙ c.roots.invariant.fresh;
        came = λ k h. ap (λ v. is_new (mark v.items k)) w.marks-is ∙ ⊎_elim
            (λ (lt : k < root). c.roots.invariant.came k lt)
            (λ (ge : root ≤ k).
            ap (λ n. is_new (mark c.roots.marks.items n)) (let e : k ≡ root = omega arith in e)
            ∙ ap is_new (sym (get_or_read c.roots.marks.items root c.index.result.now within c.index.ensures New)) ∙ sym c.is_new.ensures ∙ w.if-is_new.false)
            (cases_lt k root);
      }
    ]

pub returns-in_err-visit : goal.returns-in_err-visit
returns-in_err-visit c =
    let p = err_from_is_err_and c.from_residual-in_err-visit.result c.from_residual-in_err-visit.ensures.1 in
    rw (p.1, p.2) (cycle_from c.args.equations.now (values c.args.table.now) c.roots.marks.items c.roots.root c.in_err-visit.field-0.0 c.roots-test.true c.roots.invariant.marked c.roots.invariant.came c.in_err-visit.ensures.round)

pub returns : goal.returns
returns c = record {
  sized = c.roots.invariant.marked.sized;
  all = λ k h. (deep_of c.args.equations.now (values c.args.table.now) c.roots.marks.items k c.roots.invariant.marked (c.roots.invariant.came k (omega arith))).0;
  depths = λ k h. (deep_of c.args.equations.now (values c.args.table.now) c.roots.marks.items k c.roots.invariant.marked (c.roots.invariant.came k (omega arith))).1;
}
