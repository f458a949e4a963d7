use Rattle.std.proofs.Common.{◌≡◌, ◌+◌, ◌*◌, ◌∷◌, [], ◌++◌, List, All, length, map, sym, ◌∙◌, ap, subst, arith, length-append}
use Rattle.std.specs.List.{range_with_len}
use Rattle.std.proofs.lemmas.List.Elements.{All-push}
use Rattle.std.proofs.lemmas.List.FromFn.{map-range_with_len_more}
use Rattle.pim_aig.specs.Graph.{IsOfFirst}
use Rattle.pim_aig.specs.Literals.{plain}
use Rattle.pim_aig.specs.declared.literal.Lit.{Lit}
use Rattle.pim_aig.proofs.moving.plain_literals.Goals as goal

pub loop-node-preserved : goal.loop-node-preserved
loop-node-preserved c =
    let n = c.loop-node.node in
    let inv = c.loop-node.invariant in
    let new = c.plain.result in
    let items = c.in_ok-push.ensures.items in
    let P : List Lit → Type 0 = λ xs. All (IsOfFirst (1 + c.args.inputs)) xs in
    let is : new.0 ≡ 2 * n = ap (λ (l : Lit). l.0) c.plain.ensures in
    record {
      same = items ∙ ap (λ (xs : List Lit). xs ++ new ∷ []) inv.same ∙ ap (λ (l : Lit). map plain (range_with_len 0 n) ++ l ∷ []) c.plain.ensures
          ∙ sym (map-range_with_len_more plain 0 n n (omega arith));
      there = subst P (sym items) (All-push (IsOfFirst (1 + c.args.inputs)) c.loop-node.lits.items new inv.there (omega (arith, is, c.loop-node-test.true)));
      count = omega (arith, ap (λ (xs : List Lit). length xs) items, length-append c.loop-node.lits.items (new ∷ []), inv.count);
    }
