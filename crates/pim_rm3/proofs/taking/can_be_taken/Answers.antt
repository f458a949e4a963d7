use Rattle.std.proofs.Common.{◌≡◌, ℕ, ◌/◌, ◌%◌, Bool, true, false, eqb, nat_lt, ◌&&◌, not, sym, ◌∙◌, ap, arith}
use Rattle.std.proofs.lemmas.Bool.Decides.{nat_tests}
use Rattle.std.proofs.lemmas.Grind.{common_steps}
use Rattle.pim_graph.specs.Graphs.{has}
use Rattle.pim_graph.specs.Orders.{order}
use Rattle.pim_graph.specs.Readers.{reads}
use Rattle.pim_rm3.proofs.taking.can_be_taken.Goals as goal

pub is_last-requires : goal.is_last-requires
is_last-requires c = omega (arith, c.requires.there, c.requires.readers.len)

pub returns-then-not-is_root : goal.returns-then-not-is_root
returns-then-not-is_root c =
    let v = c.args.graph.now in
    let l = c.args.literal.0 in
    let inputs = c.args.inputs in
    let R = has v.roots l in
    let E = eqb (reads v (order v) l) 1 in
    let no_root : R ≡ false = grind (arith, common_steps) in
    let even : eqb (l % 2) 0 ≡ true = grind (arith, nat_tests, common_steps) in
    let above : nat_lt inputs (l / 2) ≡ true = grind (arith, nat_tests, common_steps) in
    c.is_last.ensures ∙ ap (λ (n : ℕ). eqb n 1) (c.requires.readers.counts l c.requires.there)
    ∙ sym (ap (λ (x : Bool). ((x && nat_lt inputs (l / 2)) && not R) && E) even ∙ ap (λ (x : Bool). (x && not R) && E) above ∙ ap (λ (x : Bool). not x && E) no_root)
