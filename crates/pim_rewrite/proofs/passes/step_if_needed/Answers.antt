use Rattle.std.proofs.Common.{◌≡◌, ◌≤◌, Bool, Option, true, length, sym, ◌∙◌, ap, arith}
use Rattle.std.proofs.lemmas.Result.{on_ok_weaker}
use Rattle.pim_rewrite.specs.Cases.{case_of}
use Rattle.pim_rewrite.specs.declared.cases.Case.{Case}
use Rattle.pim_rewrite.specs.inner.Tables.{most_made}
use Rattle.pim_rewrite.proofs.Rounds.{most_one}
use Rattle.pim_rewrite.proofs.passes.step_if_needed.Goals as goal

one : (needed : Bool) (case : Option Case) → needed ≡ true → 1 ≤ most_made needed case
one needed case is = let same = ap (λ (b : Bool). most_made b case) is in omega (arith, most_one case)

pub spread_node-requires-clause-case_there : goal.spread_node-requires-clause-case_there
spread_node-requires-clause-case_there c = c.in-Some.ensures.before (length c.args.lits.now) c.requires.node_there

pub returns-in-Copy-clause-few : goal.returns-in-Copy-clause-few
returns-in-Copy-clause-few c =
    let most = one _ (case_of c.args.reading.now c.args.node) (sym c.is_needed.ensures ∙ c.if-not-is_needed.false) in
    on_ok_weaker c.copy_node.result (λ more. omega (arith, most, more)) c.copy_node.ensures.one_more

pub returns-in-Flip-clause-few : goal.returns-in-Flip-clause-few
returns-in-Flip-clause-few c =
    let most = one _ (case_of c.args.reading.now c.args.node) (sym c.is_needed.ensures ∙ c.if-not-is_needed.false) in
    on_ok_weaker c.flip_node.result (λ more. omega (arith, most, more)) c.flip_node.ensures.one_more
