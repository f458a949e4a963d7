use Rattle.std.proofs.Common.{◌≡◌, ℕ, ◌+◌, ◌++◌, ◌∷◌, [], List, get_or, sym, ◌∙◌, ap, arith}
use Rattle.std.proofs.lemmas.List.FromFn.{map-range_with_len_more}
use Rattle.pim_rm3.specs.Temporaries.{gate_number}
use Rattle.pim_rm3.proofs.votes.gate_cells.Goals as goal

pub loop-literal-preserved : goal.loop-literal-preserved
loop-literal-preserved c =
    let f : ℕ → ℕ = λ k. get_or c.args.held.now (gate_number k) 0 in
    let n = c.loop-literal.literal in
    let next : 0 + n ≡ n = omega arith in
    record {
      list =
          c.in_ok-push.ensures.items
          ∙ ap (λ (ys : List ℕ). ys ++ f n ∷ []) c.loop-literal.invariant.list
          ∙ sym (map-range_with_len_more f 0 n n next);
      len = omega (arith, c.in_ok-push.ensures.len, c.loop-literal.invariant.len);
    }
