use Rattle.std.proofs.Common.{◌≡◌, ℕ, ◌+◌, ◌<◌, List, length, get_or, drop, subst, sym, ◌∙◌}
use Rattle.pim_graph.specs.Readers.{occurrences}
use Rattle.pim_graph.proofs.ReadLemmas.{read_rest, read_taken}
use Rattle.pim_graph.proofs.allotments.release.Goals as goal

pub loop-child-preserved : goal.loop-child-preserved
loop-child-preserved c =
    let n = length c.args.graph.now.kids in
    let ks = c.args.children.now in
    let k = c.loop-child.child-index in
    let left = c.loop-child.left in
    let old = λ (x : ℕ). get_or c.args.left.now x 0 in
    let child = get_or ks k 0 in
    let there : child < n = c.requires.there k 0 c.loop-child-test.true in
    let M : List ℕ → Type 0 = λ xs. (x : ℕ) → x < n → get_or xs x 0 + occurrences ks x ≡ old x + occurrences (drop (k + 1) ks) x in
    record {
      len = c.in_ok-give_back.ensures.len;
      left = subst M (sym c.in_ok-give_back.ensures.left) (read_rest left ks old n k c.loop-child.invariant.len c.loop-child-test.true there (read_taken left ks old n k c.loop-child.invariant.len c.loop-child-test.true there c.loop-child.invariant.left c.requires.read) c.loop-child.invariant.left);
      next = c.in_ok-give_back.ensures.next ∙ c.loop-child.invariant.next;
      pool = λ placed first single pool. c.in_ok-give_back.ensures.pool placed first (single k 0 c.loop-child-test.true) (c.loop-child.invariant.pool placed first single pool);
    }
