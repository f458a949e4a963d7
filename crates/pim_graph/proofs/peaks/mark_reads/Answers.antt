use Rattle.std.proofs.Common.{◌≡◌, ℕ, ◌+◌, ◌<◌, ◌≤◌, ◌||◌, List, Bool, true, false, cond, length, get_or, set, drop, count_by, All, vec_len, ap, subst, sym, ◌∙◌, arith}
use Rattle.std.proofs.lemmas.List.{length-set}
use Rattle.pim_graph.specs.Graphs.{has}
use Rattle.pim_graph.specs.Readers.{occurrences}
use Rattle.pim_graph.specs.inner.Marks.{is_marked}
use Rattle.pim_graph.proofs.Marking.{reads_counted, reads_marked}
use Rattle.pim_graph.proofs.peaks.mark_reads.Goals as goal

few_more : (count more k : ℕ) (old : Bool) → count ≤ k → more ≡ cond old 0 1 → count + more ≤ k + 1
few_more count more k true few is = omega arith
few_more count more k false few is = omega arith

pub loop-child-preserved : goal.loop-child-preserved
loop-child-preserved c =
    let first = c.args.marks.now.items in
    let old = c.loop-child.marks.items in
    let children = c.args.children.now in
    let k = c.loop-child.child-index in
    let child = get_or children k 0 in
    let n = vec_len c.args.marks.now in
    let len : length old ≡ n = omega (arith, c.loop-child.invariant.len) in
    let made : c.mark-more.new.marks.items ≡ set old child true = c.mark-more.ensures.marked in
    let more = c.mark-more.ensures.more in
    let IsMarked : List Bool → Type 0 = λ xs. (x : ℕ) → x < n → (is_marked xs x || has (drop (k + 1) children) x) ≡ (is_marked first x || has children x) in
    let IsCounted : List Bool → Type 0 = λ xs. (earlier : List ℕ) → All (λ c. occurrences earlier c ≡ 1) children → count_by (is_marked xs) earlier ≡ count_by (is_marked first) earlier + (c.loop-child.more + c.mark-more.result) in
    record {
      len = omega (arith, ap length made, length-set old child true);
      marked = subst IsMarked (sym made) (reads_marked first old children k n c.loop-child-test.true c.requires.there len c.loop-child.invariant.marked);
      more = subst IsCounted (sym made) (λ earlier once. reads_counted first old children k n c.loop-child.more c.loop-child-test.true c.requires.there len c.loop-child.invariant.more earlier once ∙ ap (λ (m : ℕ). count_by (is_marked first) earlier + (c.loop-child.more + m)) (sym more));
      few = few_more c.loop-child.more c.mark-more.result k (is_marked old child) c.loop-child.invariant.few more;
    }
