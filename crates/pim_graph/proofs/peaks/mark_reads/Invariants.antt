use Rattle.std.proofs.Common.{◌≡◌, ◌+◌, ◌<◌, ◌≤◌, ◌||◌, ℕ, List, All, count_by, drop, vec_len}
use Rattle.pim_graph.specs.Graphs.{has}
use Rattle.pim_graph.specs.Readers.{occurrences}
use Rattle.pim_graph.specs.inner.Marks.{is_marked}
use Rattle.pim_graph.proofs.peaks.mark_reads.Given as goal

abbrev pub invariant-loop-child : goal.invariant-loop-child
invariant-loop-child l = record {
  len : vec_len l.marks ≡ vec_len l.initial.marks;
  marked : (x : ℕ) → x < vec_len l.initial.marks → (is_marked l.marks.items x || has (drop l.child-index l.children) x) ≡ (is_marked l.initial.marks.items x || has l.children x);
  more : (earlier : List ℕ) → All (λ c. occurrences earlier c ≡ 1) l.children → count_by (is_marked l.marks.items) earlier ≡ count_by (is_marked l.initial.marks.items) earlier + l.more;
  few : l.more ≤ l.child-index;
}
