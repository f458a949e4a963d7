use Rattle.std.proofs.Common.{◌≡◌, ℕ, [], length, List, arith, ap}
use Rattle.std.proofs.lemmas.List.{drop_more}
use Rattle.pim_graph.specs.Readers.{occurrences}
use Rattle.pim_graph.specs.Trees.{reads_in}
use Rattle.pim_graph.proofs.ReadLemmas.{reads_room}
use Rattle.pim_graph.proofs.trees.read_counts.Goals as goal

pub loop-gate-preserved : goal.loop-gate-preserved
loop-gate-preserved c =
    let kids = c.args.graph.now.kids in
    let old = c.loop-gate.counts.items in
    let new = c.count_reads.new.counts.items in
    let gate = c.loop-gate.gate in
    let len : length new ≡ length kids = omega (arith, c.count_reads.ensures.len, c.loop-gate.invariant.len) in
    record {
      len = len;
      counts = λ x l.
          let before = c.loop-gate.invariant.counts x l in
          let more = c.count_reads.ensures.counts x (omega (arith, c.loop-gate.invariant.len)) in
          let cut = ap (λ (ks : List (List ℕ)). reads_in ks x) (drop_more kids gate [] (omega arith)) in
          let list = ap (λ (ks : List ℕ). occurrences ks x) c.children.ensures.list in
          omega arith;
      room = reads_room c.children.result.now old new (length kids) gate c.loop-gate.invariant.len len c.children.ensures.few (λ x l. c.count_reads.ensures.counts x (omega (arith, c.loop-gate.invariant.len))) c.loop-gate.invariant.room;
    }
