use Rattle.std.proofs.Common.{◌≡◌, ◌+◌, ◌<◌, ◌∷◌, [], ◌∙◌, Some, ℕ, List, sym, subst, length, arith, ap, get_or, slice_index}
use Rattle.pim_graph.specs.Usages.{usages}
use Rattle.pim_graph.proofs.TreeShapes.{one_root, root_there, tree_none, tree_no, tree_yes, counted_once}
use Rattle.std.proofs.lemmas.Bool.{false≢true}
use Rattle.std.proofs.lemmas.List.{get_or_default}
use Rattle.pim_graph.proofs.trees.root_usage.Goals as goal

pub returns-then-not-is_one : goal.returns-then-not-is_one
returns-then-not-is_one c =
    let g = c.args.graph.now in
    (sym (tree_none g (λ e. false≢true (sym c.if-not-is_one.true ∙ c.is_one.ensures.1 (ap length c.roots-roots.ensures.list ∙ e)))), c.roots-roots.ensures.sound)

pub returns-then-root-len : goal.returns-then-root-len
returns-then-root-len c =
    let g = c.args.graph.now in
    let r = get_or c.roots-roots.result.now 0 0 in
    let sound = c.roots-roots.ensures.sound in
    let roots : g.roots ≡ r ∷ [] = sym c.roots-roots.ensures.list ∙ one_root c.roots-roots.result.now (c.is_one.ensures.0 c.if-not-is_one.false) in
    (sym (tree_no g r sound roots (root_there g r sound roots) (λ last once. c.if-root-len.true (last ∙ sym c.len.ensures.count))), sound)

pub returns-then-not-are_read_once : goal.returns-then-not-are_read_once
returns-then-not-are_read_once c =
    let g = c.args.graph.now in
    let r = get_or c.roots-roots.result.now 0 0 in
    let sound = c.roots-roots.ensures.sound in
    let roots : g.roots ≡ r ∷ [] = sym c.roots-roots.ensures.list ∙ one_root c.roots-roots.result.now (c.is_one.ensures.0 c.if-not-is_one.false) in
    let last : r + 1 ≡ length g.kids = c.if-root-len.false ∙ c.len.ensures.count in
    let items = c.in_ok-counts.counts.items in
    let ones = counted_once g items r last c.in_ok-counts.ensures.counts in
    let same : c.deref.result.now ≡ items = c.deref.ensures.value in (
      sym (tree_no g r sound roots (root_there g r sound roots) (λ l once.
          let every = subst (λ (xs : List ℕ). (x : ℕ) → x < r → slice_index xs x ≡ 1) (sym same) (ones.0 once) in
          false≢true (sym c.if-not-are_read_once.true ∙ c.are_read_once.ensures.1 every))),
      sound,
    )

pub returns : goal.returns
returns c =
    let g = c.args.graph.now in
    let r = get_or c.roots-roots.result.now 0 0 in
    let sound = c.roots-roots.ensures.sound in
    let roots : g.roots ≡ r ∷ [] = sym c.roots-roots.ensures.list ∙ one_root c.roots-roots.result.now (c.is_one.ensures.0 c.if-not-is_one.false) in
    let last : r + 1 ≡ length g.kids = c.if-root-len.false ∙ c.len.ensures.count in
    let items = c.in_ok-counts.counts.items in
    let ones = counted_once g items r last c.in_ok-counts.ensures.counts in
    let same : c.deref.result.now ≡ items = c.deref.ensures.value in
    let every = subst (λ (xs : List ℕ). (x : ℕ) → x < r → slice_index xs x ≡ 1) same (c.are_read_once.ensures.0 c.if-not-are_read_once.false) in
    let us = c.in_ok-usages.usages.items in
    let there : r < length us = omega (arith, c.in_ok-usages.usages.ok.0, c.in_ok-usages.ensures.len) in
    let usage : c.index.result.now ≡ slice_index (usages g) r = c.index.ensures ∙ get_or_default us r c.index.result.now 0 there ∙ ap (λ (vs : List ℕ). get_or vs r 0) c.in_ok-usages.ensures.values in
    (ap (λ (u : ℕ). Some u) usage ∙ sym (tree_yes g r sound roots last (ones.1 every)), sound)
