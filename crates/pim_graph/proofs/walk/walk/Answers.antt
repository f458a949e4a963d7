use Rattle.std.proofs.Common.{◌≡◌, ℕ, ◌<◌, List, length, slice_index, sym, ap, ◌∙◌, arith, get_or, All, subst}
use Rattle.std.proofs.lemmas.Grind.{common_steps, elements}
use Rattle.pim_graph.specs.Graphs.{kids_of}
use Rattle.pim_graph.specs.Usages.{falling}
use Rattle.pim_graph.specs.declared.walk.Step.TheVariants.{Visit, Emit}
use Rattle.pim_graph.proofs.Walks.{ReadBelow-falling, walk_starts, step_there, walk_emits, emits_less, walk_skips, skips_less, walk_enters, enters_less}
use Rattle.pim_graph.proofs.walk.walk.Goals as goal

pub steps-init : goal.steps-init
steps-init c =
    let kids : ℕ → List ℕ = λ x. falling (slice_index c.args.usage.now) (kids_of c.args.graph.now x) in
    walk_starts (length c.args.graph.now.kids) kids c.args.gates.now c.push_visits.new.stack.items c.new-out.result.items c.in_ok-seen.seen.items c.new-out.ensures.items (grind (arith, common_steps)) c.requires.there (grind (arith, common_steps)) (λ x h. grind (arith, elements))

pub index_mut-requires : goal.index_mut-requires
index_mut-requires c =
    let there : c.in-Emit.gate < length c.args.graph.now.kids = step_there _ _ _ c.steps.stack.items c.pop.new.self.items c.steps.out.items c.steps.seen.items c.in-Some.step (Emit c.in-Emit.gate) c.steps.invariant c.in-Some.ensures.items c.in-Emit.is in
    omega (arith, c.steps.invariant.len)

pub steps-smaller-in-Emit : goal.steps-smaller-in-Emit
steps-smaller-in-Emit c =
    emits_less (λ x. falling (slice_index c.args.usage.now) (kids_of c.args.graph.now x)) c.steps.stack.items c.pop.new.self.items c.steps.out.items c.push.new.self.items c.in-Some.step c.in-Emit.gate c.in-Some.ensures.items c.in-Emit.is c.in_ok-push-in-Emit.ensures.items

pub steps-preserved-in-Emit : goal.steps-preserved-in-Emit
steps-preserved-in-Emit c =
    walk_emits (length c.args.graph.now.kids) (λ x. falling (slice_index c.args.usage.now) (kids_of c.args.graph.now x)) _ c.steps.stack.items c.pop.new.self.items c.steps.out.items c.push.new.self.items c.steps.seen.items c.in-Some.step c.in-Emit.gate c.steps.invariant c.in-Some.ensures.items c.in-Emit.is c.in_ok-push-in-Emit.ensures.items

pub index-requires : goal.index-requires
index-requires c =
    let there : c.in-Visit.gate < length c.args.graph.now.kids = step_there _ _ _ c.steps.stack.items c.pop.new.self.items c.steps.out.items c.steps.seen.items c.in-Some.step (Visit c.in-Visit.gate) c.steps.invariant c.in-Some.ensures.items c.in-Visit.is in
    omega (arith, c.steps.invariant.len)

pub steps-smaller-then-index : goal.steps-smaller-then-index
steps-smaller-then-index c =
    skips_less (length c.args.graph.now.kids) (λ x. falling (slice_index c.args.usage.now) (kids_of c.args.graph.now x)) (ReadBelow-falling c.args.graph.now c.len.ensures.sound (slice_index c.args.usage.now)) _ c.steps.stack.items c.pop.new.self.items c.steps.out.items c.steps.seen.items c.in-Some.step c.in-Visit.gate c.index.result.now c.steps.invariant c.in-Some.ensures.items c.in-Visit.is c.index.ensures c.if-index.true

pub steps-preserved-then-index : goal.steps-preserved-then-index
steps-preserved-then-index c =
    walk_skips (length c.args.graph.now.kids) (λ x. falling (slice_index c.args.usage.now) (kids_of c.args.graph.now x)) (ReadBelow-falling c.args.graph.now c.len.ensures.sound (slice_index c.args.usage.now)) _ c.steps.stack.items c.pop.new.self.items c.steps.out.items c.steps.seen.items c.in-Some.step c.in-Visit.gate c.index.result.now c.steps.invariant c.in-Some.ensures.items c.in-Visit.is c.index.ensures c.if-index.true

pub children-requires : goal.children-requires
children-requires c =
    step_there _ _ _ c.steps.stack.items c.pop.new.self.items c.steps.out.items c.steps.seen.items c.in-Some.step (Visit c.in-Visit.gate) c.steps.invariant c.in-Some.ensures.items c.in-Visit.is

pub steps-smaller : goal.steps-smaller
steps-smaller c =
    let kids : ℕ → List ℕ = λ x. falling (slice_index c.args.usage.now) (kids_of c.args.graph.now x) in
    let order : c.deref.result.now ≡ kids c.in-Visit.gate = c.deref.ensures.value ∙ (c.in_ok-put_falling.ensures.list ∙ ap (falling (slice_index c.args.usage.now)) c.children.ensures.list) in
    enters_less (length c.args.graph.now.kids) kids (ReadBelow-falling c.args.graph.now c.len.ensures.sound (slice_index c.args.usage.now)) _ c.steps.stack.items c.pop.new.self.items c.push-in-Some.new.self.items c.push_visits-in-Some.new.stack.items c.steps.out.items c.steps.seen.items c.in-Some.step c.in-Visit.gate c.index.result.now c.deref.result.now c.steps.invariant c.in-Some.ensures.items c.in-Visit.is c.index.ensures c.if-index.false c.in_ok-push.ensures.items order c.in_ok-push_visits-2.ensures

pub steps-preserved : goal.steps-preserved
steps-preserved c =
    let kids : ℕ → List ℕ = λ x. falling (slice_index c.args.usage.now) (kids_of c.args.graph.now x) in
    let order : c.deref.result.now ≡ kids c.in-Visit.gate = c.deref.ensures.value ∙ (c.in_ok-put_falling.ensures.list ∙ ap (falling (slice_index c.args.usage.now)) c.children.ensures.list) in
    let all : All (λ x. x < length c.args.graph.now.kids) c.deref.result.now = λ k d l. let b : get_or c.deref.result.now k d < length c.args.usage.now = (subst (All (λ x. x < length c.args.usage.now)) (sym c.deref.ensures.value) c.in_ok-put_falling.ensures.there) k d l in omega (arith, c.requires.usages) in
    walk_enters (length c.args.graph.now.kids) kids (ReadBelow-falling c.args.graph.now c.len.ensures.sound (slice_index c.args.usage.now)) _ c.steps.stack.items c.pop.new.self.items c.push-in-Some.new.self.items c.push_visits-in-Some.new.stack.items c.steps.out.items c.steps.seen.items c.in-Some.step c.in-Visit.gate c.index.result.now c.deref.result.now c.steps.invariant c.in-Some.ensures.items c.in-Visit.is c.index.ensures c.if-index.false c.in_ok-push.ensures.items order all c.in_ok-push_visits-2.ensures
