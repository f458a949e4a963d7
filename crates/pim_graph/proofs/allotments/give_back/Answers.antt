use Rattle.std.proofs.Common.{◌≡◌, ℕ, ◌-◌, ◌<◌, List, ◌∷◌, false, length, get_or, set, Option, Result, Ok, Err, OnOk, IsPermutation, subst, sym, ◌∙◌, ap, arith}
use Rattle.std.proofs.lemmas.Bool.Decides.{nat_tests}
use Rattle.std.proofs.lemmas.Grind.{common_steps}
use Rattle.std.proofs.lemmas.List.{get_or-set_same}
use Rattle.pim_io.specs.declared.memory.NoMemory.{NoMemory}
use Rattle.pim_graph.specs.Graphs.{GraphView, has}
use Rattle.pim_graph.specs.Readers.{occurrences}
use Rattle.pim_graph.specs.inner.Pools.{IsPool, SparesView, holds, is_taken}
use Rattle.pim_graph.proofs.Pooling.{Stays, stays_pool, freed_pool}
use Rattle.pim_graph.proofs.Pooling.Stays.{read_more, is_root, is_over}
use Rattle.pim_graph.proofs.allotments.give_back.Goals as goal
use Rattle.pim_graph.proofs.allotments.give_back.Goals.{then-not-is_spent-via-then-not-is_spent, then-not-is_spent-via-else-not-is_spent+then-is_root, then-not-is_spent-via-else-not-is_spent+else-is_root+then-is_taken}

pub returns-then-not-is_spent-clause-pool : goal.returns-then-not-is_spent-clause-pool
returns-then-not-is_spent-clause-pool c =
    let left = c.args.left.now in
    let child = c.args.child in
    let g = c.args.graph.now in
    let v = get_or left child 0 - 1 in
    let fits : child < length left = omega (arith, c.requires.len) in
    let now : get_or c.take_back.new.self child 0 ≡ v = ap (λ (xs : List ℕ). get_or xs child 0) c.take_back.ensures ∙ get_or-set_same left child v 0 fits in
    let why : Stays g left child v c.args.taken = elim c.then-not-is_spent.branch [
      | then-not-is_spent-via-then-not-is_spent w ↦ read_more (grind (arith, nat_tests, common_steps))
      | then-not-is_spent-via-else-not-is_spent+then-is_root w ↦ is_root (grind (arith, common_steps))
      | then-not-is_spent-via-else-not-is_spent+else-is_root+then-is_taken w ↦ is_over (grind (arith, common_steps))
    ] in
    λ placed first single pool.
    let M : List ℕ → Type 0 = λ xs. IsPool (holds g xs c.args.taken) placed c.args.cells.now first c.args.spares.now in
    subst M (sym c.take_back.ensures) (stays_pool g left child v c.args.taken placed c.args.cells.now first c.args.spares.now fits c.requires.read why pool)

pooled : (r : Result (Unit {0}) NoMemory) (g : GraphView) (left : List ℕ) (child : ℕ) (taken : Option ℕ) (cells : List ℕ) (old new : SparesView) (now : List ℕ) → child < length left → 0 < get_or left child 0 → get_or left child 0 - 1 ≡ 0 → has g.roots child ≡ false → is_taken taken child ≡ false → now ≡ set left child (get_or left child 0 - 1) → OnOk r (IsPermutation (get_or cells child 0 ∷ old.free) new.free) → new.next ≡ old.next → OnOk r ((placed : List ℕ) → (first : ℕ) → occurrences placed child ≡ 1 → IsPool (holds g left taken) placed cells first old → IsPool (holds g now taken) placed cells first new)
pooled (Err e) g left child taken cells old new now fits some z no_root not_taken is perm next = tt
pooled (Ok u) g left child taken cells old new now fits some z no_root not_taken is perm next =
    λ placed first single pool.
    let M : List ℕ → Type 0 = λ xs. IsPool (holds g xs taken) placed cells first new in
    subst M (sym is) (freed_pool g left child (get_or left child 0 - 1) taken placed cells first old new fits some z no_root not_taken single perm next pool)

pub returns-clause-pool : goal.returns-clause-pool
returns-clause-pool c =
    let left = c.args.left.now in
    let child = c.args.child in
    let g = c.args.graph.now in
    let v = get_or left child 0 - 1 in
    let fits : child < length left = omega (arith, c.requires.len) in
    let now : get_or c.take_back.new.self child 0 ≡ v = ap (λ (xs : List ℕ). get_or xs child 0) c.take_back.ensures ∙ get_or-set_same left child v 0 fits in
    let spent : get_or c.take_back.new.self child 0 ≡ 0 = grind (arith, nat_tests, common_steps) in
    let no_root : has g.roots child ≡ false = grind (arith, common_steps) in
    let not_taken : is_taken c.args.taken child ≡ false = grind (arith, common_steps) in
    pooled c.give_back.result g left child c.args.taken c.args.cells.now c.args.spares.now c.give_back.new.self c.take_back.new.self fits c.requires.read (sym now ∙ spent) no_root not_taken c.take_back.ensures c.give_back.ensures.free c.give_back.ensures.next
