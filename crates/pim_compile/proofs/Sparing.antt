-- The shorter of two PLiM programs, and of which schedules it takes no more cycles than.
use Rattle.std.proofs.Common.{◌≡◌, ℕ, ◌<◌, ◌≤◌, Bool, true, false, if◌then◌else◌, List, [], ◌∷◌, ◌++◌, length, map, replicate, Option, Some, None, refl, sym, ◌∙◌, ap, subst, arith}
use Rattle.std.specs.Prelude.{All, IfSome, nat_le, nat_lt}
use Rattle.std.proofs.lemmas.Bool.{leb-true, leb-false, ltb-true, ltb-false}
use Rattle.std.proofs.lemmas.List.{length-map, length-replicate}
use Rattle.std.proofs.lemmas.List.Elements.{All-append, All-cons, All-nil, All-weaker}
use Rattle.pim_aig.specs.Graph.{AigView}
use Rattle.pim_aig.specs.Values.{aval}
use Rattle.pim_isa.specs.PortLists.{labels_of}
use Rattle.pim_isa.specs.Primed.{IsPrimed}
use Rattle.pim_isa.specs.Programs.{PortsView, ProgramView}
use Rattle.pim_isa.specs.Realizes.{Realizes}
use Rattle.pim_isa.specs.declared.target.Target.TheVariants.{Plim}
use Rattle.pim_mig.specs.Graph.{MigView}
use Rattle.pim_mig.specs.Majs.{majs}
use Rattle.pim_mig.specs.Values.{mval}
use Rattle.pim_rewrite.specs.Rewritten.{rewritten}
use Rattle.pim_rm3.specs.Costs.{rm3_cost}
use Rattle.pim_rm3.specs.Steps.{enough_of, smart_cost}
use Rattle.pim_tidy.specs.Tidied.{tidied}
use Rattle.pim_compile.specs.Cycles.{IsSmartBy, graphs_at}
use Rattle.pim_compile.specs.inner.Candidates.{IsProgramOf, shorter}
use Rattle.pim_compile.specs.inner.Smart.{IsBase, IsBaseOf, IsPassedOver, IsPlim, IsSmart, IsSmartest, IsSmartestAt, if_short}
use Rattle.pim_compile.specs.declared.compiling.Level.{Level}
use Rattle.pim_compile.specs.declared.compiling.Level.TheVariants as level
use Rattle.pim_compile.proofs.Realized.{Realizes-same}

if_some : (P : ProgramView → Type 0) (r : Option ProgramView) → ((p : ProgramView) → r ≡ Some p → P p) → IfSome r P
if_some P None gives = tt
if_some P (Some p) gives = gives p refl

module _ (g : AigView) (ports : PortsView) (budget : ℕ) where
  -- a shorter program too takes no more cycles than these schedules
  fewer_too : (p q : ProgramView) (ms : List MigView) → length p.instrs ≤ length q.instrs → All (IsSmartBy budget q) ms → All (IsSmartBy budget p) ms
  fewer_too p q ms less all =
      All-weaker (IsSmartBy budget q) (IsSmartBy budget p) (λ m h enough. (let few : length q.instrs ≤ smart_cost m = h enough in omega arith)) ms all

  -- nor does one that takes no more than the graph's own gates, where these are passed over
  passed : (p : ProgramView) (ms : List MigView) → length p.instrs ≤ rm3_cost g → All (IsPassedOver g budget) ms → All (IsSmartBy budget p) ms
  passed p ms few all =
      All-weaker (IsPassedOver g budget) (IsSmartBy budget p) (λ m h enough. (let more : rm3_cost g < smart_cost m = h enough in omega arith)) ms all

  by_length : (b : Bool) (ms ns : List MigView) (p q : ProgramView) → b ≡ nat_lt (length q.instrs) (length p.instrs) → IsSmart g ports budget ms p → IsSmart g ports budget ns q → IsSmartest g ports budget (ms ++ ns) (Some (if b then q else p))
  by_length true ms ns p q is here there =
      let less : length q.instrs < length p.instrs = ltb-true (length q.instrs) (length p.instrs) (sym is) in
      record {
        program = there.program;
        few = there.few;
        smart = All-append (IsSmartBy budget q) ms ns (fewer_too q p ms (omega arith) here.smart) there.smart;
      }
  by_length false ms ns p q is here there =
      let more : length p.instrs ≤ length q.instrs = ltb-false (length q.instrs) (length p.instrs) (sym is) in
      record {
        program = here.program;
        few = here.few;
        smart = All-append (IsSmartBy budget p) ms ns here.smart (fewer_too p q ns more there.smart);
      }

  -- the shorter one takes no more cycles than the schedules of both lists
  pub both_smart : (ms ns : List MigView) (r s : Option ProgramView) → IsSmartest g ports budget ms r → IsSmartest g ports budget ns s → IsSmartest g ports budget (ms ++ ns) (shorter r s)
  both_smart ms ns None None here there = All-append (IsPassedOver g budget) ms ns here there
  both_smart ms ns None (Some q) here there = record {
    program = there.program;
    few = there.few;
    smart = All-append (IsSmartBy budget q) ms ns (passed q ms there.few here) there.smart;
  }
  both_smart ms ns (Some p) None here there = record {
    program = here.program;
    few = here.few;
    smart = All-append (IsSmartBy budget p) ms ns here.smart (passed p ns here.few there);
  }
  both_smart ms ns (Some p) (Some q) here there = by_length (nat_lt (length q.instrs) (length p.instrs)) ms ns p q refl here there

  -- the schedule of the graph as it is, as one beside no majority graphs
  as_smart : (s : Option ProgramView) → IsBaseOf g ports budget s → IsSmartest g ports budget [] s
  as_smart None base = All-nil (IsPassedOver g budget)
  as_smart (Some p) base = record { program = base.program; few = omega (arith, base.cycles); smart = All-nil (IsSmartBy budget p) }

  above_zero : (ms : List MigView) (r s : Option ProgramView) (p : ProgramView) → shorter r s ≡ Some p → IsSmartest g ports budget ms r → IsBaseOf g ports budget s → IsSmart g ports budget (ms ++ []) p
  above_zero ms r s p is smart base = subst (IsSmartest g ports budget (ms ++ [])) is (both_smart ms [] r s smart (as_smart s base))

  plim : (effort : Level) (r s : Option ProgramView) (p : ProgramView) → shorter r s ≡ Some p → IsSmartestAt effort g ports budget r → IsBaseOf g ports budget s → IsPlim effort g ports budget p
  plim level.Zero r s p is smart base =
      let whole : s ≡ Some p = sym (ap (λ (o : Option ProgramView). shorter o s) smart) ∙ is in
      let found : IsBase g ports budget p = subst (IsBaseOf g ports budget) whole base in
      record { program = found.program; cycles = found.cycles }
  plim level.One r s p is smart base =
      let found = above_zero (graphs_at level.One g) r s p is smart base in
      record { program = found.program; cycles = record { few = found.few; smart = found.smart } }
  plim level.Two r s p is smart base =
      let found = above_zero (graphs_at level.Two g) r s p is smart base in
      record { program = found.program; cycles = record { few = found.few; smart = found.smart } }

  pub plim_fits : (effort : Level) (r s : Option ProgramView) → IsSmartestAt effort g ports budget r → IsBaseOf g ports budget s → IfSome (shorter r s) (IsPlim effort g ports budget)
  plim_fits effort r s smart base = if_some (IsPlim effort g ports budget) (shorter r s) (λ p is. plim effort r s p is smart base)

  -- of the two majority graphs of level 2
  pub two_graphs : (m r : MigView) (first second : Option ProgramView) → m ≡ majs (tidied g) → r ≡ rewritten m → IsSmartest g ports budget (r ∷ []) first → IsSmartest g ports budget (m ∷ []) second →
      IsSmartest g ports budget (graphs_at level.Two g) (shorter first second)
  two_graphs m r first second made turned here there =
      let F : MigView → Type 0 = λ x. IsSmartest g ports budget (x ∷ []) first in
      let S : MigView → Type 0 = λ x. IsSmartest g ports budget (x ∷ []) second in
      let M : MigView = majs (tidied g) in
      both_smart (rewritten M ∷ []) (M ∷ []) first second (subst F (turned ∙ ap rewritten made) here) (subst S made there)

  -- ---- one majority graph

  module _ (m : MigView) (same : (bits : List Bool) → length bits ≡ m.inputs → map (mval m bits) m.outputs ≡ map (aval g bits) g.outputs) (inputs : length ports.inputs ≡ m.inputs) where
    if_kept : (b : Bool) (p : ProgramView) → b ≡ nat_le (length p.instrs) (rm3_cost g) → IsProgramOf g ports Plim budget p → length p.instrs ≡ smart_cost m →
        IsSmartest g ports budget (m ∷ []) (if b then Some p else None)
    if_kept true p is program cycles = record {
      program = program;
      few = leb-true (length p.instrs) (rm3_cost g) (sym is);
      smart = All-cons (IsSmartBy budget p) m [] (λ enough. omega (arith, cycles)) (All-nil (IsSmartBy budget p));
    }
    if_kept false p is program cycles =
        let more : rm3_cost g < length p.instrs = leb-false (length p.instrs) (rm3_cost g) (sym is) in
        All-cons (IsPassedOver g budget) m [] (λ enough. omega (arith, cycles, more)) (All-nil (IsPassedOver g budget))

    pub kept : (most : ℕ) (p : ProgramView) → most ≡ rm3_cost g → Realizes p ports.inputs (λ bits. map (mval m bits) m.outputs) → labels_of p.outputs ≡ ports.outputs → p.target ≡ Plim → p.cells ≤ budget → IsPrimed p.instrs → length p.instrs ≡ smart_cost m →
        IsSmartest g ports budget (m ∷ []) (if_short most p)
    kept most p is realizes labels target cells primed cycles =
        let program : IsProgramOf g ports Plim budget p = record {
          realizes = Realizes-same p ports.inputs (λ bits. map (mval m bits) m.outputs) (λ bits. map (aval g bits) g.outputs) (λ bits len. same bits (len ∙ inputs)) realizes;
          labels = labels;
          is_target = target;
          cells = cells;
          primed = primed;
        } in
        let S : ℕ → Type 0 = λ k. IsSmartest g ports budget (m ∷ []) (if_short k p) in
        subst S (sym is) (if_kept (nat_le (length p.instrs) (rm3_cost g)) p refl program cycles)

    pub unfit : (cells : ℕ) → budget < cells → cells ≤ enough_of m → IsSmartest g ports budget (m ∷ []) None
    unfit cells wide most =
        All-cons (IsPassedOver g budget) m [] (λ enough. absurd (let z : ⊥ = omega (arith, wide, most, enough) in z)) (All-nil (IsPassedOver g budget))

-- graphs that have the same outputs have as many
pub as_many : {X Y : Type 0} (n : ℕ) (xs : List X) (ys : List Y) (f : List Bool → X → Bool) (h : List Bool → Y → Bool) → ((bits : List Bool) → length bits ≡ n → map (f bits) xs ≡ map (h bits) ys) → length xs ≡ length ys
as_many n xs ys f h same =
    let bits : List Bool = replicate n false in
    let e : map (f bits) xs ≡ map (h bits) ys = same bits (length-replicate n false) in
    sym (length-map xs (f bits)) ∙ (ap (λ (bs : List Bool). length bs) e ∙ length-map ys (h bits))
