-- Each gate and each temporary is computed: its instructions leave its value in its cell.
use Rattle.std.proofs.Common.{◌≡◌, ◌≢◌, ◌⊎◌, ℕ, zero, suc, ◌+◌, ◌-◌, ◌*◌, ◌/◌, ◌%◌, ◌<◌, ◌≤◌, Bool, true, false, cond, eqb, nat_lt, ◌&&◌, not, List, [], ◌∷◌, length, get_or, All, Some, None, refl, sym, ◌∙◌, ap, arith, inl, inr}
use Rattle.std.proofs.lemmas.Bool.{false≢true}
use Rattle.std.proofs.lemmas.Bool.Decides.{nat_tests, eqb_tells, leb_tells}
use Rattle.pim_aig.specs.declared.literal.Lit.{Lit}
use Rattle.pim_graph.specs.Allotments.{AllotmentView, taken_at}
use Rattle.pim_graph.specs.Graphs.{has, kids_of}
use Rattle.pim_graph.specs.Orders.{IsReached}
use Rattle.pim_graph.specs.Orders.IsReached.{as_root, as_child}
use Rattle.pim_isa.specs.Laws.{ExecLaws}
use Rattle.pim_isa.specs.Steps.{bit, exec, majority, value}
use Rattle.pim_isa.specs.declared.instr.Operand.TheVariants as operand
use Rattle.pim_isa.specs.declared.instr.Instr.{Instr}
use Rattle.pim_isa.specs.declared.instr.Instr.TheVariants.{Rm3}
use Rattle.pim_mig.specs.Graph.{IsMig, MigView, size}
use Rattle.pim_mig.specs.Laws.{MajorityLaws}
use Rattle.pim_mig.specs.Values.{majority as mig_majority, mval, node_values}
use Rattle.pim_mig.specs.declared.node.Maj.{Maj}
use Rattle.pim_rm3.specs.Roles.{is_plain, temporary}
use Rattle.pim_rm3.specs.Schedules.{cell_of, is_inverted, load, operand_of, set_to}
use Rattle.pim_rm3.specs.SmartSchedules.{first_operand, inverse, second_operand, step_instrs, third_instrs}
use Rattle.pim_rm3.specs.Steps.{maj_at, mig_gates, mig_graph, step_of}
use Rattle.pim_rm3.specs.Taking.{can_be_taken}
use Rattle.pim_rm3.specs.Temporaries.{full_graph, full_order, full_over, gate_number, step_takes, temporary_of}
use Rattle.pim_rm3.specs.declared.step.Step.TheVariants as step
use Rattle.pim_rm3.proofs.Lists.{has_whole, has_of_take}
use Rattle.pim_rm3.proofs.FullKids.{ReadsNode, node_vote, odd_or_even, reads_gate, reads_own, vote_node, few_none, odd_is}
use Rattle.pim_rm3.proofs.FullSound.{IsOrdered, over_is}
use Rattle.pim_rm3.proofs.FullValues.{IsRead, third_off, cells, constant_value, instrs_gate, instrs_of, operand_apart, operand_held, placing, plain_value, temporary_value, value_gate, value_of, value_temporary, vote_value}
use Rattle.pim_rm3.proofs.RoleLaws.{least_in, one_temporary}
use Rattle.pim_rm3.proofs.Rows.{at_target, bool_cases, lit_bit, lit_inverted, lit_same, load_gives, operand_value, set_gives}
use Rattle.pim_rm3.proofs.StepLaws.{IsOf, ReadsOne, role_at}
use Rattle.pim_rm3.proofs.StepLaws.ReadsOne.{by_first, by_second, by_third}
use Rattle.pim_rm3.proofs.TakenCells.{takeable}
use Rattle.pim_rm3.proofs.Stepping.{IsSound, Reads, read_before, read_needed}
use Rattle.pim_rm3.proofs.Walks.{input_is, root_gate}

-- what is known of a graph, its order and its cells
pub record IsReady (g : MigView) (a : AllotmentView) : Type 0 where
  pub small : IsMig g
  pub laws : MajorityLaws g
  pub ordered : IsOrdered g
  pub reached : All (IsReached (mig_graph g)) (mig_gates g)
  pub complete : (y : ℕ) → IsReached (mig_graph g) y → has (mig_gates g) y ≡ true
  pub sound : IsSound (placing g a)

no_node : (g : MigView) (r l : ℕ) → ReadsOne g.inputs (role_at g r).p (role_at g r).q (role_at g r).z l → l / 2 ≤ g.inputs → ⊥
no_node g r l (by_first o) few = absurd (omega (arith, o.above, o.same))
no_node g r l (by_second o) few = absurd (omega (arith, o.above, o.same))
no_node g r l (by_third o) few = absurd (omega (arith, o.above, o.same))

-- a node that a gate reads is no input
no_kid : (g : MigView) (r l : ℕ) → r < 2 * size g → ReadsNode g r l → l / 2 ≤ g.inputs → ⊥
no_kid g r l b h few = elim (odd_or_even r) [
  | inl odd ↦ let o = odd_is g r l b odd h in absurd (omega (arith, o.above, o.same))
  | inr even ↦ elim (leb_tells (r / 2) g.inputs) [
    | inl i ↦ few_none g r l b even i.1 h
    | inr above ↦ no_node g r l (node_vote g r l b even above.1 h) few
  ]
]

-- ---- no input is a gate of the order
pub not_input : (g : MigView) (l : ℕ) → ((r : ℕ) → IsReached (mig_graph g) r → r < 2 * size g) → IsReached (mig_graph g) l → 0 < l / 2 → l % 2 ≡ 0 → l / 2 ≤ g.inputs → ⊥
not_input g l there (as_root h) some even few =
    false≢true (sym (root_gate g.inputs g.outputs [] l (λ n. absurd (false≢true n)) h) ∙ input_is g.inputs l some even few)
not_input g l there (as_child {reader = r} before h) some even few = no_kid g r l (there r before) h few

-- ---- majorities
maj_turn : (a b c : Bool) → mig_majority b a c ≡ mig_majority a b c
maj_turn a b c = grind arith

maj_shift : (a b c : Bool) → mig_majority a c b ≡ mig_majority a b c
maj_shift a b c = grind arith

same_majority : (a b c : Bool) → majority a b c ≡ mig_majority a b c
same_majority a b c = grind arith

-- in other roles the majority is the same
role_value : (g : MigView) (bits : List Bool) (l : ℕ) → mig_majority (mval g bits (role_at g l).p) (mval g bits (role_at g l).q) (mval g bits (role_at g l).z) ≡ mig_majority (mval g bits (maj_at g l).x) (mval g bits (maj_at g l).y) (mval g bits (maj_at g l).z)
role_value g bits l =
    let m = maj_at g l in
    let v = mval g bits in
    let x = v m.x in
    let y = v m.y in
    let z = v m.z in
    least_in (λ r. mig_majority (v r.p) (v r.q) (v r.z) ≡ mig_majority x y z) m (can_be_taken g.inputs (mig_graph g) m.x.0) (can_be_taken g.inputs (mig_graph g) m.y.0) (can_be_taken g.inputs (mig_graph g) m.z.0)
    refl
    (maj_shift x y z)
    (maj_turn x y z)
    (maj_shift y x z ∙ maj_turn x y z)
    (maj_turn x z y ∙ maj_shift x y z)
    (maj_shift z x y ∙ (maj_turn x z y ∙ maj_shift x y z))

-- ---- the operands of a node
-- the operands in the roles are of three different nodes, before the node
pub record IsOperands (n : ℕ) (p q z : Lit) : Type 0 where
  pub p_below : p.0 < n
  pub q_below : q.0 < n
  pub z_below : z.0 < n
  pub pq : p.0 / 2 ≢ q.0 / 2
  pub pz : p.0 / 2 ≢ z.0 / 2
  pub qz : q.0 / 2 ≢ z.0 / 2

operands_turn : (n : ℕ) (p q z : Lit) → IsOperands n p q z → IsOperands n q p z
operands_turn n p q z o = record { p_below = o.q_below; q_below = o.p_below; z_below = o.z_below; pq = λ e. o.pq (sym e); pz = o.qz; qz = o.pz }

operands_shift : (n : ℕ) (p q z : Lit) → IsOperands n p q z → IsOperands n p z q
operands_shift n p q z o = record { p_below = o.p_below; q_below = o.z_below; z_below = o.q_below; pq = o.pz; pz = o.pq; qz = λ e. o.qz (sym e) }

pub role_operands : (g : MigView) (l : ℕ) → IsMig g → l < 2 * size g → l % 2 ≡ 0 → g.inputs < l / 2 → IsOperands l (role_at g l).p (role_at g l).q (role_at g l).z
role_operands g l small h even above =
    let m = maj_at g l in
    let k = l / 2 - 1 - g.inputs in
    let d : Maj = record { x = record { 0 = 0 }; y = record { 0 = 0 }; z = record { 0 = 0 } } in
    let b : k < length g.nodes = omega arith in
    let bx = small.x_before k d b in
    let by = small.y_before k d b in
    let bz = small.z_before k d b in
    let apart = small.apart k d b in
    let o : IsOperands l m.x m.y m.z = record {
      p_below = omega arith;
      q_below = omega arith;
      z_below = omega arith;
      pq = apart.first;
      pz = apart.second;
      qz = apart.third;
    } in
    let r2 = operands_shift l m.x m.y m.z o in
    let r3 = operands_turn l m.x m.y m.z o in
    let r4 = operands_shift l m.y m.x m.z r3 in
    let r5 = operands_turn l m.x m.z m.y r2 in
    let r6 = operands_turn l m.y m.z m.x r4 in
    least_in (λ r. IsOperands l r.p r.q r.z) m (can_be_taken g.inputs (mig_graph g) m.x.0) (can_be_taken g.inputs (mig_graph g) m.y.0) (can_be_taken g.inputs (mig_graph g) m.z.0) o r2 r3 r4 r5 r6

-- what an operand of the gate at a place gives
record OperandIs (g : MigView) (a : AllotmentView) (bits m : List Bool) (p : ℕ) (z : ℕ) (e : Lit) : Type 0 where
  held : lit_bit g.inputs (cells g a) m e ≡ mval g bits e
  apart : (e.0 / 2 ≡ 0) ⊎ (cell_of g.inputs (cells g a) e ≢ z)

some_number : (z e : Lit) → Some (gate_number z.0) ≡ Some (gate_number (2 * (e.0 / 2))) → z.0 ≡ 2 * (e.0 / 2)
some_number z e h = let s : gate_number z.0 ≡ gate_number (2 * (e.0 / 2)) = cc in omega arith

none_some : (n : ℕ) → None ≡ Some n → ⊥
none_some n h = cc

pub zero_or_some : (n : ℕ) → (n ≡ 0) ⊎ (0 < n)
zero_or_some zero = inl refl
zero_or_some (suc n) = inr (omega arith)

-- a majority node at its place
pub record VotePlace (g : MigView) (a : AllotmentView) (p l : ℕ) : Type 0 where
  pub ready : IsReady g a
  pub within : p < length (full_order g)
  pub there : l < 2 * size g
  pub even : l % 2 ≡ 0
  pub above : g.inputs < l / 2
  pub here : get_or (full_order g) p 0 ≡ gate_number l
  pub takes : taken_at (full_over g) p ≡ step_takes (step_of g l)
  pub is : step_of g l ≡ step.Vote (role_at g l)

-- and what the row is there
pub record VoteAt (g : MigView) (a : AllotmentView) (bits m : List Bool) (p l : ℕ) : Type 0 where
  pub at : VotePlace g a p l
  pub len : length bits ≡ g.inputs
  pub reads : Reads (placing g a) (value_of g bits) bits p m

pub read_at : (g : MigView) (a : AllotmentView) (p l : ℕ) (e : Lit) → VotePlace g a p l → (IsOf g.inputs e (2 * (e.0 / 2)) → ReadsOne g.inputs (role_at g l).p (role_at g l).q (role_at g l).z (2 * (e.0 / 2))) → IsRead g a p e
read_at g a p l e t one = λ above.
    let k = 2 * (e.0 / 2) in
    ap (λ (n : ℕ). has (kids_of (full_graph g) n) (gate_number k)) t.here
    ∙ reads_gate g l k t.there (vote_node g l k t.there t.even t.above (one (record { above = above; same = refl })))

not_taken : (g : MigView) (l : ℕ) (e : Lit) → step_of g l ≡ step.Vote (role_at g l) → ((role_at g l).over ≡ true → (role_at g l).z.0 ≢ 2 * (e.0 / 2)) → step_takes (step_of g l) ≡ Some (gate_number (2 * (e.0 / 2))) → ⊥
not_taken g l e is other taken =
    let r = role_at g l in
    let whole : cond r.over (Some (gate_number r.z.0)) None ≡ Some (gate_number (2 * (e.0 / 2))) = sym (ap step_takes is) ∙ taken in
    elim (bool_cases r.over) [
      | inl over ↦ other over (some_number r.z e (sym (ap (λ (b : Bool). cond b (Some (gate_number r.z.0)) None) over) ∙ whole))
      | inr bare ↦ none_some (gate_number (2 * (e.0 / 2))) (sym (ap (λ (b : Bool). cond b (Some (gate_number r.z.0)) None) bare) ∙ whole)
    ]

-- an operand that is not taken over stands in another cell
pub operand_off : (g : MigView) (a : AllotmentView) (p l : ℕ) (e : Lit) → VotePlace g a p l → e.0 < l → IsRead g a p e → ((role_at g l).over ≡ true → (role_at g l).z.0 ≢ 2 * (e.0 / 2)) → 0 < e.0 / 2 → cell_of g.inputs (cells g a) e ≢ get_or a.cells (gate_number l) 0
operand_off g a p l e t b read other some =
    let small : e.0 < 2 * size g = omega (arith, t.there) in
    λ same. operand_apart g a p e t.ready.sound t.within small read (λ above taken. not_taken g l e t.is other (sym t.takes ∙ taken)) some
    (same ∙ ap (λ (n : ℕ). get_or a.cells n 0) (sym t.here))

operand_is : (g : MigView) (a : AllotmentView) (bits m : List Bool) (p l : ℕ) (e : Lit) → VoteAt g a bits m p l → e.0 < l → IsRead g a p e → ((role_at g l).over ≡ true → (role_at g l).z.0 ≢ 2 * (e.0 / 2)) → OperandIs g a bits m p (get_or a.cells (gate_number l) 0) e
operand_is g a bits m p l e t b read other =
    let small : e.0 < 2 * size g = omega (arith, t.at.there) in
    record {
      held = operand_held g a bits m p e t.at.ready.laws t.len t.reads small read;
      apart = elim (zero_or_some (e.0 / 2)) [
        | inl z ↦ inl z
        | inr some ↦ inr (operand_off g a p l e t.at b read other some)
      ];
    }

-- the temporary of the gate at its place
record TemporaryIs (g : MigView) (a : AllotmentView) (bits m : List Bool) (l : ℕ) (e : Lit) : Type 0 where
  held : bit m (get_or a.cells (2 * l) 0) ≡ mval g bits (inverse e)
  apart : get_or a.cells (2 * l) 0 ≢ get_or a.cells (gate_number l) 0

gate_not_temporary : (z : Lit) (l : ℕ) → Some (gate_number z.0) ≡ Some (2 * l) → ⊥
gate_not_temporary z l h = let s : gate_number z.0 ≡ 2 * l = cc in absurd (omega arith)

temporary_not_taken : (g : MigView) (l : ℕ) → step_of g l ≡ step.Vote (role_at g l) → step_takes (step_of g l) ≡ Some (2 * l) → ⊥
temporary_not_taken g l is taken =
    let r = role_at g l in
    let whole : cond r.over (Some (gate_number r.z.0)) None ≡ Some (2 * l) = sym (ap step_takes is) ∙ taken in
    elim (bool_cases r.over) [
      | inl over ↦ gate_not_temporary r.z l (sym (ap (λ (b : Bool). cond b (Some (gate_number r.z.0)) None) over) ∙ whole)
      | inr bare ↦ none_some (2 * l) (sym (ap (λ (b : Bool). cond b (Some (gate_number r.z.0)) None) bare) ∙ whole)
    ]

temporary_read : (g : MigView) (a : AllotmentView) (p l : ℕ) (e : Lit) → VotePlace g a p l → temporary (role_at g l) ≡ Some e → has (kids_of (full_graph g) (get_or (full_order g) p 0)) (2 * l) ≡ true
temporary_read g a p l e t wants =
    ap (λ (n : ℕ). has (kids_of (full_graph g) n) (2 * l)) t.here ∙ reads_own g l e t.there (ap temporary_of t.is ∙ wants)

pub temporary_off : (g : MigView) (a : AllotmentView) (p l : ℕ) (e : Lit) → VotePlace g a p l → temporary (role_at g l) ≡ Some e → get_or a.cells (2 * l) 0 ≢ get_or a.cells (gate_number l) 0
temporary_off g a p l e t wants =
    let v = full_graph g in
    let fl = full_order g in
    let kid = temporary_read g a p l e t wants in
    λ same. t.ready.sound.allotted.apart p (2 * l) t.within (read_before v fl p (2 * l) t.ready.sound.placed t.within kid) (read_needed v fl p (2 * l) t.within kid)
    (λ taken. temporary_not_taken g l t.is (sym t.takes ∙ taken)) (same ∙ ap (λ (n : ℕ). get_or a.cells n 0) (sym t.here))

pub temporary_within : (g : MigView) (a : AllotmentView) (p l : ℕ) (e : Lit) → VotePlace g a p l → temporary (role_at g l) ≡ Some e → get_or a.cells (2 * l) 0 < a.width
temporary_within g a p l e t wants =
    let fl = full_order g in
    t.ready.sound.allotted.within (2 * l) (has_of_take fl p (2 * l) (read_before (full_graph g) fl p (2 * l) t.ready.sound.placed t.within (temporary_read g a p l e t wants)))

temporary_is : (g : MigView) (a : AllotmentView) (bits m : List Bool) (p l : ℕ) (e : Lit) → VoteAt g a bits m p l → temporary (role_at g l) ≡ Some e → TemporaryIs g a bits m l e
temporary_is g a bits m p l e t wants = record {
  held = t.reads.kids (2 * l) (temporary_read g a p l e t.at wants) ∙ value_temporary g bits l ∙ ap (temporary_value g bits) (ap temporary_of t.at.is ∙ wants);
  apart = temporary_off g a p l e t.at wants;
}

-- ---- the third operand
third_is : (g : MigView) (a : AllotmentView) (bits m : List Bool) (p l : ℕ) → VoteAt g a bits m p l → bit (exec (third_instrs g.inputs (cells g a) (get_or a.cells (gate_number l) 0) (role_at g l)) m) (get_or a.cells (gate_number l) 0) ≡ mval g bits (role_at g l).z
third_is g a bits m p l t =
    let r = role_at g l in
    let cs = cells g a in
    let z = get_or a.cells (gate_number l) 0 in
    let o = role_operands g l t.at.ready.small t.at.there t.at.even t.at.above in
    let inside = t.at.ready.sound.allotted.within (gate_number l) (ap (has (full_order g)) (sym t.at.here) ∙ has_whole (full_order g) p t.at.within) in
    let fits : z < length m = omega (arith, t.reads.wide) in
    elim (eqb_tells (r.z.0 / 2) 0) [
      | inl none ↦
          ap (λ (b : Bool). bit (exec (cond b (set_to (eqb r.z.0 1) z ∷ []) (cond r.over [] (load g.inputs cs z r.z))) m) z) none.0
          ∙ set_gives m (eqb r.z.0 1) z fits
          ∙ sym (constant_value g bits r.z.0 t.at.ready.laws none.1)
      | inr some ↦
          ap (λ (b : Bool). bit (exec (cond b (set_to (eqb r.z.0 1) z ∷ []) (cond r.over [] (load g.inputs cs z r.z))) m) z) some.0
          ∙ elim (bool_cases r.over) [
            | inl over ↦
                let c = takeable g.inputs (mig_graph g) r.z.0 (sym (over_is g l) ∙ over) in
                let same : 2 * (r.z.0 / 2) ≡ r.z.0 = omega (arith, c.even) in
                let taken : taken_at (full_over g) p ≡ Some (gate_number r.z.0) = t.at.takes ∙ (ap step_takes t.at.is ∙ ap (λ (b : Bool). cond b (Some (gate_number r.z.0)) None) over) in
                let node : ReadsNode g l r.z.0 = vote_node g l r.z.0 t.at.there t.at.even t.at.above (by_third (record { above = c.above; same = same })) in
                let kid = ap (λ (n : ℕ). has (kids_of (full_graph g) n) (gate_number r.z.0)) t.at.here ∙ reads_gate g l r.z.0 t.at.there node in
                ap (λ (b : Bool). bit (exec (cond b [] (load g.inputs cs z r.z)) m) z) over
                ∙ ap (λ (n : ℕ). bit m (get_or a.cells n 0)) (sym t.at.here)
                ∙ ap (bit m) (t.at.ready.sound.allotted.taken p (gate_number r.z.0) t.at.within taken)
                ∙ t.reads.kids (gate_number r.z.0) kid
                ∙ value_gate g bits r.z.0
            | inr bare ↦
                let q = operand_is g a bits m p l r.z t o.z_below (read_at g a p l r.z t.at by_third) (λ sure. absurd (false≢true (sym bare ∙ sure))) in
                ap (λ (b : Bool). bit (exec (cond b [] (load g.inputs cs z r.z)) m) z) bare
                ∙ load_gives g.inputs cs m z r.z fits q.apart
                ∙ q.held
          ]
    ]

-- ---- the first and the second operand, in a row that agrees off the target
agrees : (ins : ℕ) (cs : List ℕ) (m n : List Bool) (z : ℕ) (e : Lit) → ((c : ℕ) → c ≢ z → bit n c ≡ bit m c) → (e.0 / 2 ≡ 0) ⊎ (cell_of ins cs e ≢ z) → lit_bit ins cs n e ≡ lit_bit ins cs m e
agrees ins cs m n z e off apart = lit_same ins cs m n e (elim apart [ inl none ↦ inl none | inr d ↦ inr (off (cell_of ins cs e) d) ])

not_not : (b : Bool) → not (not b) ≡ b
not_not true = refl
not_not false = refl

odd_of : (e : Lit) → is_inverted e ≡ true → e.0 % 2 ≡ 1
odd_of e h = grind (arith, nat_tests)

even_of : (e : Lit) → is_plain e ≡ true → e.0 % 2 ≡ 0
even_of e h = grind (arith, nat_tests)

inverse_odd : (g : MigView) (bits : List Bool) (e : Lit) → is_inverted e ≡ true → mval g bits (inverse e) ≡ mval g bits e
inverse_odd g bits e h =
    let odd = odd_of e h in
    let same : 2 * (e.0 / 2) + 1 ≡ e.0 = omega arith in
    ap (λ (k : ℕ). mval g bits (record { 0 = k })) same

inverse_even : (g : MigView) (bits : List Bool) (e : Lit) → is_plain e ≡ true → mval g bits (inverse e) ≡ not (mval g bits e)
inverse_even g bits e h =
    let even = even_of e h in
    let l = 2 * (e.0 / 2) + 1 in
    let odd : l % 2 ≡ 1 = omega arith in
    let half : l / 2 ≡ e.0 / 2 = omega arith in
    let t : eqb (l % 2) 1 ≡ true = grind (arith, nat_tests) in
    ap (λ (b : Bool). cond b (not (get_or (node_values g bits) (l / 2) false)) (get_or (node_values g bits) (l / 2) false)) t
    ∙ ap (λ (k : ℕ). not (get_or (node_values g bits) k false)) half
    ∙ ap not (sym (plain_value g bits e.0 even))

-- a third operand that is taken over is of another node than the first two
pub third_other : (g : MigView) (l : ℕ) (e : Lit) → (role_at g l).over ≡ true → (role_at g l).z.0 ≡ 2 * (e.0 / 2) → e.0 / 2 ≢ (role_at g l).z.0 / 2 → ⊥
third_other g l e over same apart = apart (omega arith)

first_is : (g : MigView) (a : AllotmentView) (bits m n : List Bool) (p l : ℕ) → VoteAt g a bits m p l → ((c : ℕ) → c ≢ get_or a.cells (gate_number l) 0 → bit n c ≡ bit m c) → value n (first_operand g.inputs (cells g a) (get_or a.cells (2 * l) 0) (role_at g l).p) ≡ mval g bits (role_at g l).p
first_is g a bits m n p l t off =
    let r = role_at g l in
    let cs = cells g a in
    let h = get_or a.cells (2 * l) 0 in
    let o = role_operands g l t.at.ready.small t.at.there t.at.even t.at.above in
    elim (bool_cases (is_inverted r.p)) [
      | inl sure ↦
          let wants : temporary r ≡ Some r.p = ap (λ (b : Bool). cond b (Some r.p) (cond (is_plain r.q) (Some r.q) None)) sure in
          let w = temporary_is g a bits m p l r.p t wants in
          ap (λ (b : Bool). value n (cond b (operand.Cell h) (operand_of g.inputs cs r.p))) sure
          ∙ off h w.apart ∙ w.held ∙ inverse_odd g bits r.p sure
      | inr bare ↦
          let q = operand_is g a bits m p l r.p t o.p_below (read_at g a p l r.p t.at by_first) (λ over same. third_other g l r.p over same o.pz) in
          ap (λ (b : Bool). value n (cond b (operand.Cell h) (operand_of g.inputs cs r.p))) bare
          ∙ operand_value g.inputs cs n r.p bare
          ∙ agrees g.inputs cs m n (get_or a.cells (gate_number l) 0) r.p off q.apart
          ∙ q.held
    ]

plain_parts : (a b : Bool) → (a && b) ≡ false → b ≡ true → a ≡ false
plain_parts true b h t = absurd (false≢true (sym h ∙ t))
plain_parts false b h t = refl

not_plain_inverted : (e : Lit) → is_plain e ≡ false → 0 < e.0 / 2 → is_inverted e ≡ true
not_plain_inverted e h some =
    let t : nat_lt 0 (e.0 / 2) ≡ true = grind (arith, nat_tests) in
    let odd : eqb (e.0 % 2) 0 ≡ false = plain_parts (eqb (e.0 % 2) 0) (nat_lt 0 (e.0 / 2)) h t in
    let one : eqb (e.0 % 2) 1 ≡ true = let r : e.0 % 2 < 2 = omega arith in grind (arith, nat_tests) in
    ap (λ (b : Bool). b && nat_lt 0 (e.0 / 2)) one ∙ t

pub not_both : (g : MigView) (l : ℕ) → is_plain (role_at g l).q ≡ true → is_inverted (role_at g l).p ≡ false
not_both g l plain = elim (bool_cases (is_inverted (role_at g l).p)) [
  | inl t ↦ absurd (one_temporary (maj_at g l) (can_be_taken g.inputs (mig_graph g) (maj_at g l).x.0) (can_be_taken g.inputs (mig_graph g) (maj_at g l).y.0) (can_be_taken g.inputs (mig_graph g) (maj_at g l).z.0) t plain)
  | inr f ↦ f
]

second_is : (g : MigView) (a : AllotmentView) (bits m n : List Bool) (p l : ℕ) → VoteAt g a bits m p l → ((c : ℕ) → c ≢ get_or a.cells (gate_number l) 0 → bit n c ≡ bit m c) → not (value n (second_operand g.inputs (cells g a) (get_or a.cells (2 * l) 0) (role_at g l).q)) ≡ mval g bits (role_at g l).q
second_is g a bits m n p l t off =
    let r = role_at g l in
    let cs = cells g a in
    let h = get_or a.cells (2 * l) 0 in
    let o = role_operands g l t.at.ready.small t.at.there t.at.even t.at.above in
    let c = cell_of g.inputs cs r.q in
    let whole : Bool → Bool = λ b. not (value n (cond b (cond (eqb r.q.0 0) operand.One operand.Zero) (cond (is_plain r.q) (operand.Cell h) (operand.Cell c)))) in
    elim (eqb_tells (r.q.0 / 2) 0) [
      | inl none ↦
          ap whole none.0
          ∙ elim (eqb_tells r.q.0 0) [
            | inl z ↦
                let e : eqb r.q.0 1 ≡ false = let q = z.1 in grind (arith, nat_tests) in
                ap (λ (b : Bool). not (value n (cond b operand.One operand.Zero))) z.0
                ∙ sym (constant_value g bits r.q.0 t.at.ready.laws none.1 ∙ e)
            | inr s ↦
                let one : r.q.0 ≡ 1 = let q = none.1 in let d = s.1 in omega arith in
                let e : eqb r.q.0 1 ≡ true = grind (arith, nat_tests) in
                ap (λ (b : Bool). not (value n (cond b operand.One operand.Zero))) s.0
                ∙ sym (constant_value g bits r.q.0 t.at.ready.laws none.1 ∙ e)
          ]
      | inr some ↦
          ap whole some.0
          ∙ elim (bool_cases (is_plain r.q)) [
            | inl plain ↦
                let first_not : is_inverted r.p ≡ false = not_both g l plain in
                let wants : temporary r ≡ Some r.q = ap (λ (b : Bool). cond b (Some r.p) (cond (is_plain r.q) (Some r.q) None)) first_not ∙ ap (λ (b : Bool). cond b (Some r.q) None) plain in
                let w = temporary_is g a bits m p l r.q t wants in
                ap (λ (b : Bool). not (value n (cond b (operand.Cell h) (operand.Cell c)))) plain
                ∙ ap not (off h w.apart ∙ w.held ∙ inverse_even g bits r.q plain)
                ∙ not_not (mval g bits r.q)
            | inr not_plain ↦
                let inverted_here : is_inverted r.q ≡ true = not_plain_inverted r.q not_plain (let d = some.1 in omega arith) in
                let q = operand_is g a bits m p l r.q t o.q_below (read_at g a p l r.q t.at by_second) (λ over same. third_other g l r.q over same o.qz) in
                ap (λ (b : Bool). not (value n (cond b (operand.Cell h) (operand.Cell c)))) not_plain
                ∙ sym (lit_inverted g.inputs cs n r.q inverted_here)
                ∙ agrees g.inputs cs m n (get_or a.cells (gate_number l) 0) r.q off q.apart
                ∙ q.held
          ]
    ]

-- ---- a majority node
pub vote_is : (g : MigView) (a : AllotmentView) (bits m : List Bool) (p l : ℕ) → ExecLaws → VoteAt g a bits m p l → bit (exec (instrs_of g a (gate_number l)) m) (get_or a.cells (gate_number l) 0) ≡ mval g bits (record { 0 = l })
vote_is g a bits m p l laws t =
    let r = role_at g l in
    let cs = cells g a in
    let z = get_or a.cells (gate_number l) 0 in
    let h = get_or a.cells (2 * l) 0 in
    let before = third_instrs g.inputs cs z r in
    let n = exec before m in
    let po = first_operand g.inputs cs h r.p in
    let qo = second_operand g.inputs cs h r.q in
    let off : (c : ℕ) → c ≢ z → bit n c ≡ bit m c = λ c ne. third_off g.inputs cs m z c r ne in
    let inside = t.at.ready.sound.allotted.within (gate_number l) (ap (has (full_order g)) (sym t.at.here) ∙ has_whole (full_order g) p t.at.within) in
    let size_kept = laws.keeps_length before m in
    let fits : z < length n = omega (arith, t.reads.wide) in
    ap (λ (is : List Instr). bit (exec is m) z) (instrs_gate g a l ∙ ap (step_instrs g.inputs cs h z) t.at.is)
    ∙ ap (λ (row : List Bool). bit row z) (laws.append before (Rm3 po qo z ∷ []) m)
    ∙ at_target n po qo z fits
    ∙ ap (λ (b : Bool). majority b (not (value n qo)) (bit n z)) (first_is g a bits m n p l t off)
    ∙ ap (λ (b : Bool). majority (mval g bits r.p) b (bit n z)) (second_is g a bits m n p l t off)
    ∙ ap (majority (mval g bits r.p) (mval g bits r.q)) (third_is g a bits m p l t)
    ∙ same_majority (mval g bits r.p) (mval g bits r.q) (mval g bits r.z)
    ∙ role_value g bits l
    ∙ sym (vote_value g bits l t.at.ready.laws t.len t.at.there t.at.even t.at.above)
