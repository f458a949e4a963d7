-- How the gates of a majority graph are computed, and which gates read which, with temporaries as gates and without.
use Rattle.std.proofs.Common.{◌≡◌, ℕ, ◌+◌, ◌-◌, ◌*◌, ◌/◌, ◌%◌, ◌<◌, ◌≤◌, Bool, true, false, cond, eqb, nat_le, nat_lt, List, [], ◌∷◌, ◌++◌, length, All, Option, Some, None, refl, sym, ◌∙◌, ap, subst, arith, inl, inr, length-append}
use Rattle.std.proofs.lemmas.Bool.{false≢true}
use Rattle.std.proofs.lemmas.Bool.Decides.{nat_tests, eqb_tells, leb_tells}
use Rattle.std.proofs.lemmas.List.Elements.{All-append, All-cons}
use Rattle.std.proofs.lemmas.List.FromFn.{get_or-map-range_with_len, length-map-range_with_len}
use Rattle.pim_aig.specs.declared.literal.Lit.{Lit}
use Rattle.pim_graph.specs.Graphs.{GraphView, has, kids_of}
use Rattle.pim_graph.specs.Orders.{order}
use Rattle.pim_graph.specs.Peaks.{IsPlaced}
use Rattle.pim_mig.specs.Graph.{IsMig, MigView, size}
use Rattle.pim_mig.specs.declared.node.Maj.{Maj}
use Rattle.pim_rm3.specs.Roles.{is_plain, least_role, temporary}
use Rattle.pim_rm3.specs.Schedules.{is_inverted}
use Rattle.pim_rm3.specs.Steps.{gate_reads, maj_at, mig_gates, mig_graph, node_read, nodes_read, step_of, voted}
use Rattle.pim_rm3.specs.Taking.{can_be_taken}
use Rattle.pim_rm3.specs.Temporaries.{all_reads, full_graph, gate_number, gate_read, own_temporary, step_reads, temporary_of, temporary_reads}
use Rattle.pim_rm3.specs.inner.Operands.{IsBelow, StepsBelow}
use Rattle.pim_rm3.specs.declared.role.Role.{Role}
use Rattle.pim_rm3.specs.declared.step.Step.{Step}
use Rattle.pim_rm3.specs.declared.step.Step.TheVariants as step
use Rattle.pim_rm3.proofs.Lists.{has_one, one_has, has_front, has_back, has_either}
use Rattle.pim_rm3.proofs.RoleLaws.{least_in}
use Rattle.pim_rm3.proofs.Rows.{bool_cases}

-- the four ways in which the gate of a literal is computed
pub data StepKind (g : MigView) (l : ℕ) : Type 0 where
  constant : l / 2 ≡ 0 → step_of g l ≡ step.Constant (eqb l 1) → StepKind g l
  inverse : 0 < l / 2 → l % 2 ≡ 1 → step_of g l ≡ step.Complement (record { 0 = l }) → StepKind g l
  input : 0 < l / 2 → l % 2 ≡ 0 → l / 2 ≤ g.inputs → step_of g l ≡ step.Input → StepKind g l
  vote : l % 2 ≡ 0 → g.inputs < l / 2 → step_of g l ≡ voted g (maj_at g l) → StepKind g l

pub step_kind : (g : MigView) (l : ℕ) → StepKind g l
step_kind g l = elim (eqb_tells (l / 2) 0) [
  | inl z ↦ constant z.1 (rw z.0 refl)
  | inr s ↦ elim (eqb_tells (l % 2) 1) [
    | inl o ↦ inverse (omega (arith, s.1)) o.1 (rw (s.0, o.0) refl)
    | inr e ↦
        let even : l % 2 ≡ 0 = let r : l % 2 < 2 = omega arith in omega (arith, e.1) in
        elim (leb_tells (l / 2) g.inputs) [
          | inl i ↦ input (omega (arith, s.1)) even i.1 (rw (s.0, e.0, i.0) refl)
          | inr a ↦ vote even a.1 (rw (s.0, e.0, a.0) refl)
        ]
  ]
]

-- the roles of a literal's majority node
abbrev pub role_at : MigView → ℕ → Role
role_at g l = least_role (maj_at g l) (can_be_taken g.inputs (mig_graph g) (maj_at g l).x.0) (can_be_taken g.inputs (mig_graph g) (maj_at g l).y.0) (can_be_taken g.inputs (mig_graph g) (maj_at g l).z.0)

-- ---- what gates read
pub kids_count : (g : MigView) → length (mig_graph g).kids ≡ 2 * size g
kids_count g = length-map-range_with_len (gate_reads g) 0 (2 * size g)

pub full_count : (g : MigView) → length (full_graph g).kids ≡ 2 * (2 * size g)
full_count g = length-map-range_with_len (all_reads g) 0 (2 * (2 * size g))

pub kids_at : (g : MigView) (l : ℕ) → l < 2 * size g → kids_of (mig_graph g) l ≡ gate_reads g l
kids_at g l h = get_or-map-range_with_len (gate_reads g) 0 (2 * size g) l l [] h (omega arith)

pub full_at : (g : MigView) (n : ℕ) → n < 2 * (2 * size g) → kids_of (full_graph g) n ≡ all_reads g n
full_at g n h = get_or-map-range_with_len (all_reads g) 0 (2 * (2 * size g)) n n [] h (omega arith)

-- the gate of a literal, and its temporary, in the full graph
pub gate_kids : (g : MigView) (l : ℕ) → l < 2 * size g → kids_of (full_graph g) (gate_number l) ≡ step_reads g.inputs l (step_of g l)
gate_kids g l h =
    let odd : eqb (gate_number l % 2) 1 ≡ true = let r : gate_number l % 2 ≡ 1 = omega arith in grind (arith, nat_tests) in
    let half : gate_number l / 2 ≡ l = omega arith in
    full_at g (gate_number l) (omega arith)
    ∙ ap (λ (b : Bool). cond b (step_reads g.inputs (gate_number l / 2) (step_of g (gate_number l / 2))) (temporary_reads g.inputs (temporary_of (step_of g (gate_number l / 2))))) odd
    ∙ ap (λ (k : ℕ). step_reads g.inputs k (step_of g k)) half

pub temporary_kids : (g : MigView) (l : ℕ) → l < 2 * size g → kids_of (full_graph g) (2 * l) ≡ temporary_reads g.inputs (temporary_of (step_of g l))
temporary_kids g l h =
    let even : eqb ((2 * l) % 2) 1 ≡ false = let r : (2 * l) % 2 ≡ 0 = omega arith in grind (arith, nat_tests) in
    let half : (2 * l) / 2 ≡ l = omega arith in
    full_at g (2 * l) (omega arith)
    ∙ ap (λ (b : Bool). cond b (step_reads g.inputs ((2 * l) / 2) (step_of g ((2 * l) / 2))) (temporary_reads g.inputs (temporary_of (step_of g ((2 * l) / 2))))) even
    ∙ ap (λ (k : ℕ). temporary_reads g.inputs (temporary_of (step_of g k))) half

-- the operand is of this majority node
pub record IsOf (inputs : ℕ) (e : Lit) (k : ℕ) : Type 0 where
  pub above : inputs < e.0 / 2
  pub same : 2 * (e.0 / 2) ≡ k

pub node_of : (inputs : ℕ) (e : Lit) (k : ℕ) → has (node_read inputs e) k ≡ true → IsOf inputs e k
node_of inputs e k h = elim (leb_tells (e.0 / 2) inputs) [
  | inl i ↦
      let t : nat_lt inputs (e.0 / 2) ≡ false = let b = i.1 in grind (arith, nat_tests) in
      absurd (false≢true (sym (ap (λ (b : Bool). has (cond b (2 * (e.0 / 2) ∷ []) []) k) t) ∙ h))
  | inr a ↦
      let t : nat_lt inputs (e.0 / 2) ≡ true = let b = a.1 in grind (arith, nat_tests) in
      record { above = a.1; same = has_one (2 * (e.0 / 2)) k (sym (ap (λ (b : Bool). has (cond b (2 * (e.0 / 2) ∷ []) []) k) t) ∙ h) }
]

pub of_node : (inputs : ℕ) (e : Lit) (k : ℕ) → IsOf inputs e k → has (node_read inputs e) k ≡ true
of_node inputs e k o =
    let t : nat_lt inputs (e.0 / 2) ≡ true = let b = o.above in grind (arith, nat_tests) in
    ap (λ (b : Bool). has (cond b (2 * (e.0 / 2) ∷ []) []) k) t ∙ one_has (2 * (e.0 / 2)) k o.same

-- the gate of a majority node that an operand reads
pub gate_of_node : (inputs : ℕ) (e : Lit) (n : ℕ) → has (gate_read inputs e) n ≡ true → (inputs < e.0 / 2) × (4 * (e.0 / 2) + 1 ≡ n)
gate_of_node inputs e n h = elim (leb_tells (e.0 / 2) inputs) [
  | inl i ↦
      let t : nat_lt inputs (e.0 / 2) ≡ false = let b = i.1 in grind (arith, nat_tests) in
      absurd (false≢true (sym (ap (λ (b : Bool). has (cond b ((4 * (e.0 / 2) + 1) ∷ []) []) n) t) ∙ h))
  | inr a ↦
      let t : nat_lt inputs (e.0 / 2) ≡ true = let b = a.1 in grind (arith, nat_tests) in
      (a.1, has_one (4 * (e.0 / 2) + 1) n (sym (ap (λ (b : Bool). has (cond b ((4 * (e.0 / 2) + 1) ∷ []) []) n) t) ∙ h))
]

pub node_has_gate : (inputs : ℕ) (e : Lit) (k : ℕ) → IsOf inputs e k → has (gate_read inputs e) (gate_number k) ≡ true
node_has_gate inputs e k o =
    let t : nat_lt inputs (e.0 / 2) ≡ true = let b = o.above in grind (arith, nat_tests) in
    let same : 4 * (e.0 / 2) + 1 ≡ gate_number k = omega (arith, o.same) in
    ap (λ (b : Bool). has (cond b ((4 * (e.0 / 2) + 1) ∷ []) []) (gate_number k)) t ∙ one_has (4 * (e.0 / 2) + 1) (gate_number k) same

-- an operand in one of the roles is of this majority node
pub data ReadsOne (inputs : ℕ) (p q z : Lit) (k : ℕ) : Type 0 where
  by_first : IsOf inputs p k → ReadsOne inputs p q z k
  by_second : IsOf inputs q k → ReadsOne inputs p q z k
  by_third : IsOf inputs z k → ReadsOne inputs p q z k

pub nodes_of : (inputs : ℕ) (m : Maj) (k : ℕ) → has (nodes_read inputs m) k ≡ true → ReadsOne inputs m.x m.y m.z k
nodes_of inputs m k h = elim (has_either (node_read inputs m.x) (node_read inputs m.y ++ node_read inputs m.z) k h) [
  | inl a ↦ by_first (node_of inputs m.x k a)
  | inr b ↦ elim (has_either (node_read inputs m.y) (node_read inputs m.z) k b) [
    | inl c ↦ by_second (node_of inputs m.y k c)
    | inr d ↦ by_third (node_of inputs m.z k d)
  ]
]

pub of_nodes : (inputs : ℕ) (m : Maj) (k : ℕ) → ReadsOne inputs m.x m.y m.z k → has (nodes_read inputs m) k ≡ true
of_nodes inputs m k (by_first o) = has_front (node_read inputs m.x) (node_read inputs m.y ++ node_read inputs m.z) k (of_node inputs m.x k o)
of_nodes inputs m k (by_second o) = has_back (node_read inputs m.x) (node_read inputs m.y ++ node_read inputs m.z) k (has_front (node_read inputs m.y) (node_read inputs m.z) k (of_node inputs m.y k o))
of_nodes inputs m k (by_third o) = has_back (node_read inputs m.x) (node_read inputs m.y ++ node_read inputs m.z) k (has_back (node_read inputs m.y) (node_read inputs m.z) k (of_node inputs m.z k o))

-- the same three operands in other roles
turn : (inputs : ℕ) (p q z : Lit) (k : ℕ) → ReadsOne inputs p q z k → ReadsOne inputs q p z k
turn inputs p q z k (by_first o) = by_second o
turn inputs p q z k (by_second o) = by_first o
turn inputs p q z k (by_third o) = by_third o

shift : (inputs : ℕ) (p q z : Lit) (k : ℕ) → ReadsOne inputs p q z k → ReadsOne inputs p z q k
shift inputs p q z k (by_first o) = by_first o
shift inputs p q z k (by_second o) = by_third o
shift inputs p q z k (by_third o) = by_second o

pub roles_read : (g : MigView) (l k : ℕ) → ReadsOne g.inputs (maj_at g l).x (maj_at g l).y (maj_at g l).z k → ReadsOne g.inputs (role_at g l).p (role_at g l).q (role_at g l).z k
roles_read g l k o =
    let m = maj_at g l in
    let i = g.inputs in
    let a = shift i m.x m.y m.z k o in
    let b = turn i m.x m.y m.z k o in
    let d = shift i m.y m.x m.z k b in
    let e = turn i m.x m.z m.y k a in
    let f = turn i m.y m.z m.x k d in
    least_in (λ r. ReadsOne i r.p r.q r.z k) m (can_be_taken g.inputs (mig_graph g) m.x.0) (can_be_taken g.inputs (mig_graph g) m.y.0) (can_be_taken g.inputs (mig_graph g) m.z.0) o a b d e f

pub read_roles : (g : MigView) (l k : ℕ) → ReadsOne g.inputs (role_at g l).p (role_at g l).q (role_at g l).z k → ReadsOne g.inputs (maj_at g l).x (maj_at g l).y (maj_at g l).z k
read_roles g l k =
    let m = maj_at g l in
    let i = g.inputs in
    let a = λ (o : ReadsOne i m.x m.z m.y k). shift i m.x m.z m.y k o in
    let b = λ (o : ReadsOne i m.y m.x m.z k). turn i m.y m.x m.z k o in
    let d = λ (o : ReadsOne i m.y m.z m.x k). b (shift i m.y m.z m.x k o) in
    let e = λ (o : ReadsOne i m.z m.x m.y k). a (turn i m.z m.x m.y k o) in
    let f = λ (o : ReadsOne i m.z m.y m.x k). d (turn i m.z m.y m.x k o) in
    least_in (λ r. ReadsOne i r.p r.q r.z k → ReadsOne i m.x m.y m.z k) m (can_be_taken g.inputs (mig_graph g) m.x.0) (can_be_taken g.inputs (mig_graph g) m.y.0) (can_be_taken g.inputs (mig_graph g) m.z.0) (λ o. o) a b d e f

-- ---- where operands stand
-- the operands of a node have lower numbers than this
abbrev pub OperandsBelow : ℕ → Lit → Lit → Lit → Type 0
OperandsBelow n p q z = (p.0 < n) × (q.0 < n) × (z.0 < n)

pub maj_below : (g : MigView) (l : ℕ) → IsMig g → l < 2 * size g → g.inputs < l / 2 → OperandsBelow l (maj_at g l).x (maj_at g l).y (maj_at g l).z
maj_below g l small h above =
    let k = l / 2 - 1 - g.inputs in
    let d : Maj = record { x = record { 0 = 0 }; y = record { 0 = 0 }; z = record { 0 = 0 } } in
    let b : k < length g.nodes = omega arith in
    let x = small.x_before k d b in
    let y = small.y_before k d b in
    let z = small.z_before k d b in
    (omega arith, omega arith, omega arith)

role_below : (g : MigView) (l : ℕ) → IsMig g → l < 2 * size g → g.inputs < l / 2 → IsBelow l (role_at g l)
role_below g l small h above =
    let m = maj_at g l in
    let t = maj_below g l small h above in
    least_in (IsBelow l) m (can_be_taken g.inputs (mig_graph g) m.x.0) (can_be_taken g.inputs (mig_graph g) m.y.0) (can_be_taken g.inputs (mig_graph g) m.z.0)
    (t.0, t.1, t.2) (t.0, t.2, t.1) (t.1, t.0, t.2) (t.1, t.2, t.0) (t.2, t.0, t.1) (t.2, t.1, t.0)

below_by : (g : MigView) (l : ℕ) → IsMig g → l < 2 * size g → StepKind g l → StepsBelow l (step_of g l)
below_by g l small h (constant z is) = subst (StepsBelow l) (sym is) tt
below_by g l small h (inverse some odd is) = subst (StepsBelow l) (sym is) (refl, odd)
below_by g l small h (input some even few is) = subst (StepsBelow l) (sym is) tt
below_by g l small h (vote even above is) = subst (StepsBelow l) (sym is) (role_below g l small h above)

pub step_below : (g : MigView) (l : ℕ) → IsMig g → l < 2 * size g → StepsBelow l (step_of g l)
step_below g l small h = below_by g l small h (step_kind g l)

vote_by : (g : MigView) (l : ℕ) → l % 2 ≡ 0 → g.inputs < l / 2 → StepKind g l → step_of g l ≡ voted g (maj_at g l)
vote_by g l even above (constant z is) = absurd (omega arith)
vote_by g l even above (inverse some odd is) = absurd (omega arith)
vote_by g l even above (input some e few is) = absurd (omega arith)
vote_by g l even above (vote e a is) = is

pub step_vote : (g : MigView) (l : ℕ) → l % 2 ≡ 0 → g.inputs < l / 2 → step_of g l ≡ voted g (maj_at g l)
step_vote g l even above = vote_by g l even above (step_kind g l)

none_below : (n : ℕ) → All (λ c. c < n) []
none_below n = λ k d l. absurd (omega arith)

-- a list of one number at most that is below another
node_below : (inputs : ℕ) (e : Lit) (n : ℕ) → 2 * (e.0 / 2) < n → All (λ c. c < n) (node_read inputs e)
node_below inputs e n h = elim (bool_cases (nat_lt inputs (e.0 / 2))) [
  | inl t ↦
      let P : Bool → Type 0 = λ b. All (λ c. c < n) (cond b (2 * (e.0 / 2) ∷ []) []) in
      subst P (sym t) (All-cons (λ c. c < n) (2 * (e.0 / 2)) [] h (none_below n))
  | inr f ↦
      let P : Bool → Type 0 = λ b. All (λ c. c < n) (cond b (2 * (e.0 / 2) ∷ []) []) in
      subst P (sym f) (none_below n)
]

-- the nodes that a gate reads have lower numbers
pub reads_below : (g : MigView) (l : ℕ) → IsMig g → l < 2 * size g → All (λ c. c < l) (gate_reads g l)
reads_below g l small h =
    let P : Bool → Type 0 = λ b. All (λ c. c < l) (cond b (node_read g.inputs (record { 0 = l })) (cond (nat_le (l / 2) g.inputs) [] (nodes_read g.inputs (maj_at g l)))) in
    let Q : Bool → Type 0 = λ b. All (λ c. c < l) (cond b [] (nodes_read g.inputs (maj_at g l))) in
    elim (eqb_tells (l % 2) 1) [
      | inl odd ↦ subst P (sym odd.0) (node_below g.inputs (record { 0 = l }) l (let r = odd.1 in omega arith))
      | inr even ↦ subst P (sym even.0) (elim (leb_tells (l / 2) g.inputs) [
        | inl few ↦ subst Q (sym few.0) (none_below l)
        | inr above ↦
            let m = maj_at g l in
            let t = maj_below g l small h above.1 in
            subst Q (sym above.0) (All-append (λ c. c < l) (node_read g.inputs m.x) (node_read g.inputs m.y ++ node_read g.inputs m.z) (node_below g.inputs m.x l (let r = t.0 in omega arith))
            (All-append (λ c. c < l) (node_read g.inputs m.y) (node_read g.inputs m.z) (node_below g.inputs m.y l (let r = t.1 in omega arith)) (node_below g.inputs m.z l (let r = t.2 in omega arith))))
      ])
    ]

gate_below : (inputs : ℕ) (e : Lit) (n : ℕ) → 4 * (e.0 / 2) + 1 < n → All (λ c. c < n) (gate_read inputs e)
gate_below inputs e n h = elim (bool_cases (nat_lt inputs (e.0 / 2))) [
  | inl t ↦
      let P : Bool → Type 0 = λ b. All (λ c. c < n) (cond b ((4 * (e.0 / 2) + 1) ∷ []) []) in
      subst P (sym t) (All-cons (λ c. c < n) (4 * (e.0 / 2) + 1) [] h (none_below n))
  | inr f ↦
      let P : Bool → Type 0 = λ b. All (λ c. c < n) (cond b ((4 * (e.0 / 2) + 1) ∷ []) []) in
      subst P (sym f) (none_below n)
]

own_below : (l n : ℕ) (o : Option Lit) → 2 * l < n → All (λ c. c < n) (own_temporary l o)
own_below l n None h = none_below n
own_below l n (Some e) h = All-cons (λ c. c < n) (2 * l) [] h (none_below n)

step_kids_below : (inputs l n : ℕ) (s : Step) → StepsBelow l s → 2 * l < n → All (λ c. c < n) (step_reads inputs l s)
step_kids_below inputs l n (step.Constant b) h k = none_below n
step_kids_below inputs l n step.Input h k = none_below n
step_kids_below inputs l n (step.Complement e) h k = gate_below inputs e n (let a = h.0 in let b = h.1 in omega arith)
step_kids_below inputs l n (step.Vote r) h k =
    let P : ℕ → Type 0 = λ c. c < n in
    let own = own_temporary l (temporary r) in
    All-append P (gate_read inputs r.p) (gate_read inputs r.q ++ (gate_read inputs r.z ++ own)) (gate_below inputs r.p n (let a = h.0 in omega arith))
    (All-append P (gate_read inputs r.q) (gate_read inputs r.z ++ own) (gate_below inputs r.q n (let a = h.1 in omega arith))
    (All-append P (gate_read inputs r.z) own (gate_below inputs r.z n (let a = h.2 in omega arith)) (own_below l n (temporary r) k)))

some_lit : (d e : Lit) → Some d ≡ Some e → d ≡ e
some_lit d e h = cc

no_lit : (e : Lit) → None ≡ Some e → ⊥
no_lit e h = cc

-- what holds of the first two operands holds of the one that a temporary is for
pub temporary_one : (P : Lit → Type 0) (r : Role) (e : Lit) → P r.p → P r.q → temporary r ≡ Some e → P e
temporary_one P r e p q is = elim (bool_cases (is_inverted r.p)) [
  | inl t ↦ subst P (some_lit r.p e (sym (ap (λ (b : Bool). cond b (Some r.p) (cond (is_plain r.q) (Some r.q) None)) t) ∙ is)) p
  | inr f ↦
      let open_role = ap (λ (b : Bool). cond b (Some r.p) (cond (is_plain r.q) (Some r.q) None)) f in
      elim (bool_cases (is_plain r.q)) [
        | inl u ↦ subst P (some_lit r.q e (sym (open_role ∙ ap (λ (b : Bool). cond b (Some r.q) None) u) ∙ is)) q
        | inr u ↦ absurd (no_lit e (sym (open_role ∙ ap (λ (b : Bool). cond b (Some r.q) None) u) ∙ is))
      ]
]

temporary_kids_below : (inputs n l : ℕ) (r : Role) (o : Option Lit) → IsBelow l r → 2 * l ≤ n → temporary r ≡ o → All (λ c. c < n) (temporary_reads inputs o)
temporary_kids_below inputs n l r None h k is = none_below n
temporary_kids_below inputs n l r (Some e) h k is =
    gate_below inputs e n (temporary_one (λ d. 4 * (d.0 / 2) + 1 < n) r e (let a = h.0 in omega arith) (let a = h.1 in omega arith) is)

step_temporary_below : (inputs l n : ℕ) (s : Step) → StepsBelow l s → 2 * l ≤ n → All (λ c. c < n) (temporary_reads inputs (temporary_of s))
step_temporary_below inputs l n (step.Constant b) h k = none_below n
step_temporary_below inputs l n step.Input h k = none_below n
step_temporary_below inputs l n (step.Complement e) h k = none_below n
step_temporary_below inputs l n (step.Vote r) h k = temporary_kids_below inputs n l r (temporary r) h k refl

-- what a gate or a temporary reads has lower numbers
pub full_below : (g : MigView) (n : ℕ) → IsMig g → n < 2 * (2 * size g) → All (λ c. c < n) (all_reads g n)
full_below g n small h =
    let l = n / 2 in
    let s = step_below g l small (omega arith) in
    let P : Bool → Type 0 = λ b. All (λ c. c < n) (cond b (step_reads g.inputs l (step_of g l)) (temporary_reads g.inputs (temporary_of (step_of g l)))) in
    elim (eqb_tells (n % 2) 1) [
      | inl odd ↦ subst P (sym odd.0) (step_kids_below g.inputs l n (step_of g l) s (let r = odd.1 in omega arith))
      | inr even ↦ subst P (sym even.0) (step_temporary_below g.inputs l n (step_of g l) s (omega arith))
    ]

-- what the gate of an odd number reads, and that of an even one
pub all_reads_odd : (g : MigView) (n : ℕ) → n % 2 ≡ 1 → step_reads g.inputs (n / 2) (step_of g (n / 2)) ≡ all_reads g n
all_reads_odd g n odd =
    let t : eqb (n % 2) 1 ≡ true = grind (arith, nat_tests) in
    sym (ap (λ (b : Bool). cond b (step_reads g.inputs (n / 2) (step_of g (n / 2))) (temporary_reads g.inputs (temporary_of (step_of g (n / 2))))) t)

pub all_reads_even : (g : MigView) (n : ℕ) → (n % 2 ≡ 1 → ⊥) → temporary_reads g.inputs (temporary_of (step_of g (n / 2))) ≡ all_reads g n
all_reads_even g n even =
    let t : eqb (n % 2) 1 ≡ false = grind (arith, nat_tests) in
    sym (ap (λ (b : Bool). cond b (step_reads g.inputs (n / 2) (step_of g (n / 2))) (temporary_reads g.inputs (temporary_of (step_of g (n / 2))))) t)

-- ---- how much is read
gate_few : (inputs : ℕ) (e : Lit) → length (gate_read inputs e) ≤ 1
gate_few inputs e = elim (bool_cases (nat_lt inputs (e.0 / 2))) [
  | inl t ↦ let a = ap (λ (b : Bool). length (cond b ((4 * (e.0 / 2) + 1) ∷ []) [])) t in omega arith
  | inr f ↦ let a = ap (λ (b : Bool). length (cond b ((4 * (e.0 / 2) + 1) ∷ []) [])) f in omega arith
]

own_few : (l : ℕ) (o : Option Lit) → length (own_temporary l o) ≤ 1
own_few l None = omega arith
own_few l (Some e) = omega arith

step_few : (inputs l : ℕ) (s : Step) → length (step_reads inputs l s) ≤ 4
step_few inputs l (step.Constant b) = omega arith
step_few inputs l step.Input = omega arith
step_few inputs l (step.Complement e) = let a = gate_few inputs e in omega arith
step_few inputs l (step.Vote r) =
    let own = own_temporary l (temporary r) in
    let p = gate_read inputs r.p in
    let q = gate_read inputs r.q in
    let z = gate_read inputs r.z in
    omega (arith, length-append p (q ++ (z ++ own)), length-append q (z ++ own), length-append z own, gate_few inputs r.p, gate_few inputs r.q, gate_few inputs r.z, own_few l (temporary r))

temporary_few : (inputs : ℕ) (o : Option Lit) → length (temporary_reads inputs o) ≤ 4
temporary_few inputs None = omega arith
temporary_few inputs (Some e) = let a = gate_few inputs e in omega arith

either_few : (b : Bool) (xs ys : List ℕ) → length xs ≤ 4 → length ys ≤ 4 → length (cond b xs ys) ≤ 4
either_few true xs ys h k = h
either_few false xs ys h k = k

-- a gate or a temporary reads four gates at most
pub full_few : (g : MigView) (n : ℕ) → length (all_reads g n) ≤ 4
full_few g n = either_few (eqb (n % 2) 1) (step_reads g.inputs (n / 2) (step_of g (n / 2))) (temporary_reads g.inputs (temporary_of (step_of g (n / 2)))) (step_few g.inputs (n / 2) (step_of g (n / 2))) (temporary_few g.inputs (temporary_of (step_of g (n / 2))))

-- ---- what the order of the graph gives
pub order_placed : (g : MigView) (v : GraphView) → v ≡ mig_graph g → IsPlaced v (order v) → IsPlaced (mig_graph g) (mig_gates g)
order_placed g v is h =
    let P : GraphView → Type 0 = λ w. IsPlaced w (order w) in
    subst P is h

pub order_there : (g : MigView) → IsPlaced (mig_graph g) (mig_gates g) → All (λ l. l < 2 * size g) (mig_gates g)
order_there g h =
    let P : ℕ → Type 0 = λ n. All (λ l. l < n) (mig_gates g) in
    subst P (kids_count g) h.there
