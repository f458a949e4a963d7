-- What gates read where temporaries are gates too: the same nodes as without, and each its own temporary.
use Rattle.std.proofs.Common.{◌≡◌, ◌≢◌, ◌⊎◌, ℕ, ◌*◌, ◌/◌, ◌%◌, ◌<◌, ◌≤◌, Bool, true, false, cond, eqb, nat_le, List, [], ◌++◌, Option, Some, None, refl, sym, ◌∙◌, ap, arith, inl, inr}
use Rattle.std.proofs.lemmas.Bool.{false≢true}
use Rattle.std.proofs.lemmas.Bool.Decides.{nat_tests}
use Rattle.pim_aig.specs.declared.literal.Lit.{Lit}
use Rattle.pim_graph.specs.Graphs.{has, kids_of}
use Rattle.pim_mig.specs.Graph.{MigView, size}
use Rattle.pim_rm3.specs.Roles.{is_plain, temporary}
use Rattle.pim_rm3.specs.Schedules.{is_inverted}
use Rattle.pim_rm3.specs.Steps.{gate_reads, maj_at, mig_graph, node_read, nodes_read, step_of}
use Rattle.pim_rm3.specs.Temporaries.{full_graph, gate_number, gate_read, own_temporary, step_reads, temporary_of, temporary_reads}
use Rattle.pim_rm3.specs.declared.role.Role.{Role}
use Rattle.pim_rm3.specs.declared.step.Step.{Step}
use Rattle.pim_rm3.specs.declared.step.Step.TheVariants as step
use Rattle.pim_rm3.proofs.Lists.{has_one, one_has, has_front, has_back, has_either}
use Rattle.pim_rm3.proofs.Rows.{bool_cases}
use Rattle.pim_rm3.proofs.StepLaws.{StepKind, step_kind, role_at, kids_at, gate_kids, temporary_kids, IsOf, node_of, of_node, gate_of_node, node_has_gate, ReadsOne, nodes_of, of_nodes, roles_read, read_roles}
use Rattle.pim_rm3.proofs.StepLaws.StepKind.{constant, inverse, input, vote}
use Rattle.pim_rm3.proofs.StepLaws.ReadsOne.{by_first, by_second, by_third}

pub vote_reads : (g : MigView) (l : ℕ) → l % 2 ≡ 0 → g.inputs < l / 2 → gate_reads g l ≡ nodes_read g.inputs (maj_at g l)
vote_reads g l even above =
    let t : eqb (l % 2) 1 ≡ false = grind (arith, nat_tests) in
    let u : nat_le (l / 2) g.inputs ≡ false = grind (arith, nat_tests) in
    ap (λ (b : Bool). cond b (node_read g.inputs (record { 0 = l })) (cond (nat_le (l / 2) g.inputs) [] (nodes_read g.inputs (maj_at g l)))) t
    ∙ ap (λ (b : Bool). cond b [] (nodes_read g.inputs (maj_at g l))) u

pub inverse_reads : (g : MigView) (l : ℕ) → l % 2 ≡ 1 → gate_reads g l ≡ node_read g.inputs (record { 0 = l })
inverse_reads g l odd =
    let t : eqb (l % 2) 1 ≡ true = grind (arith, nat_tests) in
    ap (λ (b : Bool). cond b (node_read g.inputs (record { 0 = l })) (cond (nat_le (l / 2) g.inputs) [] (nodes_read g.inputs (maj_at g l)))) t

-- the gate of a literal reads this node
abbrev pub ReadsNode : MigView → ℕ → ℕ → Type 0
ReadsNode g l k = has (kids_of (mig_graph g) l) k ≡ true

pub vote_node : (g : MigView) (l k : ℕ) → l < 2 * size g → l % 2 ≡ 0 → g.inputs < l / 2 → ReadsOne g.inputs (role_at g l).p (role_at g l).q (role_at g l).z k → ReadsNode g l k
vote_node g l k h even above o =
    ap (λ (xs : List ℕ). has xs k) (kids_at g l h ∙ vote_reads g l even above) ∙ of_nodes g.inputs (maj_at g l) k (read_roles g l k o)

pub node_vote : (g : MigView) (l k : ℕ) → l < 2 * size g → l % 2 ≡ 0 → g.inputs < l / 2 → ReadsNode g l k → ReadsOne g.inputs (role_at g l).p (role_at g l).q (role_at g l).z k
node_vote g l k h even above r =
    roles_read g l k (nodes_of g.inputs (maj_at g l) k (sym (ap (λ (xs : List ℕ). has xs k) (kids_at g l h ∙ vote_reads g l even above)) ∙ r))

-- what the gate of a literal reads: the gate of a node that it reads, or its temporary
pub data FullKid (g : MigView) (l n : ℕ) : Type 0 where
  node_kid : (k : ℕ) → n ≡ gate_number k → ReadsNode g l k → FullKid g l n
  own_kid : (e : Lit) → n ≡ 2 * l → temporary_of (step_of g l) ≡ Some e → FullKid g l n

-- an operand's gate is that of its node
pub operand_gate : (inputs : ℕ) (e : Lit) (n : ℕ) → has (gate_read inputs e) n ≡ true → (n ≡ gate_number (2 * (e.0 / 2))) × IsOf inputs e (2 * (e.0 / 2))
operand_gate inputs e n h =
    let t = gate_of_node inputs e n h in
    let same : n ≡ gate_number (2 * (e.0 / 2)) = omega (arith, t.1) in
    (same, record { above = t.0; same = refl })

own_is : (g : MigView) (l n : ℕ) (o : Option Lit) → o ≡ temporary_of (step_of g l) → has (own_temporary l o) n ≡ true → FullKid g l n
own_is g l n None is h = absurd (false≢true h)
own_is g l n (Some e) is h = own_kid e (sym (has_one (2 * l) n h)) (sym is)

vote_kid : (g : MigView) (l n : ℕ) → l < 2 * size g → l % 2 ≡ 0 → g.inputs < l / 2 → step_of g l ≡ step.Vote (role_at g l) → has (step_reads g.inputs l (step.Vote (role_at g l))) n ≡ true → FullKid g l n
vote_kid g l n b even above is h =
    let r = role_at g l in
    let i = g.inputs in
    let own = own_temporary l (temporary r) in
    elim (has_either (gate_read i r.p) (gate_read i r.q ++ (gate_read i r.z ++ own)) n h) [
      | inl p ↦ let t = operand_gate i r.p n p in node_kid (2 * (r.p.0 / 2)) t.0 (vote_node g l (2 * (r.p.0 / 2)) b even above (by_first t.1))
      | inr rest ↦ elim (has_either (gate_read i r.q) (gate_read i r.z ++ own) n rest) [
        | inl q ↦ let t = operand_gate i r.q n q in node_kid (2 * (r.q.0 / 2)) t.0 (vote_node g l (2 * (r.q.0 / 2)) b even above (by_second t.1))
        | inr more ↦ elim (has_either (gate_read i r.z) own n more) [
          | inl z ↦ let t = operand_gate i r.z n z in node_kid (2 * (r.z.0 / 2)) t.0 (vote_node g l (2 * (r.z.0 / 2)) b even above (by_third t.1))
          | inr o ↦ own_is g l n (temporary r) (sym (ap temporary_of is)) o
        ]
      ]
    ]

kid_by : (g : MigView) (l n : ℕ) → l < 2 * size g → StepKind g l → has (step_reads g.inputs l (step_of g l)) n ≡ true → FullKid g l n
kid_by g l n b (constant z is) h = absurd (false≢true (sym (ap (λ (s : Step). has (step_reads g.inputs l s) n) is) ∙ h))
kid_by g l n b (input s even few is) h = absurd (false≢true (sym (ap (λ (s : Step). has (step_reads g.inputs l s) n) is) ∙ h))
kid_by g l n b (inverse some odd is) h =
    let e : Lit = record { 0 = l } in
    let t = operand_gate g.inputs e n (sym (ap (λ (s : Step). has (step_reads g.inputs l s) n) is) ∙ h) in
    node_kid (2 * (l / 2)) t.0 (ap (λ (xs : List ℕ). has xs (2 * (l / 2))) (kids_at g l b ∙ inverse_reads g l odd) ∙ of_node g.inputs e (2 * (l / 2)) t.1)
kid_by g l n b (vote even above is) h = vote_kid g l n b even above is (sym (ap (λ (s : Step). has (step_reads g.inputs l s) n) is) ∙ h)

pub full_kid : (g : MigView) (l n : ℕ) → l < 2 * size g → has (kids_of (full_graph g) (gate_number l)) n ≡ true → FullKid g l n
full_kid g l n b h = kid_by g l n b (step_kind g l) (sym (ap (λ (xs : List ℕ). has xs n) (gate_kids g l b)) ∙ h)

-- a temporary is wanted by one of the first two operands
pub data IsWanted (r : Role) (e : Lit) : Type 0 where
  for_first : e ≡ r.p → is_inverted r.p ≡ true → IsWanted r e
  for_second : e ≡ r.q → is_inverted r.p ≡ false → is_plain r.q ≡ true → IsWanted r e

some_same : (d e : Lit) → Some d ≡ Some e → e ≡ d
some_same d e h = cc

none_some : (e : Lit) → None ≡ Some e → ⊥
none_some e h = cc

pub wanted : (r : Role) (e : Lit) → temporary r ≡ Some e → IsWanted r e
wanted r e h = elim (bool_cases (is_inverted r.p)) [
  | inl t ↦ for_first (some_same r.p e (sym (ap (λ (b : Bool). cond b (Some r.p) (cond (is_plain r.q) (Some r.q) None)) t) ∙ h)) t
  | inr f ↦
      let open_role = ap (λ (b : Bool). cond b (Some r.p) (cond (is_plain r.q) (Some r.q) None)) f in
      elim (bool_cases (is_plain r.q)) [
        | inl u ↦ for_second (some_same r.q e (sym (open_role ∙ ap (λ (b : Bool). cond b (Some r.q) None) u) ∙ h)) f u
        | inr u ↦ absurd (none_some e (sym (open_role ∙ ap (λ (b : Bool). cond b (Some r.q) None) u) ∙ h))
      ]
]

-- what a temporary reads is a node that its gate reads
pub record TemporaryKid (g : MigView) (l n : ℕ) : Type 0 where
  pub node : ℕ
  pub same : n ≡ gate_number node
  pub reads : ReadsNode g l node

wanted_kid : (g : MigView) (l n : ℕ) (e : Lit) → l < 2 * size g → l % 2 ≡ 0 → g.inputs < l / 2 → IsWanted (role_at g l) e → has (gate_read g.inputs e) n ≡ true → TemporaryKid g l n
wanted_kid g l n e b even above (for_first is inverted) h =
    let t = operand_gate g.inputs (role_at g l).p n (sym (ap (λ (d : Lit). has (gate_read g.inputs d) n) is) ∙ h) in
    record { node = 2 * ((role_at g l).p.0 / 2); same = t.0; reads = vote_node g l (2 * ((role_at g l).p.0 / 2)) b even above (by_first t.1) }
wanted_kid g l n e b even above (for_second is other plain) h =
    let t = operand_gate g.inputs (role_at g l).q n (sym (ap (λ (d : Lit). has (gate_read g.inputs d) n) is) ∙ h) in
    record { node = 2 * ((role_at g l).q.0 / 2); same = t.0; reads = vote_node g l (2 * ((role_at g l).q.0 / 2)) b even above (by_second t.1) }

vote_temporary : (g : MigView) (l n : ℕ) (o : Option Lit) → l < 2 * size g → l % 2 ≡ 0 → g.inputs < l / 2 → temporary (role_at g l) ≡ o → has (temporary_reads g.inputs o) n ≡ true → TemporaryKid g l n
vote_temporary g l n None b even above is h = absurd (false≢true h)
vote_temporary g l n (Some e) b even above is h = wanted_kid g l n e b even above (wanted (role_at g l) e is) h

temporary_by : (g : MigView) (l n : ℕ) → l < 2 * size g → StepKind g l → has (temporary_reads g.inputs (temporary_of (step_of g l))) n ≡ true → TemporaryKid g l n
temporary_by g l n b (constant z is) h = absurd (false≢true (sym (ap (λ (s : Step). has (temporary_reads g.inputs (temporary_of s)) n) is) ∙ h))
temporary_by g l n b (input s even few is) h = absurd (false≢true (sym (ap (λ (s : Step). has (temporary_reads g.inputs (temporary_of s)) n) is) ∙ h))
temporary_by g l n b (inverse some odd is) h = absurd (false≢true (sym (ap (λ (s : Step). has (temporary_reads g.inputs (temporary_of s)) n) is) ∙ h))
temporary_by g l n b (vote even above is) h =
    vote_temporary g l n (temporary (role_at g l)) b even above refl (sym (ap (λ (s : Step). has (temporary_reads g.inputs (temporary_of s)) n) is) ∙ h)

pub temporary_kid : (g : MigView) (l n : ℕ) → l < 2 * size g → has (kids_of (full_graph g) (2 * l)) n ≡ true → TemporaryKid g l n
temporary_kid g l n b h = temporary_by g l n b (step_kind g l) (sym (ap (λ (xs : List ℕ). has xs n) (temporary_kids g l b)) ∙ h)

-- a gate reads the gates of the nodes that it reads
roles_have : (g : MigView) (l k : ℕ) → ReadsOne g.inputs (role_at g l).p (role_at g l).q (role_at g l).z k → has (step_reads g.inputs l (step.Vote (role_at g l))) (gate_number k) ≡ true
roles_have g l k (by_first o) =
    let r = role_at g l in
    has_front (gate_read g.inputs r.p) (gate_read g.inputs r.q ++ (gate_read g.inputs r.z ++ own_temporary l (temporary r))) (gate_number k) (node_has_gate g.inputs r.p k o)
roles_have g l k (by_second o) =
    let r = role_at g l in
    has_back (gate_read g.inputs r.p) (gate_read g.inputs r.q ++ (gate_read g.inputs r.z ++ own_temporary l (temporary r))) (gate_number k)
    (has_front (gate_read g.inputs r.q) (gate_read g.inputs r.z ++ own_temporary l (temporary r)) (gate_number k) (node_has_gate g.inputs r.q k o))
roles_have g l k (by_third o) =
    let r = role_at g l in
    has_back (gate_read g.inputs r.p) (gate_read g.inputs r.q ++ (gate_read g.inputs r.z ++ own_temporary l (temporary r))) (gate_number k)
    (has_back (gate_read g.inputs r.q) (gate_read g.inputs r.z ++ own_temporary l (temporary r)) (gate_number k)
    (has_front (gate_read g.inputs r.z) (own_temporary l (temporary r)) (gate_number k) (node_has_gate g.inputs r.z k o)))

pub few_none : (g : MigView) (l k : ℕ) → l < 2 * size g → l % 2 ≡ 0 → l / 2 ≤ g.inputs → ReadsNode g l k → ⊥
few_none g l k b even few r =
    let t : eqb (l % 2) 1 ≡ false = grind (arith, nat_tests) in
    let u : nat_le (l / 2) g.inputs ≡ true = grind (arith, nat_tests) in
    let none : gate_reads g l ≡ [] =
    ap (λ (b : Bool). cond b (node_read g.inputs (record { 0 = l })) (cond (nat_le (l / 2) g.inputs) [] (nodes_read g.inputs (maj_at g l)))) t
    ∙ ap (λ (b : Bool). cond b [] (nodes_read g.inputs (maj_at g l))) u in
    false≢true (sym (ap (λ (xs : List ℕ). has xs k) (kids_at g l b ∙ none)) ∙ r)

pub odd_is : (g : MigView) (l k : ℕ) → l < 2 * size g → l % 2 ≡ 1 → ReadsNode g l k → IsOf g.inputs (record { 0 = l }) k
odd_is g l k b odd r = node_of g.inputs (record { 0 = l }) k (sym (ap (λ (xs : List ℕ). has xs k) (kids_at g l b ∙ inverse_reads g l odd)) ∙ r)

pub odd_or_even : (l : ℕ) → (l % 2 ≡ 1) ⊎ (l % 2 ≡ 0)
odd_or_even l = elim (bool_cases (eqb (l % 2) 1)) [
  | inl t ↦ inl (grind (arith, nat_tests))
  | inr f ↦ inr (let r : l % 2 < 2 = omega arith in let n : l % 2 ≢ 1 = grind (arith, nat_tests) in omega arith)
]

reads_by : (g : MigView) (l k : ℕ) → l < 2 * size g → StepKind g l → ReadsNode g l k → has (step_reads g.inputs l (step_of g l)) (gate_number k) ≡ true
reads_by g l k b (constant z is) r = elim (odd_or_even l) [
  | inl odd ↦ let o = odd_is g l k b odd r in absurd (omega (arith, o.above))
  | inr even ↦ absurd (few_none g l k b even (omega arith) r)
]
reads_by g l k b (input s even few is) r = absurd (few_none g l k b even few r)
reads_by g l k b (inverse some odd is) r =
    ap (λ (s : Step). has (step_reads g.inputs l s) (gate_number k)) is ∙ node_has_gate g.inputs (record { 0 = l }) k (odd_is g l k b odd r)
reads_by g l k b (vote even above is) r =
    ap (λ (s : Step). has (step_reads g.inputs l s) (gate_number k)) is ∙ roles_have g l k (node_vote g l k b even above r)

pub reads_gate : (g : MigView) (l k : ℕ) → l < 2 * size g → ReadsNode g l k → has (kids_of (full_graph g) (gate_number l)) (gate_number k) ≡ true
reads_gate g l k b r = ap (λ (xs : List ℕ). has xs (gate_number k)) (gate_kids g l b) ∙ reads_by g l k b (step_kind g l) r

-- a gate reads its temporary
vote_own : (g : MigView) (l : ℕ) (e : Lit) → temporary (role_at g l) ≡ Some e → has (step_reads g.inputs l (step.Vote (role_at g l))) (2 * l) ≡ true
vote_own g l e is =
    let r = role_at g l in
    has_back (gate_read g.inputs r.p) (gate_read g.inputs r.q ++ (gate_read g.inputs r.z ++ own_temporary l (temporary r))) (2 * l)
    (has_back (gate_read g.inputs r.q) (gate_read g.inputs r.z ++ own_temporary l (temporary r)) (2 * l)
    (has_back (gate_read g.inputs r.z) (own_temporary l (temporary r)) (2 * l)
    (ap (λ (o : Option Lit). has (own_temporary l o) (2 * l)) is ∙ one_has (2 * l) (2 * l) refl)))

own_by : (g : MigView) (l : ℕ) (e : Lit) → StepKind g l → temporary_of (step_of g l) ≡ Some e → has (step_reads g.inputs l (step_of g l)) (2 * l) ≡ true
own_by g l e (constant z is) w = absurd (none_some e (sym (ap temporary_of is) ∙ w))
own_by g l e (input s even few is) w = absurd (none_some e (sym (ap temporary_of is) ∙ w))
own_by g l e (inverse some odd is) w = absurd (none_some e (sym (ap temporary_of is) ∙ w))
own_by g l e (vote even above is) w = ap (λ (s : Step). has (step_reads g.inputs l s) (2 * l)) is ∙ vote_own g l e (sym (ap temporary_of is) ∙ w)

pub reads_own : (g : MigView) (l : ℕ) (e : Lit) → l < 2 * size g → temporary_of (step_of g l) ≡ Some e → has (kids_of (full_graph g) (gate_number l)) (2 * l) ≡ true
reads_own g l e b w = ap (λ (xs : List ℕ). has xs (2 * l)) (gate_kids g l b) ∙ own_by g l e (step_kind g l) w

pub vote_third : (g : MigView) (l k : ℕ) → l < 2 * size g → l % 2 ≡ 0 → g.inputs < l / 2 → IsOf g.inputs (role_at g l).z k → ReadsNode g l k
vote_third g l k b even above o = vote_node g l k b even above (by_third o)
