-- The graph of a network: its roots reach each gate, and no gate reads one twice.
use Rattle.std.proofs.Common.{◌≡◌, ℕ, zero, suc, ◌+◌, ◌<◌, ◌≤◌, Bool, true, false, cond, eqb, List, [], ◌∷◌, ◌++◌, length, get_or, fold, map, Contains, inl, inr, refl, sym, ap, subst, arith}
use Rattle.std.proofs.lemmas.Bool.{cases_eq, cases_lt, false≢true, cond_both, or_cases, or_left, or_right, eq-eqb, ne_eqb}
use Rattle.std.proofs.lemmas.List.{get_or-map, get_or_past, length-map}
use Rattle.pim_graph.specs.Graphs.{has, kids_of}
use Rattle.pim_graph.specs.Orders.{IsReached}
use Rattle.pim_graph.specs.Orders.IsReached.{as_root, as_child}
use Rattle.pim_graph.specs.Readers.{occurrences}
use Rattle.pim_nor.specs.GateGraphs.{with_gate, gates_among, gates_read, graph_of}
use Rattle.pim_nor.specs.Network.{NorView, IsNetwork, pins}
use Rattle.pim_nor.specs.declared.network.Gate.TheVariants.{One}
use Rattle.pim_nor.specs.declared.network.Pin.{Pin}
use Rattle.pim_nor.specs.declared.network.Pin.TheVariants.{Input, Gate as Place}
use Rattle.pim_nor.proofs.GateLists.{gate_there}
use Rattle.pim_nor.proofs.Sound.{AreInputsOrFirst-AreOfFirst}

-- what is among the gates stays there

has-append : (xs ys : List ℕ) (x : ℕ) → has xs x ≡ true → has (xs ++ ys) x ≡ true
has-append [] ys x h = absurd (false≢true h)
has-append (y ∷ xs) ys x h =
    elim (or_cases (eqb y x) (has xs x) h) [
      | inl e ↦ or_left (eqb y x) (has (xs ++ ys) x) e
      | inr rest ↦ or_right (eqb y x) (has (xs ++ ys) x) (has-append xs ys x rest)
    ]

has-last : (xs : List ℕ) (x : ℕ) → has (xs ++ x ∷ []) x ≡ true
has-last [] x = or_left (eqb x x) false (eq-eqb x x refl)
has-last (y ∷ xs) x = or_right (eqb y x) (has (xs ++ x ∷ []) x) (has-last xs x)

has-with_gate : (gs : List ℕ) (p : Pin) (x : ℕ) → has gs x ≡ true → has (with_gate gs p) x ≡ true
has-with_gate gs (Input j) x h = h
has-with_gate gs (Place i) x h =
    let P : List ℕ → Type 0 = λ xs. has xs x ≡ true in
    cond_both (has gs i) gs (gs ++ i ∷ []) P (λ _. h) (λ _. has-append gs (i ∷ []) x h)

has-with_gate_new : (gs : List ℕ) (x : ℕ) → has (with_gate gs (Place x)) x ≡ true
has-with_gate_new gs x =
    let P : List ℕ → Type 0 = λ xs. has xs x ≡ true in
    cond_both (has gs x) gs (gs ++ x ∷ []) P (λ there. there) (λ _. has-last gs x)

has-fold : (gs : List ℕ) (ps : List Pin) (x : ℕ) → has gs x ≡ true → has (fold with_gate gs ps) x ≡ true
has-fold gs [] x h = h
has-fold gs (p ∷ ps) x h = has-fold (with_gate gs p) ps x (has-with_gate gs p x h)

has-pin : (gs : List ℕ) (ps : List Pin) (k : ℕ) (d : Pin) (x : ℕ) → k < length ps → get_or ps k d ≡ Place x → has (fold with_gate gs ps) x ≡ true
has-pin gs [] k d x l e = absurd (omega arith)
has-pin gs (p ∷ ps) zero d x l e =
    let P : Pin → Type 0 = λ q. has (with_gate gs q) x ≡ true in
    has-fold (with_gate gs p) ps x (subst P (sym e) (has-with_gate_new gs x))
has-pin gs (p ∷ ps) (suc k) d x l e = has-pin (with_gate gs p) ps k d x (omega arith) e

has-gates_among : (ps : List Pin) (x : ℕ) → Contains ps (Place x) → has (gates_among ps) x ≡ true
has-gates_among ps x c = has-pin [] ps c.0 (Place x) x c.1 c.2

kids-graph_of : (n : NorView) (k : ℕ) → k < length n.gates → kids_of (graph_of n) k ≡ gates_read (get_or n.gates k One)
kids-graph_of n k l = get_or-map gates_read n.gates k One [] l

-- a gate that is read by a reached gate or by an output is reached, from the last gate down
reached-down : (n : NorView) → IsNetwork n → (m k : ℕ) → k < length n.gates → length n.gates ≤ k + m → IsReached (graph_of n) k
reached-down n net zero k l h = absurd (omega arith)
reached-down n net (suc m) k l h =
    elim (net.read k l) [
      | inl c ↦ as_root (has-gates_among n.outs k c)
      | inr r ↦
          let gate = get_or n.gates r.0 One in
          let there : r.0 < length n.gates = r.1 in
          let behind : k < r.0 = gate_there r.0 (pins gate) r.2.0 k (Place k) (AreInputsOrFirst-AreOfFirst n.inputs r.0 (pins gate) (net.gates_after r.0 One r.1)) r.2.1 r.2.2 in
          let P : List ℕ → Type 0 = λ xs. has xs k ≡ true in
          as_child (reached-down n net m r.0 r.1 (omega arith)) (subst P (sym (kids-graph_of n r.0 r.1)) (has-gates_among (pins gate) k r.2))
    ]

-- the roots of a network's graph reach each gate
pub graph_of-reached : (n : NorView) → IsNetwork n → (k : ℕ) → k < length n.gates → IsReached (graph_of n) k
graph_of-reached n net k l = reached-down n net (length n.gates) k l (omega arith)

-- no gate is listed twice

occurrences-push : (xs : List ℕ) (x c : ℕ) → occurrences (xs ++ x ∷ []) c ≡ occurrences xs c + cond (eqb x c) 1 0
occurrences-push [] x c = omega arith
occurrences-push (y ∷ ys) x c = omega (arith, occurrences-push ys x c)

occurrences-none : (xs : List ℕ) (x : ℕ) → has xs x ≡ false → occurrences xs x ≡ 0
occurrences-none [] x h = refl
occurrences-none (y ∷ ys) x h =
    let rest : has ys x ≡ false = grind arith in
    let here : eqb y x ≡ false = grind arith in
    let bit : cond {A = ℕ} (eqb y x) 1 0 ≡ 0 = ap (λ (b : Bool). cond {A = ℕ} b 1 0) here in
    let none = occurrences-none ys x rest in
    omega arith

once-with_gate : (gs : List ℕ) (p : Pin) → ((c : ℕ) → occurrences gs c ≤ 1) → (c : ℕ) → occurrences (with_gate gs p) c ≤ 1
once-with_gate gs (Input j) once c = once c
once-with_gate gs (Place i) once c =
    let P : List ℕ → Type 0 = λ xs. occurrences xs c ≤ 1 in
    cond_both (has gs i) gs (gs ++ i ∷ []) P (λ _. once c) (λ absent. elim (cases_eq i c) [
      | inl e ↦
          let Q : ℕ → Type 0 = λ x. occurrences gs x ≡ 0 in
          let none = subst Q e (occurrences-none gs i absent) in
          let bit : cond {A = ℕ} (eqb i c) 1 0 ≡ 1 = ap (λ (b : Bool). cond {A = ℕ} b 1 0) (eq-eqb i c e) in
          omega (arith, occurrences-push gs i c)
      | inr ne ↦
          let bit : cond {A = ℕ} (eqb i c) 1 0 ≡ 0 = ap (λ (b : Bool). cond {A = ℕ} b 1 0) (ne_eqb i c ne) in
          let old = once c in
          omega (arith, occurrences-push gs i c)
    ])

once-fold : (gs : List ℕ) (ps : List Pin) → ((c : ℕ) → occurrences gs c ≤ 1) → (c : ℕ) → occurrences (fold with_gate gs ps) c ≤ 1
once-fold gs [] once c = once c
once-fold gs (p ∷ ps) once c = once-fold (with_gate gs p) ps (once-with_gate gs p once) c

pub graph_of-once : (n : NorView) (k c : ℕ) → occurrences (kids_of (graph_of n) k) c ≤ 1
graph_of-once n k c =
    let P : List ℕ → Type 0 = λ xs. occurrences xs c ≤ 1 in
    elim (cases_lt k (length n.gates)) [
      | inl l ↦ subst P (sym (kids-graph_of n k l)) (once-fold [] (pins (get_or n.gates k One)) (λ x. omega arith) c)
      | inr past ↦ subst P (sym (get_or_past (map gates_read n.gates) k [] (omega (arith, length-map n.gates gates_read)))) (omega arith)
    ]
