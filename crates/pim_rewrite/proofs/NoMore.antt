-- A copy and a flip pass leave no more needed nodes.
use Rattle.std.proofs.Common.{◌≡◌, ℕ, suc, ◌+◌, ◌<◌, ◌≤◌, Bool, true, false, cond, ltb, List, [], ◌∷◌, length, refl, sym, ap, subst, arith, inl, inr}
use Rattle.pim_aig.specs.Literals.{complement, node}
use Rattle.pim_aig.specs.declared.literal.Lit.{Lit}
use Rattle.pim_mig.specs.Graph.{IsMig, MigView}
use Rattle.pim_mig.specs.Laws.{IsFront, NodeLaws}
use Rattle.pim_mig.specs.Majs.{begun, Making}
use Rattle.pim_aig.specs.Moving.{moved}
use Rattle.pim_mig.specs.Needs.{is_needed, needed_count, times}
use Rattle.pim_mig.specs.Nodes.{made}
use Rattle.pim_mig.specs.declared.node.Maj.{Maj}
use Rattle.pim_rewrite.specs.Passes.{after, copy, flip, flipped, flipped_by, inversions, moved_node, opposite, plainly, Step}
use Rattle.pim_rewrite.proofs.Closing.{Closes, IsClosed, IsCovered, IsLive, live_by, lives, lives_from, made_closed, node_complement, node_moved, node_operand, passed_live}
use Rattle.pim_rewrite.proofs.Counting.{counted, counted_is}
use Rattle.pim_rewrite.proofs.Frame.{AtNode, Grows, none, operand_needed, ops}

pub plain_grows : (laws : NodeLaws) (inputs : ℕ) → Grows (plainly inputs)
plain_grows laws inputs = record { front = λ st m. laws.fronts inputs st.nodes (moved_node st.lits m) }

flip_front : (laws : NodeLaws) (inputs : ℕ) (nodes : List Maj) (m : Maj) (b : Bool) → IsFront nodes (flipped_by b inputs nodes m).nodes
flip_front laws inputs nodes m true = laws.fronts inputs nodes (opposite m)
flip_front laws inputs nodes m false = laws.fronts inputs nodes m

pub flip_grows : (laws : NodeLaws) (inputs : ℕ) → Grows (flipped inputs)
flip_grows laws inputs = record { front = λ st m. flip_front laws inputs st.nodes (moved_node st.lits m) (ltb 1 (inversions (moved_node st.lits m))) }

-- a literal of a live node, moved
pub moved_live : (g : MigView) (gone : ℕ → Bool) (lits : List Lit) (live : List ℕ) (l : Lit) → IsCovered g gone lits live → node l < length lits → is_needed g (node l) ≡ true → gone (node l) ≡ false → IsLive g.inputs live (node (moved lits l))
moved_live g gone lits live l cov there needed stays =
    subst (IsLive g.inputs live) (sym (node_moved lits l)) (cov.each (node l) (record { 0 = 0 }) there needed stays)

-- the operands of a node whose operands are live
pub three_live : (inputs : ℕ) (live : List ℕ) (m : Maj) → IsLive inputs live (node m.x) → IsLive inputs live (node m.y) → IsLive inputs live (node m.z) → (i : ℕ) → 0 < times i (ops m) → IsLive inputs live i
three_live inputs live m x y z i h =
    let o = node_operand i m h in
    let e : node o.0 ≡ i = o.2 in
    subst (IsLive inputs live) e (elim o.1 [
      | inl a ↦ subst (IsLive inputs live) (ap node (sym a)) x
      | inr r ↦ elim r [
        | inl a ↦ subst (IsLive inputs live) (ap node (sym a)) y
        | inr a ↦ subst (IsLive inputs live) (ap node (sym a)) z
      ]
    ])

-- the operand is of a node before this one
pub operands_there : (g : MigView) (k : ℕ) (m : Maj) (lits : List Lit) → IsMig g → AtNode g k m → length lits ≡ 1 + g.inputs + k → (node m.x < length lits) × (node m.y < length lits) × (node m.z < length lits)
operands_there g k m lits sound at len =
    let ex = ap (λ (n : Maj). n.x.0) at.is in
    let ey = ap (λ (n : Maj). n.y.0) at.is in
    let ez = ap (λ (n : Maj). n.z.0) at.is in
    (omega (arith, sound.x_before k none at.there), omega (arith, sound.y_before k none at.there), omega (arith, sound.z_before k none at.there))

-- the moved operands of a needed node of which none is gone are live
pub operands_live : (g : MigView) (gone : ℕ → Bool) (k : ℕ) (m : Maj) (lits : List Lit) (live : List ℕ) → IsMig g → AtNode g k m → length lits ≡ 1 + g.inputs + k → IsCovered g gone lits live → gone (node m.x) ≡ false → gone (node m.y) ≡ false → gone (node m.z) ≡ false → (i : ℕ) → 0 < times i (ops (moved_node lits m)) → IsLive g.inputs live i
operands_live g gone k m lits live sound at len cov x y z =
    let there = operands_there g k m lits sound at len in
    three_live g.inputs live (moved_node lits m)
    (moved_live g gone lits live m.x cov there.0 (operand_needed g k m (node m.x) sound at (inl refl)) x)
    (moved_live g gone lits live m.y cov there.1 (operand_needed g k m (node m.y) sound at (inr (inl refl))) y)
    (moved_live g gone lits live m.z cov there.2 (operand_needed g k m (node m.z) sound at (inr (inr refl))) z)

-- nothing is gone, and nothing is added
abbrev pub never : ℕ → Bool
never i = false

abbrev pub nothing : Making → Maj → List ℕ
nothing st m = []

pub plain_closes : (laws : NodeLaws) (g : MigView) → IsMig g → Closes (plainly g.inputs) g never nothing
plain_closes laws g sound = record {
  added = λ st live k m at len cl cov h. absurd (let z : ⊥ = cc in z);
  lived = λ st live k m at len cl cov h. made_closed laws g.inputs st.nodes (moved_node st.lits m) live cl (operands_live g never k m st.lits live sound at len cov refl refl refl);
}

opposite_live : (inputs : ℕ) (live : List ℕ) (m : Maj) → ((i : ℕ) → 0 < times i (ops m) → IsLive inputs live i) → (i : ℕ) → 0 < times i (ops (opposite m)) → IsLive inputs live i
opposite_live inputs live m asked i h =
    let e = ap (λ (a : ℕ). times i (a ∷ node (complement m.y) ∷ node (complement m.z) ∷ [])) (node_complement m.x) in
    let f = ap (λ (a : ℕ). times i (node m.x ∷ a ∷ node (complement m.z) ∷ [])) (node_complement m.y) in
    let d = ap (λ (a : ℕ). times i (node m.x ∷ node m.y ∷ a ∷ [])) (node_complement m.z) in
    asked i (omega arith)

flip_closed : (laws : NodeLaws) (inputs : ℕ) (nodes : List Maj) (m : Maj) (live : List ℕ) (b : Bool) → IsClosed inputs nodes live → ((i : ℕ) → 0 < times i (ops m) → IsLive inputs live i) → IsClosed inputs (flipped_by b inputs nodes m).nodes (node (flipped_by b inputs nodes m).lit ∷ live)
flip_closed laws inputs nodes m live true cl asked =
    let d = made inputs nodes (opposite m) in
    let P : ℕ → Type 0 = λ q. IsClosed inputs d.nodes (q ∷ live) in
    subst P (sym (node_complement d.lit)) (made_closed laws inputs nodes (opposite m) live cl (opposite_live inputs live m asked))
flip_closed laws inputs nodes m live false cl asked = made_closed laws inputs nodes m live cl asked

pub flip_closes : (laws : NodeLaws) (g : MigView) → IsMig g → Closes (flipped g.inputs) g never nothing
flip_closes laws g sound = record {
  added = λ st live k m at len cl cov h. absurd (let z : ⊥ = cc in z);
  lived = λ st live k m at len cl cov h.
      let m2 = moved_node st.lits m in
      flip_closed laws g.inputs st.nodes m2 live (ltb 1 (inversions m2)) cl (operands_live g never k m st.lits live sound at len cov refl refl refl);
}

-- as many are live as are needed
by_length : (step : Step) (needed : Bool) (st : Making) (live : List ℕ) (m : Maj) → length (live_by needed false step nothing st live m) ≡ cond needed 1 0 + length live
by_length step true st live m = omega arith
by_length step false st live m = omega arith

lives_length : (step : Step) (needed : ℕ → Bool) (st : Making) (live : List ℕ) (n : ℕ) (rest : List Maj) → length (lives_from step needed never nothing st live n rest) ≡ counted needed n (length rest) + length live
lives_length step needed st live n [] = omega arith
lives_length step needed st live n (m ∷ rest) =
    let next = after step (needed n) st m in
    let now = live_by (needed n) false step nothing st live m in
    let e = lives_length step needed next now (suc n) rest in
    let f = by_length step (needed n) st live m in
    let h = ap (λ (a : ℕ). counted needed a (length rest)) (let z : suc n ≡ n + 1 = omega arith in z) in
    omega arith

live_count : (step : Step) (g : MigView) → length (lives step g never nothing) ≡ needed_count g
live_count step g =
    let e = lives_length step (is_needed g) (begun g.inputs) [] (1 + g.inputs) g.nodes in
    let f = counted_is (is_needed g) (1 + g.inputs) (length g.nodes) in
    omega arith

pub copy_no_more : (laws : NodeLaws) (g t : MigView) → IsMig g → t ≡ copy g → needed_count t ≤ needed_count g
copy_no_more laws g t sound is =
    omega (arith, passed_live (plainly g.inputs) g t never nothing sound (plain_closes laws g sound) (λ k d h. refl) is, live_count (plainly g.inputs) g)

pub flip_no_more : (laws : NodeLaws) (g t : MigView) → IsMig g → t ≡ flip g → needed_count t ≤ needed_count g
flip_no_more laws g t sound is =
    omega (arith, passed_live (flipped g.inputs) g t never nothing sound (flip_closes laws g sound) (λ k d h. refl) is, live_count (flipped g.inputs) g)
