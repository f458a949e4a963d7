-- The row after the gates up to a place: each gate that is needed there has its value in its cell.
use Rattle.std.proofs.Common.{◌≡◌, ◌≢◌, ℕ, zero, suc, ◌+◌, ◌-◌, ◌*◌, ◌/◌, ◌%◌, ◌<◌, ◌≤◌, Bool, true, false, cond, eqb, nat_lt, nat_le, ◌&&◌, ◌||◌, not, List, [], ◌∷◌, ◌++◌, length, map, flat_map, get_or, take, drop, All, Some, refl, sym, ◌∙◌, ap, subst, arith, inl, inr}
use Rattle.std.specs.List.{list_all, AllByRecursion}
use Rattle.std.proofs.lemmas.Bool.{false≢true, and_parts, eqb-true, leb-true, ltb-true}
use Rattle.std.proofs.lemmas.Bool.Decides.{nat_tests, eqb_tells}
use Rattle.std.proofs.lemmas.List.{drop_more, take_more, flat_map_more, get_or-take}
use Rattle.std.proofs.Math.Seq.{take-length}
use Rattle.pim_aig.specs.Graph.{AigView, IsAig, nodes}
use Rattle.pim_aig.specs.Laws.{ValueLaws}
use Rattle.pim_aig.specs.Values.{aval}
use Rattle.pim_graph.specs.Allotments.{AllotmentView, IsAllotment, taken_at}
use Rattle.pim_graph.specs.Graphs.{has, kids_of}
use Rattle.pim_graph.specs.Orders.{IsReached}
use Rattle.pim_graph.specs.Peaks.{IsPlaced, needed, read_by}
use Rattle.pim_isa.specs.Steps.{bit}
use Rattle.pim_imply.specs.declared.instr.ImplyInstr.{ImplyInstr}
use Rattle.pim_imply.specs.Gates.{gates, imply_graph, is_input, operands, turned}
use Rattle.pim_imply.specs.Machines.{iexec}
use Rattle.pim_imply.specs.inner.Schedules.{cell_of, gate_instrs, schedule}
use Rattle.pim_imply.proofs.Literals.{lit, bool_cases, turned_twice, kind_of, gate_value, even_value, input_value}
use Rattle.pim_imply.proofs.GateReads.{or_true, has_split, kids_at, gate_has, reached_takes, turned_below}
use Rattle.pim_imply.proofs.Rows.{iexec_length, iexec_append, nand_gives, nand_off}

all_has : (P : ℕ → Type 0) (xs : List ℕ) (x : ℕ) → All P xs → has xs x ≡ true → P x
all_has P [] x all h = absurd (false≢true h)
all_has P (y ∷ ys) x all h = elim (eqb_tells y x) [
  | inl t ↦ subst P t.1 (all 0 x (omega arith))
  | inr f ↦ all_has P ys x (λ k d l. all (suc k) d (omega arith)) (sym (ap (λ (b : Bool). b || has ys x) f.0) ∙ h)
]

-- what is known of a program's gates and their cells
pub record IsSettled (g : AigView) (a : AllotmentView) : Type 0 where
  pub small : IsAig g
  pub values : ValueLaws g
  pub placed : IsPlaced (imply_graph g) (gates g)
  pub there : All (λ l. l < 2 * nodes g) (gates g)
  pub reached : All (IsReached (imply_graph g)) (gates g)
  pub allotted : IsAllotment (imply_graph g) (gates g) [] g.inputs a

-- the row holds the inputs, and each gate before the place that is needed there
pub record Holds (g : AigView) (a : AllotmentView) (bits : List Bool) (p : ℕ) (m : List Bool) : Type 0 where
  pub wide : a.width ≤ length m
  pub inputs : (k : ℕ) → k < g.inputs → bit m k ≡ get_or bits k false
  pub held : (y : ℕ) → has (take p (gates g)) y ≡ true → needed (imply_graph g) (drop p (gates g)) y ≡ true → bit m (get_or a.cells y 0) ≡ aval g bits (lit (turned y))

pub kid_needed : (g : AigView) (p k : ℕ) → p < length (gates g) → has (kids_of (imply_graph g) (get_or (gates g) p 0)) k ≡ true → needed (imply_graph g) (drop p (gates g)) k ≡ true
kid_needed g p k h child =
    let v = imply_graph g in
    let rest = drop (p + 1) (gates g) in
    ap (λ (ys : List ℕ). needed v ys k) (drop_more (gates g) p 0 h)
    ∙ ap (λ (b : Bool). (b || read_by v rest k) || has v.roots k) child

pub has_at_place : (xs : List ℕ) (p : ℕ) → p < length xs → has xs (get_or xs p 0) ≡ true
has_at_place [] p h = absurd (omega arith)
has_at_place (x ∷ xs) zero h = let e : eqb x x ≡ true = grind (arith, nat_tests) in ap (λ (b : Bool). b || has xs x) e
has_at_place (x ∷ xs) (suc p) h = or_true (eqb x (get_or xs p 0)) (has xs (get_or xs p 0)) (has_at_place xs p (omega arith))

eq_self : (x : ℕ) → eqb x x ≡ true
eq_self x = grind (arith, nat_tests)

pub record IsInput (g : AigView) (l : ℕ) : Type 0 where
  pub even : l % 2 ≡ 0
  pub some : 0 < l / 2
  pub few : l / 2 ≤ g.inputs

pub input_means : (g : AigView) (l : ℕ) → is_input g l ≡ true → IsInput g l
input_means g l h =
    let t = and_parts (eqb (l % 2) 0 && nat_lt 0 (l / 2)) (nat_le (l / 2) g.inputs) h in
    let u = and_parts (eqb (l % 2) 0) (nat_lt 0 (l / 2)) t.0 in
    record { even = eqb-true (l % 2) 0 u.0; some = ltb-true 0 (l / 2) u.1; few = leb-true (l / 2) g.inputs t.1 }

front_has : (xs : List ℕ) (p y : ℕ) → has (take p xs) y ≡ true → has xs y ≡ true
front_has [] zero y h = absurd (false≢true h)
front_has [] (suc p) y h = absurd (false≢true h)
front_has (x ∷ xs) zero y h = absurd (false≢true h)
front_has (x ∷ xs) (suc p) y h = elim (bool_cases (eqb x y)) [
  | inl t ↦ ap (λ (b : Bool). b || has xs y) t
  | inr f ↦ ap (λ (b : Bool). b || has xs y) f ∙ front_has xs p y (sym (ap (λ (b : Bool). b || has (take p xs) y) f) ∙ h)
]

-- an empty list names nothing that is taken over
pub none_some : (p y : ℕ) → taken_at [] p ≡ Some y → ⊥
none_some zero y e = cc
none_some (suc p) y e = cc

-- a literal that the gate at a place reads: its cell is within the program and not the gate's own
pub record Source (g : AigView) (a : AllotmentView) (p o : ℕ) : Type 0 where
  pub within : cell_of g a.cells o < a.width
  pub apart : cell_of g a.cells o ≢ get_or a.cells (get_or (gates g) p 0) 0

pub source_of : (g : AigView) (a : AllotmentView) (p o : ℕ) → IsSettled g a → p < length (gates g) → has (operands g (turned (get_or (gates g) p 0))) o ≡ true → Source g a p o
source_of g a p o s h reads =
    let v = imply_graph g in
    let xs = gates g in
    let l = get_or xs p 0 in
    let z = get_or a.cells l 0 in
    let from = s.allotted.from l (has_at_place xs p h) in
    elim (bool_cases (is_input g o)) [
      | inl i ↦
          let t = input_means g o i in
          let cell : cell_of g a.cells o ≡ o / 2 - 1 = ap (λ (b : Bool). cond b (o / 2 - 1) (get_or a.cells (turned o) 0)) i in
          let room = s.allotted.room in
          let some = t.some in
          let few = t.few in
          record { within = omega arith; apart = λ e. omega (arith, e) }
      | inr i ↦
          let k = turned o in
          let cell : cell_of g a.cells o ≡ get_or a.cells k 0 = ap (λ (b : Bool). cond b (o / 2 - 1) (get_or a.cells (turned o) 0)) i in
          let kid : has (kids_of v l) k ≡ true = ap (λ (ys : List ℕ). has ys k) (kids_at g l (s.there p 0 h)) ∙ gate_has g (operands g (turned l)) o reads i in
          let before : has (take p xs) k ≡ true = all_has (λ y. has (take p xs) y ≡ true) (kids_of v l) k (s.placed.after p h) kid in
          record {
            within = subst (λ (n : ℕ). n < a.width) (sym cell) (s.allotted.within k (front_has xs p k before));
            apart = λ e. s.allotted.apart p k h before (kid_needed g p k h kid) (none_some p k) (sym cell ∙ e);
          }
    ]

-- the literals' values are in their cells
source_holds : (g : AigView) (a : AllotmentView) (bits m : List Bool) (p o : ℕ) → IsSettled g a → length bits ≡ g.inputs → Holds g a bits p m → p < length (gates g) → has (operands g (turned (get_or (gates g) p 0))) o ≡ true → bit m (cell_of g a.cells o) ≡ aval g bits (lit o)
source_holds g a bits m p o s len holds h reads =
    let v = imply_graph g in
    let xs = gates g in
    let l = get_or xs p 0 in
    elim (bool_cases (is_input g o)) [
      | inl i ↦
          let t = input_means g o i in
          let some = t.some in
          let few = t.few in
          ap (λ (b : Bool). bit m (cond b (o / 2 - 1) (get_or a.cells (turned o) 0))) i
          ∙ holds.inputs (o / 2 - 1) (omega arith)
          ∙ sym (input_value g bits (o / 2) s.values len some few)
          ∙ sym (even_value g bits o t.even)
      | inr i ↦
          let k = turned o in
          let kid : has (kids_of v l) k ≡ true = ap (λ (ys : List ℕ). has ys k) (kids_at g l (s.there p 0 h)) ∙ gate_has g (operands g (turned l)) o reads i in
          let before : has (take p xs) k ≡ true = all_has (λ y. has (take p xs) y ≡ true) (kids_of v l) k (s.placed.after p h) kid in
          ap (λ (b : Bool). bit m (cond b (o / 2 - 1) (get_or a.cells (turned o) 0))) i
          ∙ holds.held k before (kid_needed g p k h kid)
          ∙ ap (λ (n : ℕ). aval g bits (lit n)) (turned_twice o)
    ]

-- what holds of each element of a list, for a test of another
all_equal : (ls : List ℕ) (cell : ℕ → ℕ) (f h : ℕ → Bool) → ((o : ℕ) → has ls o ≡ true → f (cell o) ≡ h o) → list_all f (map cell ls) ≡ list_all h ls
all_equal [] cell f h e = refl
all_equal (l ∷ ls) cell f h e =
    let first = e l (ap (λ (b : Bool). b || has ls l) (eq_self l)) in
    let rest = all_equal ls cell f h (λ o i. e o (or_true (eqb l o) (has ls o) i)) in
    rw (first, rest) refl

all_apart : (ls : List ℕ) (cell : ℕ → ℕ) (z : ℕ) → ((o : ℕ) → has ls o ≡ true → cell o ≢ z) → AllByRecursion (λ c. c ≢ z) (map cell ls)
all_apart [] cell z e = tt
all_apart (l ∷ ls) cell z e = (e l (ap (λ (b : Bool). b || has ls l) (eq_self l)), all_apart ls cell z (λ o i. e o (or_true (eqb l o) (has ls o) i)))

-- the gate's own cell holds its value after its instructions
gate_gives : (g : AigView) (a : AllotmentView) (bits m : List Bool) (p : ℕ) → IsSettled g a → length bits ≡ g.inputs → Holds g a bits p m → p < length (gates g) → bit (iexec (gate_instrs g a.cells (get_or (gates g) p 0)) m) (get_or a.cells (get_or (gates g) p 0) 0) ≡ aval g bits (lit (turned (get_or (gates g) p 0)))
gate_gives g a bits m p s len holds h =
    let l = get_or (gates g) p 0 in
    let e = turned l in
    let z = get_or a.cells l 0 in
    let ops = operands g e in
    let wide = holds.wide in
    let fits : z < length m = let b = s.allotted.within l (has_at_place (gates g) p h) in omega arith in
    let apart = all_apart ops (cell_of g a.cells) z (λ o i. (source_of g a p o s h i).apart) in
    let same : list_all (bit m) (map (cell_of g a.cells) ops) ≡ list_all (λ o. aval g bits (lit o)) ops = all_equal ops (cell_of g a.cells) (bit m) (λ o. aval g bits (lit o)) (λ o i. source_holds g a bits m p o s len holds h i) in
    nand_gives z (map (cell_of g a.cells) ops) m fits apart
    ∙ ap not same
    ∙ sym (gate_value g bits e s.values len (turned_below l (nodes g) (s.there p 0 h)) (reached_takes g l (s.reached p 0 h)) (kind_of g e))

or_more : (x y r : Bool) → (y || r) ≡ true → ((x || y) || r) ≡ true
or_more true y r h = refl
or_more false y r h = h

-- one gate more
step_holds : (g : AigView) (a : AllotmentView) (bits m : List Bool) (p : ℕ) → IsSettled g a → length bits ≡ g.inputs → Holds g a bits p m → p < length (gates g) → Holds g a bits (p + 1) (iexec (gate_instrs g a.cells (get_or (gates g) p 0)) m)
step_holds g a bits m p s len holds h =
    let v = imply_graph g in
    let xs = gates g in
    let l = get_or xs p 0 in
    let z = get_or a.cells l 0 in
    let is = gate_instrs g a.cells l in
    let off = λ (c : ℕ) (ne : c ≢ z). nand_off z c (map (cell_of g a.cells) (operands g (turned l))) m ne in
    let from = s.allotted.from l (has_at_place xs p h) in
    let size = iexec_length is m in
    let wide = holds.wide in
    record {
      wide = omega arith;
      inputs = λ k b. off k (λ e. absurd (omega arith)) ∙ holds.inputs k b;
      held = λ y i n. elim (has_split (take p xs) l y (ap (λ (ys : List ℕ). has ys y) (sym (take_more xs p 0 h)) ∙ i)) [
        | inl before ↦
            let need : needed v (drop p xs) y ≡ true = ap (λ (ys : List ℕ). needed v ys y) (drop_more xs p 0 h) ∙ or_more (has (kids_of v l) y) (read_by v (drop (p + 1) xs) y) (has v.roots y) n in
            let apart = s.allotted.apart p y h before need (none_some p y) in
            off (get_or a.cells y 0) apart ∙ holds.held y before need
        | inr same ↦
            let M : ℕ → Type 0 = λ k. bit (iexec is m) (get_or a.cells k 0) ≡ aval g bits (lit (turned k)) in
            subst M same (gate_gives g a bits m p s len holds h)
      ];
    }

walk_holds : (g : AigView) (a : AllotmentView) (bits m : List Bool) (p : ℕ) → IsSettled g a → length bits ≡ g.inputs → p ≤ length (gates g) → Holds g a bits 0 m → Holds g a bits p (iexec (flat_map (gate_instrs g a.cells) (take p (gates g))) m)
walk_holds g a bits m zero s len h start = start
walk_holds g a bits m (suc p) s len h start =
    let xs = gates g in
    let f = gate_instrs g a.cells in
    let l = get_or xs p 0 in
    let here : p < length xs = omega arith in
    let before = iexec (flat_map f (take p xs)) m in
    let next = step_holds g a bits before p s len (walk_holds g a bits m p s len (omega arith) start) here in
    let M : List Bool → Type 0 = λ r. Holds g a bits (p + 1) r in
    let N : ℕ → Type 0 = λ n. Holds g a bits n (iexec (flat_map f (take n xs)) m) in
    let e : p + 1 ≡ suc p = omega arith in
    let cut : flat_map f (take (p + 1) xs) ≡ flat_map f (take p xs) ++ f l = ap (flat_map f) (take_more xs p 0 here) ∙ sym (flat_map_more f [] (take p xs) l) in
    subst N e (subst M (sym (ap (λ (is : List ImplyInstr). iexec is m) cut ∙ iexec_append (flat_map f (take p xs)) (f l) m)) next)

-- after all gates
pub all_hold : (g : AigView) (a : AllotmentView) (bits m : List Bool) → IsSettled g a → length bits ≡ g.inputs → a.width ≤ length m → take g.inputs m ≡ bits → Holds g a bits (length (gates g)) (iexec (schedule g a.cells) m)
all_hold g a bits m s len wide is =
    let xs = gates g in
    let start : Holds g a bits 0 m = record {
      wide = wide;
      inputs = λ k h. sym (get_or-take g.inputs m k false h) ∙ ap (λ (ys : List Bool). get_or ys k false) is;
      held = λ y i n. absurd (false≢true i);
    } in
    let M : List ℕ → Type 0 = λ ys. Holds g a bits (length xs) (iexec (flat_map (gate_instrs g a.cells) ys) m) in
    subst M (take-length xs) (walk_holds g a bits m (length xs) s len (omega arith) start)
