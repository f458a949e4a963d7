-- The row after the gates of an order, each of which writes its own cell alone and gives its value where what it reads is held.
use Rattle.std.proofs.Common.{◌≡◌, ◌≢◌, ℕ, zero, suc, ◌+◌, ◌<◌, ◌≤◌, Bool, true, false, ◌||◌, List, [], ◌++◌, length, get_or, take, drop, flat_map, Option, sym, ◌∙◌, ap, subst, arith, inl, inr}
use Rattle.std.proofs.lemmas.Bool.{false≢true}
use Rattle.std.proofs.lemmas.List.{drop_more, take_more, flat_map_more, get_or-take}
use Rattle.std.proofs.Math.Seq.{take-length}
use Rattle.pim_graph.specs.Allotments.{AllotmentView, IsAllotment, IsOver}
use Rattle.pim_graph.specs.Graphs.{GraphView, has, kids_of}
use Rattle.pim_graph.specs.Peaks.{IsPlaced, needed, read_by}
use Rattle.pim_isa.specs.Laws.{ExecLaws}
use Rattle.pim_isa.specs.Steps.{bit, exec}
use Rattle.pim_isa.specs.declared.instr.Instr.{Instr}
use Rattle.pim_rm3.proofs.Lists.{all_has, or_more, split, has_whole}

-- gates in an order with their cells
pub record Placing : Type 0 where
  pub graph : GraphView
  pub order : List ℕ
  pub over : List (Option ℕ)
  pub first : ℕ
  pub cells : AllotmentView

abbrev pub gate_at : Placing → ℕ → ℕ
gate_at t p = get_or t.order p 0

abbrev pub cell_at : Placing → ℕ → ℕ
cell_at t y = get_or t.cells.cells y 0

-- the order, the cells that are taken over and the cells are sound
pub record IsSound (t : Placing) : Type 0 where
  pub placed : IsPlaced t.graph t.order
  pub over : IsOver t.graph t.order t.over
  pub allotted : IsAllotment t.graph t.order t.over t.first t.cells

-- the row holds the inputs, and what the gate at the place reads
pub record Reads (t : Placing) (val : ℕ → Bool) (bits : List Bool) (p : ℕ) (m : List Bool) : Type 0 where
  pub wide : t.cells.width ≤ length m
  pub inputs : (k : ℕ) → k < t.first → bit m k ≡ get_or bits k false
  pub kids : (y : ℕ) → has (kids_of t.graph (gate_at t p)) y ≡ true → bit m (cell_at t y) ≡ val y

-- each gate changes its own cell alone, and leaves its value there where it reads what it is to read
pub record Computes (t : Placing) (f : ℕ → List Instr) (val : ℕ → Bool) (bits : List Bool) : Type 0 where
  pub off : (p c : ℕ) (m : List Bool) → p < length t.order → c ≢ cell_at t (gate_at t p) → bit (exec (f (gate_at t p)) m) c ≡ bit m c
  pub gives : (p : ℕ) (m : List Bool) → p < length t.order → Reads t val bits p m → bit (exec (f (gate_at t p)) m) (cell_at t (gate_at t p)) ≡ val (gate_at t p)

-- the row holds the inputs, and each gate before the place that is needed there
pub record HoldsAt (t : Placing) (val : ℕ → Bool) (bits : List Bool) (p : ℕ) (m : List Bool) : Type 0 where
  pub wide : t.cells.width ≤ length m
  pub inputs : (k : ℕ) → k < t.first → bit m k ≡ get_or bits k false
  pub held : (y : ℕ) → has (take p t.order) y ≡ true → needed t.graph (drop p t.order) y ≡ true → bit m (cell_at t y) ≡ val y

-- what a gate reads is needed at its place
pub read_needed : (v : GraphView) (xs : List ℕ) (p k : ℕ) → p < length xs → has (kids_of v (get_or xs p 0)) k ≡ true → needed v (drop p xs) k ≡ true
read_needed v xs p k h child =
    let rest = drop (p + 1) xs in
    ap (λ (ys : List ℕ). needed v ys k) (drop_more xs p 0 h)
    ∙ ap (λ (b : Bool). (b || read_by v rest k) || has v.roots k) child

-- what a gate reads stands before it
pub read_before : (v : GraphView) (xs : List ℕ) (p k : ℕ) → IsPlaced v xs → p < length xs → has (kids_of v (get_or xs p 0)) k ≡ true → has (take p xs) k ≡ true
read_before v xs p k placed h child = all_has (λ y. has (take p xs) y ≡ true) (kids_of v (get_or xs p 0)) k (placed.after p h) child

reads_held : (t : Placing) (val : ℕ → Bool) (bits m : List Bool) (p : ℕ) → IsSound t → HoldsAt t val bits p m → p < length t.order → Reads t val bits p m
reads_held t val bits m p s holds h = record {
  wide = holds.wide;
  inputs = holds.inputs;
  kids = λ y child. holds.held y (read_before t.graph t.order p y s.placed h child) (read_needed t.graph t.order p y h child);
}

-- one gate more
step_held : (t : Placing) (f : ℕ → List Instr) (val : ℕ → Bool) (bits m : List Bool) (p : ℕ) → ExecLaws → IsSound t → Computes t f val bits → HoldsAt t val bits p m → p < length t.order → HoldsAt t val bits (p + 1) (exec (f (gate_at t p)) m)
step_held t f val bits m p laws s does holds h =
    let v = t.graph in
    let xs = t.order in
    let l = gate_at t p in
    let is = f l in
    let from = s.allotted.from l (has_whole xs p h) in
    let size = laws.keeps_length is m in
    record {
      wide = omega (arith, holds.wide);
      inputs = λ k b. does.off p k m h (λ e. absurd (omega arith)) ∙ holds.inputs k b;
      held = λ y i n. elim (split (take p xs) l y (ap (λ (ys : List ℕ). has ys y) (sym (take_more xs p 0 h)) ∙ i)) [
        | inl before ↦
            let need : needed v (drop p xs) y ≡ true = ap (λ (ys : List ℕ). needed v ys y) (drop_more xs p 0 h) ∙ or_more (has (kids_of v l) y) (read_by v (drop (p + 1) xs) y) (has v.roots y) n in
            let apart = s.allotted.apart p y h before need (λ o. false≢true (sym (s.over.last p y h o) ∙ n)) in
            does.off p (cell_at t y) m h apart ∙ holds.held y before need
        | inr same ↦
            let M : ℕ → Type 0 = λ k. bit (exec is m) (cell_at t k) ≡ val k in
            subst M same (does.gives p m h (reads_held t val bits m p s holds h))
      ];
    }

walk_held : (t : Placing) (f : ℕ → List Instr) (val : ℕ → Bool) (bits m : List Bool) (p : ℕ) → ExecLaws → IsSound t → Computes t f val bits → p ≤ length t.order → HoldsAt t val bits 0 m → HoldsAt t val bits p (exec (flat_map f (take p t.order)) m)
walk_held t f val bits m zero laws s does h start = start
walk_held t f val bits m (suc p) laws s does h start =
    let xs = t.order in
    let l = gate_at t p in
    let here : p < length xs = omega arith in
    let before = exec (flat_map f (take p xs)) m in
    let next = step_held t f val bits before p laws s does (walk_held t f val bits m p laws s does (omega arith) start) here in
    let M : List Bool → Type 0 = λ r. HoldsAt t val bits (p + 1) r in
    let N : ℕ → Type 0 = λ n. HoldsAt t val bits n (exec (flat_map f (take n xs)) m) in
    let e : p + 1 ≡ suc p = omega arith in
    let cut : flat_map f (take (p + 1) xs) ≡ flat_map f (take p xs) ++ f l = ap (flat_map f) (take_more xs p 0 here) ∙ sym (flat_map_more f [] (take p xs) l) in
    subst N e (subst M (sym (ap (λ (is : List Instr). exec is m) cut ∙ laws.append (flat_map f (take p xs)) (f l) m)) next)

-- after all gates, from a row that begins with the inputs' bits
pub all_held : (t : Placing) (f : ℕ → List Instr) (val : ℕ → Bool) (bits m : List Bool) → ExecLaws → IsSound t → Computes t f val bits → t.cells.width ≤ length m → take t.first m ≡ bits → HoldsAt t val bits (length t.order) (exec (flat_map f t.order) m)
all_held t f val bits m laws s does wide is =
    let M : List ℕ → Type 0 = λ ys. HoldsAt t val bits (length t.order) (exec (flat_map f ys) m) in
    let start : HoldsAt t val bits 0 m = record {
      wide = wide;
      inputs = λ k h. sym (get_or-take t.first m k false h) ∙ ap (λ (xs : List Bool). get_or xs k false) is;
      held = λ y i n. absurd (false≢true i);
    } in
    subst M (take-length t.order) (walk_held t f val bits m (length t.order) laws s does (omega arith) start)
