-- A primed program that follows an order of a network's gates computes the network's values from every earlier content.
use Rattle.std.proofs.Common.{◌≡◌, ◌≢◌, ℕ, zero, suc, ◌+◌, ◌<◌, ◌≤◌, Bool, true, false, cond, eqb, not, ◌&&◌, ◌||◌, List, [], ◌∷◌, ◌++◌, length, get_or, map, take, Option, Some, None, All, slice_get, refl, sym, ◌∙◌, ap, subst, arith, inl, inr}
use Rattle.std.specs.List.{list_any}
use Rattle.std.specs.Option.{IsSomeAnd}
use Rattle.std.proofs.lemmas.Bool.{cases_Bool, cases_lt, false≢true, cond-true, cond-false, or_cases, eqb-true, ne_eqb, MatchBool-at_true, MatchBool-at_false}
use Rattle.std.proofs.lemmas.List.{get_or_past, get_or-take, length-take, take_all, take_more}
use Rattle.std.proofs.lemmas.List.Elements.{All-head, All-tail, All-take, filter_passes}
use Rattle.std.proofs.lemmas.Option.{none-some, same_Some, slice_get-get_or, slice_get_within, get_or_from_slice_get}
use Rattle.pim_isa.specs.declared.instr.Ins.{Ins}
use Rattle.pim_isa.specs.declared.instr.Instr.{Instr}
use Rattle.pim_isa.specs.declared.instr.Instr.TheVariants.{Init, Nor, Rm3}
use Rattle.pim_isa.specs.declared.port.Port.{Port}
use Rattle.pim_isa.specs.Laws.{ExecLaws, WriteLaws}
use Rattle.pim_isa.specs.PortLists.{input_ports}
use Rattle.pim_isa.specs.Primed.{IsPrimed, is_init, last_write_is_init}
use Rattle.pim_isa.specs.Programs.{ProgramView}
use Rattle.pim_isa.specs.Realizes.{Realizes}
use Rattle.pim_isa.specs.Sound.{IsSound, IsValid, cells_of}
use Rattle.pim_isa.specs.Steps.{bit, step, exec, exec_k}
use Rattle.pim_isa.specs.Touches.{operands, writes, reads}
use Rattle.pim_isa.specs.Validity.{has}
use Rattle.pim_isa.specs.Writes.{last_write, nor_places}
use Rattle.pim_nor.specs.Laws.{HasGateValues}
use Rattle.pim_nor.specs.Network.{NorView, IsNetwork, IsOfFirst, AreOfFirst, pins, is_nor}
use Rattle.pim_nor.specs.Values.{pin_value, none_true, gate_value, gate_values, out_values}
use Rattle.pim_nor.specs.declared.network.Gate.{Gate}
use Rattle.pim_nor.specs.declared.network.Gate.TheVariants.{One, Not, Nor as Nor2, Nor3, Nor4}
use Rattle.pim_nor.specs.declared.network.Pin.{Pin}
use Rattle.pim_nor.specs.declared.network.Pin.TheVariants.{Input, Gate as Place}
use Rattle.pim_simpler.specs.Following.{gate_at, nors_of, place_of, Stands, AllStand, Follows}
use Rattle.pim_simpler.proofs.Places.{nor_places-nor, place_of-listed}

-- cells

some_and : {T : Type 0} (o : Option T) (P : T → Type 0) → IsSomeAnd o P → (x : T) × (o ≡ Some x) × P x
some_and None P h = absurd h
some_and (Some x) P h = (x, refl, h)

has-alone : (c t : ℕ) → has c (t ∷ []) ≡ true → t ≡ c
has-alone c t h = elim (or_cases (eqb t c) false h) [ inl e ↦ eqb-true t c e | inr none ↦ absurd (false≢true none) ]

-- cells below a bound are none that isn't
has-above : (cells c : ℕ) (cs ds : List ℕ) → cells ≤ c → All (λ d. d < cells) (cs ++ ds) → has c cs ≡ false
has-above cells c [] ds past h = refl
has-above cells c (d ∷ cs) ds past h =
    let below : d < cells = All-head (λ x. x < cells) d (cs ++ ds) h in
    let apart : d ≢ c = omega arith in
    ap (λ (b : Bool). b || has c cs) (ne_eqb d c apart) ∙ has-above cells c cs ds past (All-tail (λ x. x < cells) d (cs ++ ds) h)

not-or : (a b : Bool) → not (a || b) ≡ (not a && not b)
not-or true b = refl
not-or false b = refl

-- gates

not_nor : (x : Gate) → is_nor x ≡ false → x ≡ One
not_nor One h = refl
not_nor (Not a) h = absurd (false≢true (sym h))
not_nor (Nor2 a b) h = absurd (false≢true (sym h))
not_nor (Nor3 a b c) h = absurd (false≢true (sym h))
not_nor (Nor4 a b c d) h = absurd (false≢true (sym h))

AreOfFirst-le : (inputs m n : ℕ) (ps : List Pin) → m ≤ n → AreOfFirst inputs m ps → AreOfFirst inputs n ps
AreOfFirst-le inputs m n [] l h = tt
AreOfFirst-le inputs m n (Input j ∷ ps) l h = (h.0, AreOfFirst-le inputs m n ps l h.1)
AreOfFirst-le inputs m n (Place i ∷ ps) l h = let b : i < m = h.0 in (omega arith, AreOfFirst-le inputs m n ps l h.1)

AreOfFirst-from : (inputs n : ℕ) (ps : List Pin) → ((k : ℕ) (d : Pin) → k < length ps → IsOfFirst inputs n (get_or ps k d)) → AreOfFirst inputs n ps
AreOfFirst-from inputs n [] h = tt
AreOfFirst-from inputs n (p ∷ ps) h = (h 0 p (omega arith), AreOfFirst-from inputs n ps (λ k d l. h (suc k) d (omega arith)))

-- each gate of an order that takes an instruction is one of the network's
nors_of-nor : (n : NorView) (order : List ℕ) (j : ℕ) → j < length (nors_of n order) → is_nor (gate_at n (get_or (nors_of n order) j 0)) ≡ true
nors_of-nor n order j l = filter_passes (λ g. is_nor (gate_at n g)) order j 0 l

nor_there : (n : NorView) (g : ℕ) → is_nor (gate_at n g) ≡ true → g < length n.gates
nor_there n g h =
    elim (cases_lt g (length n.gates)) [
      | inl l ↦ l
      | inr past ↦ absurd (false≢true (sym (ap is_nor (get_or_past n.gates g One past)) ∙ h))
    ]

-- as the instruction at place q comes, each cell that was last written by an Init holds one, and each that was last
-- written by the NOR of a gate holds the gate's value
record Holds (n : NorView) (order : List ℕ) (p : ProgramView) (m bits : List Bool) (q : ℕ) : Type 0 where
  pub inits : (c : ℕ) → c < p.cells → last_write_is_init false (take q p.instrs) c ≡ true → bit (exec_k q p.instrs m) c ≡ true
  pub nors : (c j k : ℕ) → slice_get (nor_places p.instrs) j ≡ Some k → last_write (take q p.instrs) c ≡ Some k → bit (exec_k q p.instrs m) c ≡ get_or (gate_values n bits) (get_or (nors_of n order) j 0) false

-- a row of the program's cells that begins with the inputs' bits
record IsGiven (n : NorView) (p : ProgramView) (m bits : List Bool) : Type 0 where
  pub wide : p.cells ≤ length m
  pub inputs : (k : ℕ) → k < n.inputs → bit m k ≡ get_or bits k false

-- no instruction writes an input
abbrev Spares : NorView → ProgramView → Type 0
Spares n p = (k c : ℕ) (i : Instr) → slice_get p.instrs k ≡ Some i → c < n.inputs → has c (writes i) ≡ false

module _ (exec_laws : ExecLaws) (write_laws : WriteLaws) (n : NorView) (order : List ℕ) (p : ProgramView) (net : IsNetwork n) (has_values : HasGateValues n) (sound : IsSound p) (primed : IsPrimed p.instrs) (follows : Follows p n order) (spares : Spares n p) (m bits : List Bool) (given : IsGiven n p m bits) where
  -- the instruction at a place is valid
  valid_at : (q : ℕ) (i : Instr) → slice_get p.instrs q ≡ Some i → IsValid p.target p.cells i
  valid_at q i at =
      subst (IsValid p.target p.cells) (get_or_from_slice_get p.instrs q i i at) (sound.instrs q i (slice_get_within p.instrs q i at))

  -- inputs keep their bits
  input-stays : (q k : ℕ) → k < n.inputs → bit (exec_k q p.instrs m) k ≡ get_or bits k false
  input-stays q k l =
      let none : All (λ i. has k (writes i) ≡ false) p.instrs = λ j d h. spares j k (get_or p.instrs j d) (slice_get-get_or p.instrs j d h) l in
      exec_laws.keeps_others (take q p.instrs) m k (All-take (λ i. has k (writes i) ≡ false) q p.instrs none) ∙ given.inputs k l

  -- the constant one is true
  one-value : (g : ℕ) → g < length n.gates → is_nor (gate_at n g) ≡ false → get_or (gate_values n bits) g false ≡ true
  one-value g l h = has_values bits g One l ∙ ap (gate_value (pin_value bits (gate_values n bits))) (not_nor (gate_at n g) h)

  -- a cell in which a pin's value stands holds it
  pin-held : (q : ℕ) → Holds n order p m bits q → (c : ℕ) (pin : Pin) → c < p.cells → IsOfFirst n.inputs (length n.gates) pin → Stands n (nors_of n order) p.instrs q c pin → bit (exec_k q p.instrs m) c ≡ pin_value bits (gate_values n bits) pin
  pin-held q holds c (Input k) below there stands = ap (bit (exec_k q p.instrs m)) stands ∙ input-stays q k there
  pin-held q holds c (Place g) below there stands =
      elim (cases_Bool (is_nor (gate_at n g))) [
        | inl nor ↦
            let w = some_and (place_of (nors_of n order) (nor_places p.instrs) g) (λ k. last_write (take q p.instrs) c ≡ Some k) (MatchBool-at_true _ _ nor stands) in
            let l = place_of-listed (nors_of n order) (nor_places p.instrs) g w.0 w.1 in
            holds.nors c l.index w.0 l.place w.2 ∙ ap (λ (x : ℕ). get_or (gate_values n bits) x false) l.gate
        | inr one ↦ holds.inits c below (MatchBool-at_false _ _ one stands) ∙ sym (one-value g there one)
      ]

  -- cells in which pins' values stand
  none-held : (q : ℕ) → Holds n order p m bits q → (cs : List ℕ) (ps : List Pin) → All (λ c. c < p.cells) cs → AreOfFirst n.inputs (length n.gates) ps → AllStand n (nors_of n order) p.instrs q cs ps → not (list_any (bit (exec_k q p.instrs m)) cs) ≡ none_true (pin_value bits (gate_values n bits)) ps
  none-held q holds [] [] below there stand = refl
  none-held q holds [] (x ∷ ps) below there stand = absurd stand
  none-held q holds (c ∷ cs) [] below there stand = absurd stand
  none-held q holds (c ∷ cs) (x ∷ ps) below there stand =
      let row = exec_k q p.instrs m in
      let value = pin_value bits (gate_values n bits) in
      let here : bit row c ≡ value x = pin-held q holds c x (All-head (λ d. d < p.cells) c cs below) there.0 stand.0 in
      let rest : not (list_any (bit row) cs) ≡ none_true value ps = none-held q holds cs ps (All-tail (λ d. d < p.cells) c cs below) there.1 stand.1 in
      not-or (bit row c) (list_any (bit row) cs) ∙ (ap (λ (b : Bool). not b && not (list_any (bit row) cs)) here ∙ ap (λ (b : Bool). not (value x) && b) rest)

  all-held : (q : ℕ) → Holds n order p m bits q → (cs : List ℕ) (ps : List Pin) → All (λ c. c < p.cells) cs → AreOfFirst n.inputs (length n.gates) ps → AllStand n (nors_of n order) p.instrs q cs ps → map (bit (exec_k q p.instrs m)) cs ≡ map (pin_value bits (gate_values n bits)) ps
  all-held q holds [] [] below there stand = refl
  all-held q holds [] (x ∷ ps) below there stand = absurd stand
  all-held q holds (c ∷ cs) [] below there stand = absurd stand
  all-held q holds (c ∷ cs) (x ∷ ps) below there stand =
      let row = exec_k q p.instrs m in
      let value = pin_value bits (gate_values n bits) in
      let here : bit row c ≡ value x = pin-held q holds c x (All-head (λ d. d < p.cells) c cs below) there.0 stand.0 in
      ap (λ (b : Bool). b ∷ map (bit row) cs) here ∙ ap (λ (bs : List Bool). value x ∷ bs) (all-held q holds cs ps (All-tail (λ d. d < p.cells) c cs below) there.1 stand.1)

  row-wide : (q c : ℕ) → c < p.cells → c < length (exec_k q p.instrs m)
  row-wide q c l = omega (arith, exec_laws.keeps_length (take q p.instrs) m, given.wide)

  -- what a NOR writes is the value of its gate
  nor-written : (q t j : ℕ) (ins : Ins) → Holds n order p m bits q → slice_get p.instrs q ≡ Some (Nor t ins) → slice_get (nor_places p.instrs) j ≡ Some q → bit (step (exec_k q p.instrs m) (Nor t ins)) t ≡ get_or (gate_values n bits) (get_or (nors_of n order) j 0) false
  nor-written q t j ins holds at place =
      let row = exec_k q p.instrs m in
      let g = get_or (nors_of n order) j 0 in
      let gate = gate_at n g in
      let listed : j < length (nors_of n order) = omega (arith, slice_get_within (nor_places p.instrs) j q place, follows.count) in
      let there : g < length n.gates = nor_there n g (nors_of-nor n order j listed) in
      let named : All (λ c. c < p.cells) (t ∷ operands ins) = (valid_at q (Nor t ins) at).within in
      let target : t < p.cells = All-head (λ c. c < p.cells) t (operands ins) named in
      let one : bit row t ≡ true = holds.inits t target (primed q t ins at) in
      let first : AreOfFirst n.inputs (length n.gates) (pins gate) = AreOfFirst-le n.inputs g (length n.gates) (pins gate) (omega arith) (net.gates_after g One there) in
      let none = none-held q holds (operands ins) (pins gate) (All-tail (λ c. c < p.cells) t (operands ins) named) first (follows.reads j q t ins place at) in
      exec_laws.nor_gives row t ins (row-wide q t target) ∙ (ap (λ (b : Bool). b && not (list_any (bit row) (operands ins))) one ∙ (none ∙ sym (has_values bits g One there)))

  -- a cell that an instruction does not write stays
  unwritten : (q c : ℕ) (i : Instr) → has c (writes i) ≡ false → bit (step (exec_k q p.instrs m) i) c ≡ bit (exec_k q p.instrs m) c
  unwritten q c i h =
      exec_laws.keeps_others (i ∷ []) (exec_k q p.instrs m) c (alone i h)
    where
      alone : (i : Instr) → has c (writes i) ≡ false → All (λ x. has c (writes x) ≡ false) (i ∷ [])
      alone i h zero d l = h
      alone i h (suc k) d l = absurd (omega arith)

  init-more : (q : ℕ) (i : Instr) → Holds n order p m bits q → (c : ℕ) → c < p.cells → has c (writes i) ≡ true → is_init i ≡ true → bit (step (exec_k q p.instrs m) i) c ≡ true
  init-more q (Init cells) holds c below h is = exec_laws.init_sets cells (exec_k q p.instrs m) c h (row-wide q c below)
  init-more q (Nor t ins) holds c below h is = absurd (false≢true is)
  init-more q (Rm3 x y z) holds c below h is = absurd (false≢true is)

  nor-more : (q : ℕ) (i : Instr) → Holds n order p m bits q → slice_get p.instrs q ≡ Some i → (c j : ℕ) → has c (writes i) ≡ true → slice_get (nor_places p.instrs) j ≡ Some q → bit (step (exec_k q p.instrs m) i) c ≡ get_or (gate_values n bits) (get_or (nors_of n order) j 0) false
  nor-more q i holds at c j h place =
      let nor = nor_places-nor p.instrs j q place in
      let is : i ≡ Nor nor.target nor.ins = same_Some i (Nor nor.target nor.ins) (sym at ∙ nor.at) in
      let W : Instr → Type 0 = λ x. has c (writes x) ≡ true in
      let R : Instr → Type 0 = λ x. bit (step (exec_k q p.instrs m) x) c ≡ get_or (gate_values n bits) (get_or (nors_of n order) j 0) false in
      let C : ℕ → Type 0 = λ d. bit (step (exec_k q p.instrs m) (Nor nor.target nor.ins)) d ≡ get_or (gate_values n bits) (get_or (nors_of n order) j 0) false in
      let target : nor.target ≡ c = has-alone c nor.target (subst W is h) in
      subst R (sym is) (subst C target (nor-written q nor.target j nor.ins holds nor.at place))

  -- one instruction more
  holds-more : (q : ℕ) → q < length p.instrs → Holds n order p m bits q → Holds n order p m bits (q + 1)
  holds-more q l holds =
      let is = p.instrs in
      let i = get_or is q (Init []) in
      let at : slice_get is q ≡ Some i = slice_get-get_or is q (Init []) l in
      let cut : take (q + 1) is ≡ take q is ++ i ∷ [] = take_more is q (Init []) l in
      let len : length (take q is) ≡ q = omega (arith, length-take q is) in
      let row : exec_k (q + 1) is m ≡ step (exec_k q is m) i = ap (λ (xs : List Instr). exec xs m) cut ∙ exec_laws.append (take q is) (i ∷ []) m in
      let last : (c : ℕ) → last_write (take (q + 1) is) c ≡ cond (has c (writes i)) (Some q) (last_write (take q is) c) = λ c. ap (λ (xs : List Instr). last_write xs c) cut ∙ (write_laws.last_write_push (take q is) i c ∙ ap (λ (k : ℕ). cond (has c (writes i)) (Some k) (last_write (take q is) c)) len) in
      let init : (c : ℕ) → last_write_is_init false (take (q + 1) is) c ≡ cond (has c (writes i)) (is_init i) (last_write_is_init false (take q is) c) = λ c. ap (λ (xs : List Instr). last_write_is_init false xs c) cut ∙ write_laws.init_append false (take q is) (i ∷ []) c in
      record {
        inits = λ c below h. ap (λ (r : List Bool). bit r c) row ∙ elim (cases_Bool (has c (writes i))) [
          | inl written ↦ init-more q i holds c below written (sym (cond-true (has c (writes i)) (is_init i) (last_write_is_init false (take q is) c) written) ∙ (sym (init c) ∙ h))
          | inr other ↦ unwritten q c i other ∙ holds.inits c below (sym (cond-false (has c (writes i)) (is_init i) (last_write_is_init false (take q is) c) other) ∙ (sym (init c) ∙ h))
        ];
        nors = λ c j k place h. ap (λ (r : List Bool). bit r c) row ∙ elim (cases_Bool (has c (writes i))) [
          | inl written ↦
              let same : q ≡ k = same_Some q k (sym (cond-true (has c (writes i)) (Some q) (last_write (take q is) c) written) ∙ (sym (last c) ∙ h)) in
              let P : ℕ → Type 0 = λ x. slice_get (nor_places is) j ≡ Some x in
              nor-more q i holds at c j written (subst P (sym same) place)
          | inr other ↦ unwritten q c i other ∙ holds.nors c j k place (sym (cond-false (has c (writes i)) (Some q) (last_write (take q is) c) other) ∙ (sym (last c) ∙ h))
        ];
      }

  holds-at : (q : ℕ) → q ≤ length p.instrs → Holds n order p m bits q
  holds-at zero l = record {
    inits = λ c below h. absurd (false≢true h);
    nors = λ c j k place h. absurd (none-some k h);
  }
  holds-at (suc q) l =
      let e : q + 1 ≡ suc q = omega arith in
      subst (Holds n order p m bits) e (holds-more q (omega arith) (holds-at q (omega arith)))

  -- the output cells end with the values of the outputs
  outputs-held : map (bit (exec p.instrs m)) (cells_of p.outputs) ≡ out_values n bits
  outputs-held =
      let q = length p.instrs in
      let whole : take q p.instrs ≡ p.instrs = take_all q p.instrs (omega arith) in
      let held = all-held q (holds-at q (omega arith)) (cells_of p.outputs) n.outs sound.outputs (AreOfFirst-from n.inputs (length n.gates) n.outs net.outs_there) follows.outs in
      ap (λ (is : List Instr). map (bit (exec is m)) (cells_of p.outputs)) (sym whole) ∙ held

outputs-map : (row : List Bool) (ports : List Port) → map (λ o. bit row o.cell) ports ≡ map (bit row) (cells_of ports)
outputs-map row [] = refl
outputs-map row (o ∷ ports) = ap (λ (bs : List Bool). bit row o.cell ∷ bs) (outputs-map row ports)

-- the inputs' bits stand in the first cells
given-front : (m bits : List Bool) (inputs k : ℕ) → take inputs m ≡ bits → k < inputs → bit m k ≡ get_or bits k false
given-front m bits inputs k front l = sym (get_or-take inputs m k false l) ∙ ap (λ (bs : List Bool). get_or bs k false) front

pub realized : ExecLaws → WriteLaws → (n : NorView) (p : ProgramView) (labels : List (List ℕ)) (order : List ℕ) → IsNetwork n → HasGateValues n → IsSound p → p.inputs ≡ input_ports 0 labels → length labels ≡ n.inputs → IsPrimed p.instrs → Follows p n order → ((k c : ℕ) (i : Instr) → slice_get p.instrs k ≡ Some i → c < n.inputs → has c (writes i) ≡ false) → Realizes p labels (out_values n)
realized exec_laws write_laws n p labels order net has_values sound inputs size primed follows spares = record {
  inputs = inputs;
  keeps_inputs = λ k c i at l. spares k c i at (omega arith);
  gives_outputs = λ m bits len wide front.
      let given : IsGiven n p m bits = record {
        wide = wide;
        inputs = λ k l. given-front m bits (length labels) k front (omega arith);
      } in
      outputs-map (exec p.instrs m) p.outputs ∙ outputs-held exec_laws write_laws n order p net has_values sound primed follows spares m bits given;
  keeps_length = exec_laws.keeps_length p.instrs;
  keeps_others = λ m c past. exec_laws.keeps_others p.instrs m c (λ k d l. let v = sound.instrs k d l in has-above p.cells c (writes (get_or p.instrs k d)) (reads (get_or p.instrs k d)) past v.within);
}
