-- A draft has no fault exactly where it is sound.
use Rattle.std.proofs.Common.{◌≡◌, ◌≢◌, ℕ, zero, suc, ◌+◌, ◌<◌, Bool, true, false, not, ◌||◌, cond, eqb, leb, List, [], ◌∷◌, length, Option, Some, None, refl, ap, arith}
use Rattle.std.specs.Prelude.{All, AllPairs}
use Rattle.std.specs.Option.{option_or, option_map}
use Rattle.std.proofs.lemmas.Bool.{leb-false, lt-leb, eqb-false, ne_eqb}
use Rattle.std.proofs.lemmas.List.Elements.{All-nil, All-cons, All-head, All-tail}
use Rattle.pim_isa.specs.declared.target.Target.{Target}
use Rattle.pim_isa.specs.declared.instr.Instr.{Instr}
use Rattle.pim_isa.specs.declared.port.Port.{Port}
use Rattle.pim_isa.specs.declared.invalid.Invalid.TheVariants as invalid
use Rattle.pim_isa.specs.Programs.{ProgramView}
use Rattle.pim_isa.specs.Touches.{names}
use Rattle.pim_isa.specs.Validity.{suits, has_good_list, leaves, has, reads_target, instr_fault, first_instr_fault, bad_input, bad_output, bad_port, fault_of}
use Rattle.pim_isa.specs.Sound.{cells_of, IsValid, IsSound}

pub or_falses : (a b : Bool) → (a || b) ≡ false → (a ≡ false) × (b ≡ false)
or_falses true b e = cc
or_falses false b e = (refl, e)

pub or_from_falses : (a b : Bool) → a ≡ false → b ≡ false → (a || b) ≡ false
or_from_falses true b e f = cc
or_from_falses false b e f = f

cond_none : {X : Type 0} (b : Bool) (x : X) (o : Option X) → cond b (Some x) o ≡ None → (b ≡ false) × (o ≡ None)
cond_none true x o e = cc
cond_none false x o e = (refl, e)

none_from_cond : {X : Type 0} (b : Bool) (x : X) (o : Option X) → b ≡ false → o ≡ None → cond b (Some x) o ≡ None
none_from_cond true x o e f = cc
none_from_cond false x o e f = f

option_or-none : {X : Type 0} (a b : Option X) → option_or a b ≡ None → (a ≡ None) × (b ≡ None)
option_or-none None b e = (refl, e)
option_or-none (Some x) b e = cc

none_from_option_or : {X : Type 0} (a b : Option X) → a ≡ None → b ≡ None → option_or a b ≡ None
none_from_option_or None b e f = f
none_from_option_or (Some x) b e f = cc

port-none : (o : Option ℕ) → option_map (λ (k : ℕ). invalid.Port k) o ≡ None → o ≡ None
port-none None e = refl
port-none (Some k) e = cc

not_not : (b : Bool) → not b ≡ false → b ≡ true
not_not true e = refl
not_not false e = cc

not_true : (b : Bool) → b ≡ true → not b ≡ false
not_true true e = refl
not_true false e = cc

leaves-none : (cells : ℕ) (cs : List ℕ) → leaves cells cs ≡ false → All (λ (c : ℕ). c < cells) cs
leaves-none cells [] e = All-nil (λ (c : ℕ). c < cells)
leaves-none cells (c ∷ cs) e =
    let both : (leb cells c ≡ false) × (leaves cells cs ≡ false) = or_falses (leb cells c) (leaves cells cs) e in
    All-cons (λ (d : ℕ). d < cells) c cs (leb-false cells c both.0) (leaves-none cells cs both.1)

none_from_within : (cells : ℕ) (cs : List ℕ) → All (λ (c : ℕ). c < cells) cs → leaves cells cs ≡ false
none_from_within cells [] all = refl
none_from_within cells (c ∷ cs) all =
    or_from_falses (leb cells c) (leaves cells cs) (lt-leb cells c (All-head (λ (d : ℕ). d < cells) c cs all))
    (none_from_within cells cs (All-tail (λ (d : ℕ). d < cells) c cs all))

-- ---- one instruction, and all of them
valid_from_none : (target : Target) (cells k : ℕ) (i : Instr) → instr_fault target cells k i ≡ None → IsValid target cells i
valid_from_none target cells k i e =
    let suited : (not (suits target i) ≡ false) × (cond (not (has_good_list i)) (Some (invalid.InitList k)) (cond (leaves cells (names i)) (Some (invalid.CellRange k)) (cond (reads_target i) (Some (invalid.TargetRead k)) None)) ≡ None) =
    cond_none (not (suits target i)) (invalid.WrongTarget k) _ e in
    let listed : (not (has_good_list i) ≡ false) × (cond (leaves cells (names i)) (Some (invalid.CellRange k)) (cond (reads_target i) (Some (invalid.TargetRead k)) None) ≡ None) =
    cond_none (not (has_good_list i)) (invalid.InitList k) _ suited.1 in
    let within : (leaves cells (names i) ≡ false) × (cond (reads_target i) (Some (invalid.TargetRead k)) None ≡ None) =
    cond_none (leaves cells (names i)) (invalid.CellRange k) _ listed.1 in
    record {
      suited = not_not (suits target i) suited.0;
      listed = not_not (has_good_list i) listed.0;
      within = leaves-none cells (names i) within.0;
      apart = (cond_none (reads_target i) (invalid.TargetRead k) None within.1).0;
    }

none_from_valid : (target : Target) (cells k : ℕ) (i : Instr) → IsValid target cells i → instr_fault target cells k i ≡ None
none_from_valid target cells k i valid =
    none_from_cond (not (suits target i)) (invalid.WrongTarget k) _ (not_true (suits target i) valid.suited)
    (none_from_cond (not (has_good_list i)) (invalid.InitList k) _ (not_true (has_good_list i) valid.listed)
    (none_from_cond (leaves cells (names i)) (invalid.CellRange k) _ (none_from_within cells (names i) valid.within)
    (none_from_cond (reads_target i) (invalid.TargetRead k) None valid.apart refl)))

all_valid_from_none : (target : Target) (cells k : ℕ) (is : List Instr) → first_instr_fault target cells k is ≡ None → All (IsValid target cells) is
all_valid_from_none target cells k [] e = All-nil (IsValid target cells)
all_valid_from_none target cells k (i ∷ is) e =
    let both : (instr_fault target cells k i ≡ None) × (first_instr_fault target cells (k + 1) is ≡ None) =
    option_or-none (instr_fault target cells k i) (first_instr_fault target cells (k + 1) is) e in
    All-cons (IsValid target cells) i is (valid_from_none target cells k i both.0) (all_valid_from_none target cells (k + 1) is both.1)

none_from_all_valid : (target : Target) (cells k : ℕ) (is : List Instr) → All (IsValid target cells) is → first_instr_fault target cells k is ≡ None
none_from_all_valid target cells k [] all = refl
none_from_all_valid target cells k (i ∷ is) all =
    none_from_option_or (instr_fault target cells k i) (first_instr_fault target cells (k + 1) is)
    (none_from_valid target cells k i (All-head (IsValid target cells) i is all))
    (none_from_all_valid target cells (k + 1) is (All-tail (IsValid target cells) i is all))

-- ---- the outputs
outputs_from_none : (cells k : ℕ) (ps : List Port) → bad_output cells k ps ≡ None → All (λ (c : ℕ). c < cells) (cells_of ps)
outputs_from_none cells k [] e = All-nil (λ (c : ℕ). c < cells)
outputs_from_none cells k (p ∷ ps) e =
    let both : (leb cells p.cell ≡ false) × (bad_output cells (k + 1) ps ≡ None) = cond_none (leb cells p.cell) k (bad_output cells (k + 1) ps) e in
    All-cons (λ (c : ℕ). c < cells) p.cell (cells_of ps) (leb-false cells p.cell both.0) (outputs_from_none cells (k + 1) ps both.1)

none_from_outputs : (cells k : ℕ) (ps : List Port) → All (λ (c : ℕ). c < cells) (cells_of ps) → bad_output cells k ps ≡ None
none_from_outputs cells k [] all = refl
none_from_outputs cells k (p ∷ ps) all =
    none_from_cond (leb cells p.cell) k (bad_output cells (k + 1) ps)
    (lt-leb cells p.cell (All-head (λ (c : ℕ). c < cells) p.cell (cells_of ps) all))
    (none_from_outputs cells (k + 1) ps (All-tail (λ (c : ℕ). c < cells) p.cell (cells_of ps) all))

-- ---- the inputs
AllPairs-cons : (x : ℕ) (xs : List ℕ) → All (λ (y : ℕ). x ≢ y) xs → AllPairs ◌≢◌ xs → AllPairs ◌≢◌ (x ∷ xs)
AllPairs-cons x xs first rest zero zero d before small = absurd (omega arith)
AllPairs-cons x xs first rest (suc i) zero d before small = absurd (omega arith)
AllPairs-cons x xs first rest zero (suc j) d before small = first j d (omega arith)
AllPairs-cons x xs first rest (suc i) (suc j) d before small = rest i j d (omega arith) (omega arith)

pub AllPairs-head : (x : ℕ) (xs : List ℕ) → AllPairs ◌≢◌ (x ∷ xs) → All (λ (y : ℕ). x ≢ y) xs
AllPairs-head x xs pairs k d small = pairs zero (suc k) d (omega arith) (omega arith)

pub AllPairs-tail : (x : ℕ) (xs : List ℕ) → AllPairs ◌≢◌ (x ∷ xs) → AllPairs ◌≢◌ xs
AllPairs-tail x xs pairs i j d before small = pairs (suc i) (suc j) d (omega arith) (omega arith)

-- the inputs lie in the cells, apart from one another and from the earlier ones
record IsFresh (cells : ℕ) (earlier cs : List ℕ) : Type 0 where
  within : All (λ (c : ℕ). c < cells) cs
  new : All (λ (c : ℕ). has c earlier ≡ false) cs
  apart : AllPairs ◌≢◌ cs

fresh_from_none : (cells k : ℕ) (earlier : List ℕ) (ps : List Port) → bad_input cells k earlier ps ≡ None → IsFresh cells earlier (cells_of ps)
fresh_from_none cells k earlier [] e = record {
  within = All-nil (λ (c : ℕ). c < cells);
  new = All-nil (λ (c : ℕ). has c earlier ≡ false);
  apart = λ i j d before small. absurd (omega arith);
}
fresh_from_none cells k earlier (p ∷ ps) e =
    let both : ((leb cells p.cell || has p.cell earlier) ≡ false) × (bad_input cells (k + 1) (p.cell ∷ earlier) ps ≡ None) =
    cond_none (leb cells p.cell || has p.cell earlier) k (bad_input cells (k + 1) (p.cell ∷ earlier) ps) e in
    let here : (leb cells p.cell ≡ false) × (has p.cell earlier ≡ false) = or_falses (leb cells p.cell) (has p.cell earlier) both.0 in
    let rest : IsFresh cells (p.cell ∷ earlier) (cells_of ps) = fresh_from_none cells (k + 1) (p.cell ∷ earlier) ps both.1 in
    record {
      within = All-cons (λ (c : ℕ). c < cells) p.cell (cells_of ps) (leb-false cells p.cell here.0) rest.within;
      new = All-cons (λ (c : ℕ). has c earlier ≡ false) p.cell (cells_of ps) here.1
          (λ j d small. (or_falses (eqb p.cell _) (has _ earlier) (rest.new j d small)).1);
      apart = AllPairs-cons p.cell (cells_of ps)
          (λ j d small. eqb-false p.cell _ (or_falses (eqb p.cell _) (has _ earlier) (rest.new j d small)).0) rest.apart;
    }

none_from_fresh : (cells k : ℕ) (earlier : List ℕ) (ps : List Port) → IsFresh cells earlier (cells_of ps) → bad_input cells k earlier ps ≡ None
none_from_fresh cells k earlier [] fresh = refl
none_from_fresh cells k earlier (p ∷ ps) fresh =
    none_from_cond (leb cells p.cell || has p.cell earlier) k (bad_input cells (k + 1) (p.cell ∷ earlier) ps)
    (or_from_falses (leb cells p.cell) (has p.cell earlier)
    (lt-leb cells p.cell (All-head (λ (c : ℕ). c < cells) p.cell (cells_of ps) fresh.within))
    (All-head (λ (c : ℕ). has c earlier ≡ false) p.cell (cells_of ps) fresh.new))
    (none_from_fresh cells (k + 1) (p.cell ∷ earlier) ps (record {
      within = All-tail (λ (c : ℕ). c < cells) p.cell (cells_of ps) fresh.within;
      new = λ j d small.
          or_from_falses (eqb p.cell _) (has _ earlier) (ne_eqb p.cell _ (AllPairs-head p.cell (cells_of ps) fresh.apart j d small))
          (All-tail (λ (c : ℕ). has c earlier ≡ false) p.cell (cells_of ps) fresh.new j d small);
      apart = AllPairs-tail p.cell (cells_of ps) fresh.apart;
    }))

-- ---- the whole draft
pub sound_from_none : (d : ProgramView) → fault_of d ≡ None → IsSound d
sound_from_none d e =
    let parts : (option_map (λ (k : ℕ). invalid.Port k) (bad_port d) ≡ None) × (first_instr_fault d.target d.cells 0 d.instrs ≡ None) =
    option_or-none (option_map (λ (k : ℕ). invalid.Port k) (bad_port d)) (first_instr_fault d.target d.cells 0 d.instrs) e in
    let ports : (bad_input d.cells 0 [] d.inputs ≡ None) × (bad_output d.cells (length d.inputs) d.outputs ≡ None) =
    option_or-none (bad_input d.cells 0 [] d.inputs) (bad_output d.cells (length d.inputs) d.outputs) (port-none (bad_port d) parts.0) in
    let fresh : IsFresh d.cells [] (cells_of d.inputs) = fresh_from_none d.cells 0 [] d.inputs ports.0 in
    record {
      inputs = fresh.within;
      distinct = fresh.apart;
      outputs = outputs_from_none d.cells (length d.inputs) d.outputs ports.1;
      instrs = all_valid_from_none d.target d.cells 0 d.instrs parts.1;
    }

pub none_from_sound : (d : ProgramView) → IsSound d → fault_of d ≡ None
none_from_sound d sound =
    none_from_option_or (option_map (λ (k : ℕ). invalid.Port k) (bad_port d)) (first_instr_fault d.target d.cells 0 d.instrs)
    (ap (λ (o : Option ℕ). option_map (λ (k : ℕ). invalid.Port k) o)
    (none_from_option_or (bad_input d.cells 0 [] d.inputs) (bad_output d.cells (length d.inputs) d.outputs)
    (none_from_fresh d.cells 0 [] d.inputs (record {
      within = sound.inputs;
      new = λ j d small. refl;
      apart = sound.distinct;
    }))
    (none_from_outputs d.cells (length d.inputs) d.outputs sound.outputs)))
    (none_from_all_valid d.target d.cells 0 d.instrs sound.instrs)
