-- Which cells are set, as marks tell it.
use Rattle.std.proofs.Common.{◌≡◌, ℕ, zero, suc, ◌+◌, ◌<◌, Bool, true, false, ◌||◌, eqb, List, [], ◌∷◌, ◌++◌, length, drop, set, get_or, replicate, Option, None, inl, inr, refl, sym, ap, subst, ◌∙◌, add-one, drop-cons, length-set, get_or-set_same, get_or-set_other}
use Rattle.std.specs.Prelude.{All, option_map}
use Rattle.std.specs.Option.{option_or}
use Rattle.std.proofs.lemmas.Bool.{cases_eq, eq-eqb, ne_eqb}
use Rattle.std.proofs.lemmas.List.{length-replicate}
use Rattle.std.proofs.lemmas.List.Elements.{All-cons, All-get_or, All-head, All-nil, All-tail}
use Rattle.pim_isa.specs.declared.instr.Instr.{Instr}
use Rattle.pim_isa.specs.Programs.{ProgramView}
use Rattle.pim_isa.specs.Sound.{cells_of, IsProgram, IsValid}
use Rattle.pim_isa.specs.Steps.{bit, set_ones}
use Rattle.pim_isa.specs.Touches.{reads, writes}
use Rattle.pim_isa.specs.Validity.{has}
use Rattle.pim_prove.specs.declared.unset.Unset.{Unset}
use Rattle.pim_prove.specs.declared.unset.Unset.TheVariants.{Used}
use Rattle.pim_prove.specs.Clean.{first_unset_of, unset_of, uses}
use Rattle.pim_prove.specs.inner.Marks.{set_after, unset_from}
use Rattle.pim_prove.proofs.Places.{input_set, or_none, unset_by_places, unset_from-same}

or_true : (b : Bool) → (b || true) ≡ true
or_true true = refl
or_true false = refl

length-set_ones : (cs : List ℕ) (m : List Bool) → length (set_ones cs m) ≡ length m
length-set_ones [] m = refl
length-set_ones (c ∷ cs) m = length-set_ones cs (set m c true) ∙ length-set m c true

pub length_marked : (cs : List ℕ) (m new : List Bool) (n : ℕ) → new ≡ set_ones cs m → length m ≡ n → length new ≡ n
length_marked cs m new n is long = ap length is ∙ length-set_ones cs m ∙ long

-- a cell is set where it was before, and where it is one of those
bit-set_ones : (cs : List ℕ) (m : List Bool) (c : ℕ) → All (λ d. d < length m) cs → bit (set_ones cs m) c ≡ (bit m c || has c cs)
bit-set_ones [] m c within = sym (or_none (bit m c))
bit-set_ones (d ∷ ds) m c within =
    let here : d < length m = All-head (λ x. x < length m) d ds within in
    let later : All (λ x. x < length (set m d true)) ds =
    subst (λ (n : ℕ). All (λ x. x < n) ds) (sym (length-set m d true)) (All-tail (λ x. x < length m) d ds within) in
    bit-set_ones ds (set m d true) c later
    ∙ elim (cases_eq d c) as (λ e. (bit (set m d true) c || has c ds) ≡ (bit m c || (eqb d c || has c ds))) [
      | inl same ↦
          ap (λ (b : Bool). b || has c ds) (subst (λ (x : ℕ). bit (set m d true) x ≡ true) same (get_or-set_same m d true false here))
          ∙ sym (or_true (bit m c))
          ∙ ap (λ (b : Bool). bit m c || (b || has c ds)) (sym (eq-eqb d c same))
      | inr other ↦
          ap (λ (b : Bool). b || has c ds) (get_or-set_other m d c true false (λ same. other (sym same)))
          ∙ ap (λ (b : Bool). bit m c || (b || has c ds)) (sym (ne_eqb d c other))
    ]

-- ---- the walk

-- what an instruction writes lies in the cells
within_all : (n : ℕ) (xs ys : List ℕ) → All (λ c. c < n) (xs ++ ys) → All (λ c. c < n) xs
within_all n [] ys all = All-nil (λ c. c < n)
within_all n (x ∷ xs) ys all =
    All-cons (λ c. c < n) x xs (All-head (λ c. c < n) x (xs ++ ys) all) (within_all n xs ys (All-tail (λ c. c < n) x (xs ++ ys) all))

pub writes_within : (p : ProgramView) (items : List Instr) (m : List Bool) (k : ℕ) (i : Instr) → items ≡ p.instrs → IsProgram p → length m ≡ p.cells →
    k < length items → i ≡ get_or items k i → All (λ c. c < length m) (writes i)
writes_within p items m k i same valid long small is =
    let ok : IsValid p.target p.cells (get_or items k i) =
    All-get_or (IsValid p.target p.cells) items k i small (subst (λ (is : List Instr). All (IsValid p.target p.cells) is) (sym same) valid.sound.instrs) in
    let ok_i : IsValid p.target p.cells i = subst (IsValid p.target p.cells) (sym is) ok in
    subst (λ (n : ℕ). All (λ c. c < n) (writes i)) (sym long) (within_all p.cells (writes i) (reads i) ok_i.within)

-- one instruction that uses no cell which isn't set
pub walk_more : (items : List Instr) (outputs : List ℕ) (k : ℕ) (i : Instr) (m new : List Bool) (whole : Option Unset) →
    k < length items → i ≡ get_or items k i → All (λ c. c < length m) (writes i) → first_unset_of (bit m) (uses i) ≡ None → new ≡ set_ones (writes i) m →
    unset_from (bit m) k (drop k items) outputs ≡ whole → unset_from (bit new) (k + 1) (drop (k + 1) items) outputs ≡ whole
walk_more items outputs k i m new whole small is within none new_is before =
    let rest = drop (k + 1) items in
    let front : drop k items ≡ get_or items k i ∷ drop (k + 1) items = rw add-one (drop-cons items k i small) in
    ap (λ (x : List Bool). unset_from (bit x) (k + 1) rest outputs) new_is
    ∙ unset_from-same (bit (set_ones (writes i) m)) (set_after (bit m) i) (λ c. bit-set_ones (writes i) m c within) (k + 1) rest outputs
    ∙ ap (λ (o : Option ℕ). option_or (option_map (λ c. Used k c) o) (unset_from (set_after (bit m) i) (k + 1) rest outputs)) (sym none)
    ∙ ap (λ (j : Instr). unset_from (bit m) k (j ∷ rest) outputs) is
    ∙ ap (λ (js : List Instr). unset_from (bit m) k js outputs) (sym front)
    ∙ before

-- the start: the cells of the inputs are set
pub walk_begins : (p : ProgramView) (items : List Instr) (outputs : List ℕ) (m : List Bool) → IsProgram p → items ≡ p.instrs → outputs ≡ cells_of p.outputs →
    m ≡ set_ones (cells_of p.inputs) (replicate p.cells false) → unset_from (bit m) 0 items outputs ≡ unset_of p
walk_begins p items outputs m valid same out_same is =
    let blank = replicate p.cells false in
    let within : All (λ d. d < length blank) (cells_of p.inputs) =
    subst (λ (n : ℕ). All (λ d. d < n) (cells_of p.inputs)) (sym (length-replicate p.cells false)) valid.sound.inputs in
    ap (λ (x : List Bool). unset_from (bit x) 0 items outputs) is
    ∙ unset_from-same (bit (set_ones (cells_of p.inputs) blank)) (input_set p)
    (λ c. bit-set_ones (cells_of p.inputs) blank c within ∙ ap (λ (b : Bool). b || has c (cells_of p.inputs)) (blank_bit p.cells c)) 0 items outputs
    ∙ ap (λ (is : List Instr). unset_from (input_set p) 0 is outputs) same
    ∙ ap (λ (cs : List ℕ). unset_from (input_set p) 0 p.instrs cs) out_same
    ∙ unset_by_places p
  where
    blank_bit : (n c : ℕ) → bit (replicate n false) c ≡ false
    blank_bit zero c = refl
    blank_bit (suc n) zero = refl
    blank_bit (suc n) (suc c) = blank_bit n c
