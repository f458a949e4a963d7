-- The first use of a cell that isn't set, by marks and by places.
use Rattle.std.proofs.Common.{◌≡◌, ℕ, ◌+◌, Bool, true, false, ◌||◌, cond, List, [], ◌∷◌, ◌++◌, length, take, Option, Some, refl, sym, ap, ◌∙◌, arith, append_assoc, length-append}
use Rattle.std.specs.Prelude.{option_map}
use Rattle.std.specs.List.{list_any}
use Rattle.std.specs.Option.{option_or}
use Rattle.std.proofs.Math.Seq.{take-append_seam}
use Rattle.std.proofs.lemmas.List.Folds.{list_any-append}
use Rattle.pim_isa.specs.declared.instr.Instr.{Instr}
use Rattle.pim_isa.specs.Programs.{ProgramView}
use Rattle.pim_isa.specs.Sound.{cells_of}
use Rattle.pim_isa.specs.Touches.{writes}
use Rattle.pim_isa.specs.Validity.{has}
use Rattle.pim_prove.specs.declared.unset.Unset.TheVariants.{Used, Output}
use Rattle.pim_prove.specs.Clean.{first_unset_of, first_unset_output, is_set_at, unset_behind, unset_of, uses}
use Rattle.pim_prove.specs.inner.Marks.{set_after, unset_from}

pub or_assoc : (a b c : Bool) → ((a || b) || c) ≡ (a || (b || c))
or_assoc true b c = refl
or_assoc false b c = refl

pub or_none : (b : Bool) → (b || false) ≡ b
or_none true = refl
or_none false = refl

-- the cell was set at first, or one of the instructions writes it
abbrev pub set_by : (ℕ → Bool) → List Instr → ℕ → Bool
set_by set is c = set c || list_any (λ i. has c (writes i)) is

-- the cells of the inputs
abbrev pub input_set : ProgramView → ℕ → Bool
input_set p c = has c (cells_of p.inputs)

-- ---- what is found depends on which cells are set alone

first_unset_of-same : (f g : ℕ → Bool) → ((c : ℕ) → f c ≡ g c) → (cs : List ℕ) → first_unset_of f cs ≡ first_unset_of g cs
first_unset_of-same f g same [] = refl
first_unset_of-same f g same (c ∷ cs) =
    ap (λ (b : Bool). cond b (first_unset_of f cs) (Some c)) (same c)
    ∙ ap (λ (o : Option ℕ). cond (g c) o (Some c)) (first_unset_of-same f g same cs)

first_unset_output-same : (f g : ℕ → Bool) → ((c : ℕ) → f c ≡ g c) → (k : ℕ) (cs : List ℕ) → first_unset_output f k cs ≡ first_unset_output g k cs
first_unset_output-same f g same k [] = refl
first_unset_output-same f g same k (c ∷ cs) =
    ap (λ (b : Bool). cond b (first_unset_output f (k + 1) cs) (Some k)) (same c)
    ∙ ap (λ (o : Option ℕ). cond (g c) o (Some k)) (first_unset_output-same f g same (k + 1) cs)

pub unset_from-same : (f g : ℕ → Bool) → ((c : ℕ) → f c ≡ g c) → (k : ℕ) (is : List Instr) (outputs : List ℕ) → unset_from f k is outputs ≡ unset_from g k is outputs
unset_from-same f g same k [] outputs = ap (option_map (λ n. Output n)) (first_unset_output-same f g same 0 outputs)
unset_from-same f g same k (i ∷ is) outputs =
    ap (λ (o : Option ℕ). option_or (option_map (λ c. Used k c) o) (unset_from (set_after f i) (k + 1) is outputs)) (first_unset_of-same f g same (uses i))
    ∙ ap (option_or (option_map (λ c. Used k c) (first_unset_of g (uses i))))
    (unset_from-same (set_after f i) (set_after g i) (λ c. ap (λ (b : Bool). b || has c (writes i)) (same c)) (k + 1) is outputs)

-- ---- by places

-- setting by instructions and then by one more
set_by-push : (set : ℕ → Bool) (is : List Instr) (i : Instr) (c : ℕ) → set_after (set_by set is) i c ≡ set_by set (is ++ i ∷ []) c
set_by-push set is i c =
    or_assoc (set c) (list_any (λ j. has c (writes j)) is) (has c (writes i))
    ∙ ap (λ (b : Bool). set c || (list_any (λ j. has c (writes j)) is || b)) (sym (or_none (has c (writes i))))
    ∙ ap (λ (b : Bool). set c || b) (sym (list_any-append (λ j. has c (writes j)) is (i ∷ [])))

-- what is set at a place is what the instructions before it set
set_at : (p : ProgramView) (k : ℕ) (front is : List Instr) → k ≡ length front → front ++ is ≡ p.instrs → (c : ℕ) →
    set_by (input_set p) front c ≡ is_set_at p k c
set_at p k front is at whole c =
    let taken : take k p.instrs ≡ front =
    ap (take k) (sym whole) ∙ ap (λ (n : ℕ). take n (front ++ is)) at ∙ take-append_seam front is in
    ap (λ (js : List Instr). set_by (input_set p) js c) (sym taken)

behind : (p : ProgramView) (k : ℕ) (front is : List Instr) → k ≡ length front → front ++ is ≡ p.instrs →
    unset_from (set_by (input_set p) front) k is (cells_of p.outputs) ≡ unset_behind p k is
behind p k front [] at whole =
    ap (option_map (λ n. Output n)) (first_unset_output-same (set_by (input_set p) front) (is_set_at p k) (set_at p k front [] at whole) 0 (cells_of p.outputs))
behind p k front (i ∷ is) at whole =
    let set = set_by (input_set p) front in
    let outputs = cells_of p.outputs in
    ap (λ (o : Option ℕ). option_or (option_map (λ c. Used k c) o) (unset_from (set_after set i) (k + 1) is outputs))
    (first_unset_of-same set (is_set_at p k) (set_at p k front (i ∷ is) at whole) (uses i))
    ∙ ap (option_or (option_map (λ c. Used k c) (first_unset_of (is_set_at p k) (uses i))))
    (unset_from-same (set_after set i) (set_by (input_set p) (front ++ i ∷ [])) (set_by-push (input_set p) front i) (k + 1) is outputs
    ∙ behind p (k + 1) (front ++ i ∷ []) is (omega (arith, at, length-append front (i ∷ []))) (append_assoc front (i ∷ []) is ∙ whole))

pub unset_by_places : (p : ProgramView) → unset_from (input_set p) 0 p.instrs (cells_of p.outputs) ≡ unset_of p
unset_by_places p =
    unset_from-same (input_set p) (set_by (input_set p) []) (λ c. sym (or_none (has c (cells_of p.inputs)))) 0 p.instrs (cells_of p.outputs)
    ∙ behind p 0 [] p.instrs refl refl
