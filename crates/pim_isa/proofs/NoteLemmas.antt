-- What a draft notes of its inputs, when one more is appended.
use Rattle.std.proofs.Common.{◌≡◌, ℕ, suc, ◌+◌, ◌<◌, ◌≤◌, Bool, true, false, ◌||◌, eqb, leb, cond, List, [], ◌∷◌, ◌++◌, length, map, get_or, set, Option, Some, None, ◌⊎◌, inl, inr, refl, sym, ap, ◌∙◌, subst, arith}
use Rattle.std.specs.Option.{option_or, IfSome}
use Rattle.std.proofs.lemmas.Bool.{cases_eq, eq-eqb, ne_eqb, leb-false}
use Rattle.std.proofs.lemmas.List.{length-set, get_or-set_same, get_or-set_other}
use Rattle.pim_isa.specs.declared.port.Port.{Port}
use Rattle.pim_isa.specs.Programs.{ProgramView}
use Rattle.pim_isa.specs.Validity.{bad_input, bad_output, bad_port, has}
use Rattle.pim_isa.specs.inner.Drafts.{Notes}

-- the cells of the ports
abbrev cells_of : List Port → List ℕ
cells_of ports = map (λ (q : Port). q.cell) ports

or-false : (a : Bool) → (a || false) ≡ a
or-false true = refl
or-false false = refl

or-true : (a : Bool) → (a || true) ≡ true
or-true true = refl
or-true false = refl

or_assoc : (a b c : Bool) → (a || (b || c)) ≡ ((a || b) || c)
or_assoc true b c = refl
or_assoc false b c = refl

or_swap : (a b c d : Bool) → (a || ((b || c) || d)) ≡ (a || (c || (b || d)))
or_swap true b c d = refl
or_swap false true true d = refl
or_swap false true false d = refl
or_swap false false c d = refl

or_agree : (b x y : Bool) → (b ≡ false → x ≡ y) → (b || x) ≡ (b || y)
or_agree true x y same = refl
or_agree false x y same = same refl

pub has-push : (c : ℕ) (inputs : List Port) (p : Port) → has c (cells_of (inputs ++ p ∷ [])) ≡ (has c (cells_of inputs) || eqb p.cell c)
has-push c [] p = or-false (eqb p.cell c)
has-push c (q ∷ qs) p = ap (λ (b : Bool). eqb q.cell c || b) (has-push c qs p) ∙ or_assoc (eqb q.cell c) _ _

-- the fault of a port more comes after those before it
cond_option_or : (b : Bool) (k : ℕ) (rest whole last : Option ℕ) →
    whole ≡ option_or rest last → cond b (Some k) whole ≡ option_or (cond b (Some k) rest) last
cond_option_or true k rest whole last same = refl
cond_option_or false k rest whole last same = same

pub bad_input-push : (cells k : ℕ) (earlier : List ℕ) (inputs : List Port) (p : Port) →
    bad_input cells k earlier (inputs ++ p ∷ [])
    ≡ option_or (bad_input cells k earlier inputs)
    (cond (leb cells p.cell || (has p.cell earlier || has p.cell (cells_of inputs))) (Some (k + length inputs)) None)
bad_input-push cells k earlier [] p =
    let place : k ≡ k + 0 = omega arith in
    ap (λ (n : ℕ). cond (leb cells p.cell || has p.cell earlier) (Some n) None) place
    ∙ ap (λ (b : Bool). cond (leb cells p.cell || b) (Some (k + 0)) None) (sym (or-false (has p.cell earlier)))
bad_input-push cells k earlier (q ∷ qs) p =
    let place : (k + 1) + length qs ≡ k + suc (length qs) = omega arith in
    let rest : Option ℕ = bad_input cells (k + 1) (q.cell ∷ earlier) qs in
    cond_option_or (leb cells q.cell || has q.cell earlier) k _ _ _
    (bad_input-push cells (k + 1) (q.cell ∷ earlier) qs p
    ∙ ap (λ (n : ℕ). option_or rest (cond (leb cells p.cell || ((eqb q.cell p.cell || has p.cell earlier) || has p.cell (cells_of qs))) (Some n) None)) place
    ∙ ap (λ (b : Bool). option_or rest (cond b (Some (k + suc (length qs))) None))
    (or_swap (leb cells p.cell) (eqb q.cell p.cell) (has p.cell earlier) (has p.cell (cells_of qs))))

-- the place of an input at fault is one of an input
bad_input-below : (cells k : ℕ) (earlier : List ℕ) (inputs : List Port) → IfSome (bad_input cells k earlier inputs) (λ n. n < k + length inputs)
bad_input-below cells k earlier [] = tt
bad_input-below cells k earlier (p ∷ ps) = below (leb cells p.cell || has p.cell earlier) (bad_input cells (k + 1) (p.cell ∷ earlier) ps) (bad_input-below cells (k + 1) (p.cell ∷ earlier) ps)
  where
    below : (b : Bool) (o : Option ℕ) → IfSome o (λ n. n < (k + 1) + length ps) → IfSome (cond b (Some k) o) (λ n. n < k + suc (length ps))
    below true o h = omega arith
    below false None h = tt
    below false (Some n) h = omega (arith, h)

bad_output-below : (cells k : ℕ) (outputs : List Port) → IfSome (bad_output cells k outputs) (λ n. n < k + length outputs)
bad_output-below cells k [] = tt
bad_output-below cells k (p ∷ ps) = below (leb cells p.cell) (bad_output cells (k + 1) ps) (bad_output-below cells (k + 1) ps)
  where
    below : (b : Bool) (o : Option ℕ) → IfSome o (λ n. n < (k + 1) + length ps) → IfSome (cond b (Some k) o) (λ n. n < k + suc (length ps))
    below true o h = omega arith
    below false None h = tt
    below false (Some n) h = omega (arith, h)

-- the place of a port at fault is one of a port
pub bad_port-below : (d : ProgramView) → IfSome (bad_port d) (λ n. n < length d.inputs + length d.outputs)
bad_port-below d = below (bad_input d.cells 0 [] d.inputs) (bad_input-below d.cells 0 [] d.inputs)
  where
    below : (o : Option ℕ) → IfSome o (λ n. n < 0 + length d.inputs) →
        IfSome (option_or o (bad_output d.cells (length d.inputs) d.outputs)) (λ n. n < length d.inputs + length d.outputs)
    below None h = bad_output-below d.cells (length d.inputs) d.outputs
    below (Some n) h = omega (arith, h)

marked-push : (cells : ℕ) (inputs : List Port) (marks : List Bool) (p : Port) (grown : List Bool) (c : ℕ) →
    (p.cell < cells → p.cell < length grown) →
    get_or grown c false ≡ has c (cells_of inputs) →
    c < cells →
    (c ≡ p.cell) ⊎ (c ≡ p.cell → ⊥) →
    get_or (set grown p.cell true) c false ≡ has c (cells_of (inputs ++ p ∷ []))
marked-push cells inputs marks p grown c room same small (inl e) =
    let here : p.cell < length grown = room (subst (λ (n : ℕ). n < cells) e small) in
    ap (λ (n : ℕ). get_or (set grown p.cell true) n false) e
    ∙ get_or-set_same grown p.cell true false here
    ∙ sym (or-true (has c (cells_of inputs)))
    ∙ ap (λ (b : Bool). has c (cells_of inputs) || b) (sym (eq-eqb p.cell c (sym e)))
    ∙ sym (has-push c inputs p)
marked-push cells inputs marks p grown c room same small (inr ne) =
    get_or-set_other grown p.cell c true false ne
    ∙ same
    ∙ sym (or-false (has c (cells_of inputs)))
    ∙ ap (λ (b : Bool). has c (cells_of inputs) || b) (sym (ne_eqb p.cell c (λ e. ne (sym e))))
    ∙ sym (has-push c inputs p)

pub Notes-push : (cells : ℕ) (inputs : List Port) (marks : List Bool) (bad : Option ℕ) (p : Port) (grown : List Bool) →
    Notes cells inputs marks bad →
    length grown ≤ cells →
    (p.cell < cells → p.cell < length grown) →
    ((c : ℕ) → get_or grown c false ≡ get_or marks c false) →
    Notes cells (inputs ++ p ∷ []) (set grown p.cell true)
    (option_or bad (cond (leb cells p.cell || get_or grown p.cell false) (Some (length inputs)) None))
Notes-push cells inputs marks bad p grown notes within room same = record {
  within = omega (arith, length-set grown p.cell true);
  marked = λ c small. marked-push cells inputs marks p grown c room (same c ∙ notes.marked c small) small (cases_eq c p.cell);
  first =
      let place : length inputs ≡ 0 + length inputs = omega arith in
      ap (λ (o : Option ℕ). option_or o (cond (leb cells p.cell || get_or grown p.cell false) (Some (length inputs)) None)) notes.first
      ∙ ap (λ (b : Bool). option_or (bad_input cells 0 [] inputs) (cond b (Some (length inputs)) None))
      (or_agree (leb cells p.cell) (get_or grown p.cell false) (has p.cell (cells_of inputs))
      (λ e. same p.cell ∙ notes.marked p.cell (leb-false cells p.cell e)))
      ∙ ap (λ (n : ℕ). option_or (bad_input cells 0 [] inputs) (cond (leb cells p.cell || has p.cell (cells_of inputs)) (Some n) None)) place
      ∙ sym (bad_input-push cells 0 [] inputs p);
}
