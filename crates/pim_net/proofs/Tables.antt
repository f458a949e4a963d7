-- How a table of drivers is filled.
use Rattle.std.proofs.Common.{◌≡◌, ◌≢◌, ℕ, suc, ◌+◌, ◌<◌, ◌≤◌, ◌++◌, ◌||◌, ◌==◌, Bool, true, false, not, eqb, cond, List, [], ◌∷◌, Option, Some, None, length, get_or, refl, ap, sym, ◌∙◌, subst, arith, ⊎_elim, take, drop}
use Rattle.std.specs.Prelude.{is_some, option_map}
use Rattle.std.specs.Option.{option_or}
use Rattle.std.proofs.lemmas.List.{take_more, drop_more, length-take-le, append-nil, append_assoc, take_all, drop_all}
use mathlib.Core.Path.{fun_ext}
use Rattle.pim_net.specs.Tables.{put}
use Rattle.std.proofs.lemmas.Bool.Decides.{eqb_tells}
use Rattle.pim_net.specs.Faults.{first_repeat}
use Rattle.pim_net.specs.Drivers.{place}
use Rattle.pim_net.specs.inner.Drivers.{driver_by, is_nobody}
use Rattle.pim_net.specs.declared.driver.Driver.{Driver}
use Rattle.pim_net.specs.declared.driver.Driver.TheVariants.{Nobody, Input, Cover}

-- a table of the drivers among these inputs and these signals of equations
abbrev pub Tells : List ℕ → List ℕ → (ℕ → Driver) → Type 0
Tells xs ys table = (s : ℕ) → table s ≡ driver_by (place s xs) (place s ys)

-- two numbers that differ are told apart
eqb_off : (a b : ℕ) → a ≢ b → eqb a b ≡ false
eqb_off a b apart = ⊎_elim (λ (h : (eqb a b ≡ true) × (a ≡ b)). absurd (apart h.1)) (λ (h : (eqb a b ≡ false) × (a ≢ b)). h.0) (eqb_tells a b)

-- the value that was put
put_same : (table : ℕ → Driver) (x : ℕ) (v : Driver) → put table x v x ≡ v
put_same table x v =
    ap (λ b. cond b v (table x)) (⊎_elim (λ (h : (eqb x x ≡ true) × (x ≡ x)). h.0) (λ (h : (eqb x x ≡ false) × (x ≢ x)). absurd (h.1 refl)) (eqb_tells x x))

-- the other values stay
put_other : (table : ℕ → Driver) (x s : ℕ) (v : Driver) → s ≢ x → put table x v s ≡ table s
put_other table x s v apart = ap (λ b. cond b v (table s)) (eqb_off s x apart)

push_later : (b c : Bool) (p first : Option ℕ) (n : ℕ) → cond b (Some 0) (option_map suc (option_or p (cond c (Some n) None))) ≡ option_or (cond b (Some 0) (option_map suc p)) (cond c (Some (suc n)) None)
push_later true c p first n = refl
push_later false c (Some k) first n = refl
push_later false true None first n = refl
push_later false false None first n = refl

pub place-push : (s : ℕ) (xs : List ℕ) (x : ℕ) → place s (xs ++ x ∷ []) ≡ option_or (place s xs) (cond (x == s) (Some (length xs)) None)
place-push s [] x = elim (x == s) as (λ b. let first : Option ℕ = Some 0 in cond b first (option_map suc None) ≡ cond b first None) [ true ↦ refl | false ↦ refl ]
place-push s (y ∷ xs) x = rw (place-push s xs x) (push_later (y == s) (x == s) (place s xs) None (length xs))

-- where a signal stands in two lists, one after the other
pub place-append : (s : ℕ) (xs ys : List ℕ) → is_some (place s (xs ++ ys)) ≡ (is_some (place s xs) || is_some (place s ys))
place-append s [] ys = refl
place-append s (x ∷ xs) ys =
    elim (x == s) as (λ b. is_some (cond b (Some 0) (option_map suc (place s (xs ++ ys)))) ≡ (is_some (cond b (Some 0) (option_map suc (place s xs))) || is_some (place s ys))) [
      | true ↦ refl
      | false ↦ is_some-map (place s (xs ++ ys)) ∙ place-append s xs ys ∙ ap (λ b. b || is_some (place s ys)) (sym (is_some-map (place s xs)))
    ]
  where
    is_some-map : (p : Option ℕ) → is_some (option_map suc p) ≡ is_some p
    is_some-map None = refl
    is_some-map (Some k) = refl

-- a signal that the table gives nobody stands in neither list
pub nobody_is : (p q : Option ℕ) → is_nobody (driver_by p q) ≡ not (is_some p || is_some q)
nobody_is (Some j) q = refl
nobody_is None (Some k) = refl
nobody_is None None = refl

pub taken_is : (xs ys : List ℕ) (table : ℕ → Driver) (x : ℕ) → Tells xs ys table → is_nobody (table x) ≡ not (is_some (place x (xs ++ ys)))
taken_is xs ys table x tells = ap is_nobody (tells x) ∙ nobody_is (place x xs) (place x ys) ∙ ap not (sym (place-append x xs ys))

none_of : (p q : Option ℕ) → is_nobody (driver_by p q) ≡ true → (p ≡ None) × (q ≡ None)
none_of (Some j) q h = cc
none_of None (Some k) h = cc
none_of None None h = (refl, refl)

pub input_taken : (xs : List ℕ) (table : ℕ → Driver) (x : ℕ) → Tells xs [] table → is_nobody (table x) ≡ true → Tells (xs ++ x ∷ []) [] (put table x (Input (length xs)))
input_taken xs table x tells free s =
    let here = none_of (place x xs) None (ap is_nobody (sym (tells x)) ∙ free) in
    ⊎_elim
    (λ (h : (eqb x s ≡ true) × (x ≡ s)).
    let same : place s (xs ++ x ∷ []) ≡ Some (length xs) = place-push s xs x ∙ ap (λ b. option_or (place s xs) (cond b (Some (length xs)) None)) h.0 ∙ ap (λ p. option_or p (Some (length xs))) (ap (λ t. place t xs) (sym h.1) ∙ here.0) in
    ap (put table x (Input (length xs))) (sym h.1) ∙ put_same table x (Input (length xs)) ∙ ap (λ p. driver_by p None) (sym same))
    (λ (h : (eqb x s ≡ false) × (x ≢ s)).
    let same : place s (xs ++ x ∷ []) ≡ place s xs = place-push s xs x ∙ ap (λ b. option_or (place s xs) (cond b (Some (length xs)) None)) h.0 ∙ or_none (place s xs) in
    put_other table x s (Input (length xs)) (λ e. h.1 (sym e)) ∙ tells s ∙ ap (λ p. driver_by p None) (sym same))
    (eqb_tells x s)
  where
    or_none : (p : Option ℕ) → option_or p None ≡ p
    or_none None = refl
    or_none (Some k) = refl

pub equation_taken : (xs ys : List ℕ) (table : ℕ → Driver) (x : ℕ) → Tells xs ys table → is_nobody (table x) ≡ true → Tells xs (ys ++ x ∷ []) (put table x (Cover (length ys)))
equation_taken xs ys table x tells free s =
    let here = none_of (place x xs) (place x ys) (ap is_nobody (sym (tells x)) ∙ free) in
    ⊎_elim
    (λ (h : (eqb x s ≡ true) × (x ≡ s)).
    let same : place s (ys ++ x ∷ []) ≡ Some (length ys) = place-push s ys x ∙ ap (λ b. option_or (place s ys) (cond b (Some (length ys)) None)) h.0 ∙ ap (λ p. option_or p (Some (length ys))) (ap (λ t. place t ys) (sym h.1) ∙ here.1) in
    let none : place s xs ≡ None = ap (λ t. place t xs) (sym h.1) ∙ here.0 in
    ap (put table x (Cover (length ys))) (sym h.1) ∙ put_same table x (Cover (length ys)) ∙ ap (λ p. driver_by None p) (sym same) ∙ ap (λ p. driver_by p (place s (ys ++ x ∷ []))) (sym none))
    (λ (h : (eqb x s ≡ false) × (x ≢ s)).
    let same : place s (ys ++ x ∷ []) ≡ place s ys = place-push s ys x ∙ ap (λ b. option_or (place s ys) (cond b (Some (length ys)) None)) h.0 ∙ or_none (place s ys) in
    put_other table x s (Cover (length ys)) (λ e. h.1 (sym e)) ∙ tells s ∙ ap (λ p. driver_by (place s xs) p) (sym same))
    (eqb_tells x s)
  where
    or_none : (p : Option ℕ) → option_or p None ≡ p
    or_none None = refl
    or_none (Some k) = refl

-- the loop over the inputs: the drivers that the table has, and that no repeat was met
pub record InputsDone (inputs signals : List ℕ) (k : ℕ) (table : ℕ → Driver) : Type 0 where
  pub tells : Tells (take k inputs) [] table
  pub firsts : first_repeat (take k inputs) (drop k inputs ++ signals) ≡ first_repeat [] (inputs ++ signals)

-- before the first input the table gives nobody
pub inputs_none : (inputs signals : List ℕ) (table : ℕ → Driver) → table ≡ (λ s. Nobody) → InputsDone inputs signals 0 table
inputs_none inputs signals table is = record { tells = λ s. ap (λ t. t s) is; firsts = refl }

-- a signal that the table gives nobody doesn't stand before
absent : (xs ys : List ℕ) (table : ℕ → Driver) (x : ℕ) → Tells xs ys table → is_nobody (table x) ≡ true → is_some (place x (xs ++ ys)) ≡ false
absent xs ys table x tells free = not_true (is_some (place x (xs ++ ys))) (sym (taken_is xs ys table x tells) ∙ free)
  where
    not_true : (b : Bool) → not b ≡ true → b ≡ false
    not_true true h = cc
    not_true false h = refl

-- a signal that the table gives a driver stands before
present : (xs ys : List ℕ) (table : ℕ → Driver) (x : ℕ) → Tells xs ys table → is_nobody (table x) ≡ false → is_some (place x (xs ++ ys)) ≡ true
present xs ys table x tells taken = not_false (is_some (place x (xs ++ ys))) (sym (taken_is xs ys table x tells) ∙ taken)
  where
    not_false : (b : Bool) → not b ≡ false → b ≡ true
    not_false true h = refl
    not_false false h = cc

repeat_on : (before rest : List ℕ) (x : ℕ) → is_some (place x before) ≡ false → first_repeat before (x ∷ rest) ≡ first_repeat (before ++ x ∷ []) rest
repeat_on before rest x h = ap (λ b. cond b (Some x) (first_repeat (before ++ x ∷ []) rest)) h

repeat_here : (before rest : List ℕ) (x : ℕ) → is_some (place x before) ≡ true → first_repeat before (x ∷ rest) ≡ Some x
repeat_here before rest x h = ap (λ b. cond b (Some x) (first_repeat (before ++ x ∷ []) rest)) h

pub inputs_next : (inputs signals : List ℕ) (k x : ℕ) (table after : ℕ → Driver) → InputsDone inputs signals k table → k < length inputs → x ≡ get_or inputs k 0 → is_nobody (table x) ≡ true → after ≡ put table x (Input k) → InputsDone inputs signals (k + 1) after
inputs_next inputs signals k x table after done within item free is =
    let more : take (k + 1) inputs ≡ take k inputs ++ x ∷ [] = take_more inputs k 0 within ∙ ap (λ y. take k inputs ++ y ∷ []) (sym item) in
    let rest : drop k inputs ≡ x ∷ drop (k + 1) inputs = drop_more inputs k 0 within ∙ ap (λ y. y ∷ drop (k + 1) inputs) (sym item) in
    let at : length (take k inputs) ≡ k = length-take-le k inputs (omega arith) in
    let none : is_some (place x (take k inputs)) ≡ false = ap (λ l. is_some (place x l)) (sym (append-nil (take k inputs))) ∙ absent (take k inputs) [] table x done.tells free in
    let filled : Tells (take k inputs ++ x ∷ []) [] (put table x (Input k)) = subst (λ n. Tells (take k inputs ++ x ∷ []) [] (put table x (Input n))) at (input_taken (take k inputs) table x done.tells free) in
    record {
      tells = subst (λ t. Tells (take (k + 1) inputs) [] t) (sym is) (subst (λ l. Tells l [] (put table x (Input k))) (sym more) filled);
      firsts = ap (λ l. first_repeat l (drop (k + 1) inputs ++ signals)) more ∙ sym (repeat_on (take k inputs) (drop (k + 1) inputs ++ signals) x none) ∙ ap (λ l. first_repeat (take k inputs) (l ++ signals)) (sym rest) ∙ done.firsts;
    }

-- the loop over the equations, by their signals
pub record EquationsDone (inputs signals : List ℕ) (k : ℕ) (table : ℕ → Driver) : Type 0 where
  pub tells : Tells inputs (take k signals) table
  pub firsts : first_repeat (inputs ++ take k signals) (drop k signals) ≡ first_repeat [] (inputs ++ signals)

pub equations_none : (inputs signals : List ℕ) (k : ℕ) (table : ℕ → Driver) → length inputs ≤ k → InputsDone inputs signals k table → EquationsDone inputs signals 0 table
equations_none inputs signals k table all done = record {
  tells = subst (λ l. Tells l [] table) (take_all k inputs all) done.tells;
  firsts = ap (λ l. first_repeat l signals) (append-nil inputs ∙ sym (take_all k inputs all)) ∙ ap (λ l. first_repeat (take k inputs) (l ++ signals)) (sym (drop_all k inputs all)) ∙ done.firsts;
}

pub equations_next : (inputs signals : List ℕ) (k x : ℕ) (table after : ℕ → Driver) → EquationsDone inputs signals k table → k < length signals → x ≡ get_or signals k 0 → is_nobody (table x) ≡ true → after ≡ put table x (Cover k) → EquationsDone inputs signals (k + 1) after
equations_next inputs signals k x table after done within item free is =
    let more : take (k + 1) signals ≡ take k signals ++ x ∷ [] = take_more signals k 0 within ∙ ap (λ y. take k signals ++ y ∷ []) (sym item) in
    let rest : drop k signals ≡ x ∷ drop (k + 1) signals = drop_more signals k 0 within ∙ ap (λ y. y ∷ drop (k + 1) signals) (sym item) in
    let at : length (take k signals) ≡ k = length-take-le k signals (omega arith) in
    let none = absent inputs (take k signals) table x done.tells free in
    let filled : Tells inputs (take k signals ++ x ∷ []) (put table x (Cover k)) = subst (λ n. Tells inputs (take k signals ++ x ∷ []) (put table x (Cover n))) at (equation_taken inputs (take k signals) table x done.tells free) in
    record {
      tells = subst (λ t. Tells inputs (take (k + 1) signals) t) (sym is) (subst (λ l. Tells inputs l (put table x (Cover k))) (sym more) filled);
      firsts = ap (λ l. first_repeat (inputs ++ l) (drop (k + 1) signals)) more ∙ ap (λ l. first_repeat l (drop (k + 1) signals)) (sym (append_assoc inputs (take k signals) (x ∷ []))) ∙ sym (repeat_on (inputs ++ take k signals) (drop (k + 1) signals) x none) ∙ ap (λ l. first_repeat (inputs ++ take k signals) l) (sym rest) ∙ done.firsts;
    }

-- a second driver among the equations
pub equations_repeat : (inputs signals : List ℕ) (k x : ℕ) (table : ℕ → Driver) → EquationsDone inputs signals k table → k < length signals → x ≡ get_or signals k 0 → is_nobody (table x) ≡ false → first_repeat [] (inputs ++ signals) ≡ Some x
equations_repeat inputs signals k x table done within item taken =
    let rest : drop k signals ≡ x ∷ drop (k + 1) signals = drop_more signals k 0 within ∙ ap (λ y. y ∷ drop (k + 1) signals) (sym item) in
    sym done.firsts ∙ ap (λ l. first_repeat (inputs ++ take k signals) l) rest ∙ repeat_here (inputs ++ take k signals) (drop (k + 1) signals) x (present inputs (take k signals) table x done.tells taken)

pub equations_all : (inputs signals : List ℕ) (k : ℕ) (table : ℕ → Driver) → length signals ≤ k → EquationsDone inputs signals k table
    → (first_repeat [] (inputs ++ signals) ≡ None) × (table ≡ (λ s. driver_by (place s inputs) (place s signals)))
equations_all inputs signals k table all done = (
  sym done.firsts ∙ ap (λ l. first_repeat (inputs ++ take k signals) l) (drop_all k signals all),
  fun_ext (subst (λ l. Tells inputs l table) (take_all k signals all) done.tells),
)
