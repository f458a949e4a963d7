-- Moved instructions: they are valid in the wider row, do in their window what they did in the row of their part, and
-- leave every cell outside it.
use Rattle.std.proofs.Common.{◌≡◌, ◌≢◌, ◌∙◌, ◌⊎◌, ◌+◌, ◌<◌, ◌≤◌, ◌==◌, ◌++◌, ◌∷◌, ◌&&◌, ◌||◌, ℕ, Bool, List, [], length, map, set, refl, sym, ap, ap₂, subst, false, true, inl, inr, arith}
use Rattle.std.specs.Prelude.{not, nat_lt}
use Rattle.std.specs.List.{All, list_any}
use Rattle.std.proofs.Math.Dec.{eqb}
use Rattle.std.proofs.lemmas.Bool.Decides.{eqb_tells, nat_tests}
use Rattle.std.proofs.lemmas.List.{get_or-set_other, get_or-set_same, length-set, map-append}
use Rattle.std.proofs.lemmas.List.Elements.{All-cons, All-head, All-map, All-nil, All-same, All-tail, All-weaker}
use Rattle.pim_isa.specs.declared.target.Target.{Target}
use Rattle.pim_isa.specs.declared.target.Target.TheVariants.{Magic, Plim}
use Rattle.pim_isa.specs.declared.instr.Ins.{Ins}
use Rattle.pim_isa.specs.declared.instr.Ins.TheVariants as ins
use Rattle.pim_isa.specs.declared.instr.Operand.{Operand}
use Rattle.pim_isa.specs.declared.instr.Operand.TheVariants as operand
use Rattle.pim_isa.specs.declared.instr.Instr.{Instr}
use Rattle.pim_isa.specs.declared.instr.Instr.TheVariants.{Init, Nor, Rm3}
use Rattle.pim_isa.specs.Touches.{names, operand_cells, operands, reads, writes}
use Rattle.pim_isa.specs.Validity.{has, has_good_list, is_rising, reads_target, rises_above, suits}
use Rattle.pim_isa.specs.Sound.{IsValid}
use Rattle.pim_isa.specs.Steps.{bit, majority, set_ones, step, value}
use Rattle.pim_share.specs.Moved.{moved, moved_ins, moved_operand}
use Rattle.pim_share.specs.Windows.{InWindow}

-- ---- lists

pub All-left : {X : Type 0} (P : X → Type 0) (xs ys : List X) → All P (xs ++ ys) → All P xs
All-left P [] ys h = All-nil P
All-left P (x ∷ xs) ys h = All-cons P x xs (All-head P x (xs ++ ys) h) (All-left P xs ys (All-tail P x (xs ++ ys) h))

pub All-right : {X : Type 0} (P : X → Type 0) (xs ys : List X) → All P (xs ++ ys) → All P ys
All-right P [] ys h = h
All-right P (x ∷ xs) ys h = All-right P xs ys (All-tail P x (xs ++ ys) h)

module _ (b : ℕ) where
  abbrev up : List ℕ → List ℕ
  up cs = map (λ (c : ℕ). b + c) cs

  eq-up : (c d : ℕ) → (b + d == b + c) ≡ (d == c)
  eq-up c d = grind (arith, nat_tests)

  lt-up : (c d : ℕ) → nat_lt (b + c) (b + d) ≡ nat_lt c d
  lt-up c d = grind (arith, nat_tests)

  pub has-up : (c : ℕ) (cs : List ℕ) → has (b + c) (up cs) ≡ has c cs
  has-up c [] = refl
  has-up c (d ∷ ds) = ap₂ (λ x y. x || y) (eq-up c d) (has-up c ds)

  operands-moved : (i : Ins) → operands (moved_ins b i) ≡ up (operands i)
  operands-moved (ins.One x) = refl
  operands-moved (ins.Two x y) = refl
  operands-moved (ins.Three x y z) = refl
  operands-moved (ins.Four x y z w) = refl

  operand_cells-moved : (o : Operand) → operand_cells (moved_operand b o) ≡ up (operand_cells o)
  operand_cells-moved operand.Zero = refl
  operand_cells-moved operand.One = refl
  operand_cells-moved (operand.Cell c) = refl

  pair_cells-moved : (p q : Operand) → operand_cells (moved_operand b p) ++ operand_cells (moved_operand b q) ≡ up (operand_cells p ++ operand_cells q)
  pair_cells-moved p q = ap₂ (λ xs ys. xs ++ ys) (operand_cells-moved p) (operand_cells-moved q) ∙ sym (map-append (λ (c : ℕ). b + c) (operand_cells p) (operand_cells q))

  pub writes-moved : (i : Instr) → writes (moved b i) ≡ up (writes i)
  writes-moved (Init cells) = refl
  writes-moved (Nor t x) = refl
  writes-moved (Rm3 p q z) = refl

  reads-moved : (i : Instr) → reads (moved b i) ≡ up (reads i)
  reads-moved (Init cells) = refl
  reads-moved (Nor t x) = operands-moved x
  reads-moved (Rm3 p q z) = ap (λ cs. (b + z) ∷ cs) (pair_cells-moved p q)

  names-moved : (i : Instr) → names (moved b i) ≡ up (names i)
  names-moved i = ap₂ (λ xs ys. xs ++ ys) (writes-moved i) (reads-moved i) ∙ sym (map-append (λ (c : ℕ). b + c) (writes i) (reads i))

  -- ---- validity

  suits-moved : (target : Target) (i : Instr) → suits target (moved b i) ≡ suits target i
  suits-moved Magic (Init cells) = refl
  suits-moved Magic (Nor t x) = refl
  suits-moved Magic (Rm3 p q z) = refl
  suits-moved Plim (Init cells) = refl
  suits-moved Plim (Nor t x) = refl
  suits-moved Plim (Rm3 p q z) = refl

  rises-up : (c : ℕ) (ds : List ℕ) → rises_above (b + c) (up ds) ≡ rises_above c ds
  rises-up c [] = refl
  rises-up c (d ∷ ds) = ap₂ (λ x y. x && y) (lt-up c d) (rises-up d ds)

  rising-up : (cs : List ℕ) → is_rising (up cs) ≡ is_rising cs
  rising-up [] = refl
  rising-up (c ∷ cs) = rises-up c cs

  listed-moved : (i : Instr) → has_good_list (moved b i) ≡ has_good_list i
  listed-moved (Init cells) = rising-up cells
  listed-moved (Nor t x) = refl
  listed-moved (Rm3 p q z) = refl

  apart-moved : (i : Instr) → reads_target (moved b i) ≡ reads_target i
  apart-moved (Init cells) = refl
  apart-moved (Nor t x) = ap (has (b + t)) (operands-moved x) ∙ has-up t (operands x)
  apart-moved (Rm3 p q z) = ap (has (b + z)) (pair_cells-moved p q) ∙ has-up z (operand_cells p ++ operand_cells q)

  pub valid-moved : (target : Target) (n limit : ℕ) (i : Instr) → b + n ≤ limit → IsValid target n i → IsValid target limit (moved b i)
  valid-moved target n limit i room valid = record {
    suited = suits-moved target i ∙ valid.suited;
    listed = listed-moved i ∙ valid.listed;
    within = All-same (λ (c : ℕ). c < limit) _ _ (names-moved i) (All-map (λ (c : ℕ). c < limit) (λ (c : ℕ). b + c) (names i)
        (All-weaker (λ (c : ℕ). c < n) (λ (c : ℕ). b + c < limit) (λ c low. omega arith) (names i) valid.within));
    apart = apart-moved i ∙ valid.apart;
  }

  -- ---- one step

  module _ (n : ℕ) where
    window_set : (t : ℕ) (v : Bool) (m w : List Bool) → t < n → b + n ≤ length m → InWindow b n m w → InWindow b n (set m (b + t) v) (set w t v)
    window_set t v m w low room win = record {
      long = length-set w t v ∙ win.long;
      same = λ c below. at c below (eqb_tells c t);
    }
      where
        at : (c : ℕ) → c < n → ((eqb c t ≡ true) × (c ≡ t)) ⊎ ((eqb c t ≡ false) × (c ≢ t)) → bit (set m (b + t) v) (b + c) ≡ bit (set w t v) c
        at c below (inl same) =
            let inside : t < length w = omega (arith, win.long) in
            subst (λ (k : ℕ). bit (set m (b + t) v) (b + k) ≡ bit (set w t v) k) (sym same.1)
            (get_or-set_same m (b + t) v false (omega arith) ∙ sym (get_or-set_same w t v false inside))
        at c below (inr other) =
            get_or-set_other m (b + t) (b + c) v false (λ e. other.1 (omega arith)) ∙ win.same c below ∙ sym (get_or-set_other w t c v false other.1)

    ones_window : (cells : List ℕ) (m w : List Bool) → All (λ c. c < n) cells → b + n ≤ length m → InWindow b n m w
        → InWindow b n (set_ones (up cells) m) (set_ones cells w)
    ones_window [] m w low room win = win
    ones_window (c ∷ cs) m w low room win =
        ones_window cs (set m (b + c) true) (set w c true) (All-tail (λ d. d < n) c cs low) (omega (arith, length-set m (b + c) true))
        (window_set c true m w (All-head (λ d. d < n) c cs low) room win)

    module _ (m w : List Bool) (win : InWindow b n m w) where
      any_window : (cs : List ℕ) → All (λ c. c < n) cs → list_any (bit m) (up cs) ≡ list_any (bit w) cs
      any_window [] low = refl
      any_window (c ∷ cs) low = ap₂ (λ x y. x || y) (win.same c (All-head (λ d. d < n) c cs low)) (any_window cs (All-tail (λ d. d < n) c cs low))

      value_window : (o : Operand) → All (λ c. c < n) (operand_cells o) → value m (moved_operand b o) ≡ value w o
      value_window operand.Zero low = refl
      value_window operand.One low = refl
      value_window (operand.Cell c) low = win.same c (All-head (λ d. d < n) c [] low)

    pub step_window : (i : Instr) (m w : List Bool) → All (λ c. c < n) (names i) → b + n ≤ length m → InWindow b n m w
        → InWindow b n (step m (moved b i)) (step w i)
    step_window (Init cells) m w low room win = ones_window cells m w (All-left (λ c. c < n) cells [] low) room win
    step_window (Nor t x) m w low room win =
        let target : t < n = All-head (λ c. c < n) t (operands x) low in
        let others = All-tail (λ c. c < n) t (operands x) low in
        let same : (bit m (b + t) && not (list_any (bit m) (operands (moved_ins b x)))) ≡ (bit w t && not (list_any (bit w) (operands x))) =
        ap₂ (λ y z. y && not z) (win.same t target) (ap (list_any (bit m)) (operands-moved x) ∙ any_window m w win (operands x) others) in
        subst (λ (v : Bool). InWindow b n (set m (b + t) v) (step w (Nor t x))) (sym same) (window_set t _ m w target room win)
    step_window (Rm3 p q z) m w low room win =
        let rest = operand_cells p ++ operand_cells q in
        let target : z < n = All-head (λ c. c < n) z (z ∷ rest) low in
        let others = All-tail (λ c. c < n) z rest (All-tail (λ c. c < n) z (z ∷ rest) low) in
        let same : majority (value m (moved_operand b p)) (not (value m (moved_operand b q))) (bit m (b + z)) ≡ majority (value w p) (not (value w q)) (bit w z) =
        ap₂ (λ x y. majority x (not y) (bit m (b + z)))
        (value_window m w win p (All-left (λ c. c < n) (operand_cells p) (operand_cells q) others))
        (value_window m w win q (All-right (λ c. c < n) (operand_cells p) (operand_cells q) others))
        ∙ ap (majority (value w p) (not (value w q))) (win.same z target) in
        subst (λ (v : Bool). InWindow b n (set m (b + z) v) (step w (Rm3 p q z))) (sym same) (window_set z _ m w target room win)

    -- a cell outside the window
    module _ (c : ℕ) (outside : (c < b) ⊎ (b + n ≤ c)) where
      not_in : (t : ℕ) → t < n → c ≢ b + t
      not_in t low e = elim outside [ inl before ↦ absurd (omega arith) | inr behind ↦ absurd (omega arith) ]

      set_outside : (m : List Bool) (t : ℕ) (v : Bool) → t < n → bit (set m (b + t) v) c ≡ bit m c
      set_outside m t v low = get_or-set_other m (b + t) c v false (not_in t low)

      ones_outside : (cells : List ℕ) (m : List Bool) → All (λ d. d < n) cells → bit (set_ones (up cells) m) c ≡ bit m c
      ones_outside [] m low = refl
      ones_outside (d ∷ ds) m low =
          ones_outside ds (set m (b + d) true) (All-tail (λ e. e < n) d ds low) ∙ set_outside m d true (All-head (λ e. e < n) d ds low)

      pub step_outside : (i : Instr) (m : List Bool) → All (λ d. d < n) (names i) → bit (step m (moved b i)) c ≡ bit m c
      step_outside (Init cells) m low = ones_outside cells m (All-left (λ d. d < n) cells [] low)
      step_outside (Nor t x) m low = set_outside m t _ (All-head (λ d. d < n) t (operands x) low)
      step_outside (Rm3 p q z) m low = set_outside m z _ (All-head (λ d. d < n) z (z ∷ (operand_cells p ++ operand_cells q)) low)

      -- nor does the instruction write that cell
      not_has : (cs : List ℕ) → All (λ d. d < n) cs → has c (up cs) ≡ false
      not_has [] low = refl
      not_has (d ∷ ds) low = elim (eqb_tells (b + d) c) [
        | inl same ↦ absurd (not_in d (All-head (λ e. e < n) d ds low) (sym same.1))
        | inr other ↦ ap₂ (λ x y. x || y) other.0 (not_has ds (All-tail (λ e. e < n) d ds low))
      ]

      pub not_written : (i : Instr) → All (λ d. d < n) (names i) → has c (writes (moved b i)) ≡ false
      not_written i low = ap (has c) (writes-moved i) ∙ not_has (writes i) (All-left (λ d. d < n) (writes i) (reads i) low)

length-ones : (cells : List ℕ) (m : List Bool) → length (set_ones cells m) ≡ length m
length-ones [] m = refl
length-ones (c ∷ cs) m = length-ones cs (set m c true) ∙ length-set m c true

pub length-step : (m : List Bool) (i : Instr) → length (step m i) ≡ length m
length-step m (Init cells) = length-ones cells m
length-step m (Nor t x) = length-set m t _
length-step m (Rm3 p q z) = length-set m z _
