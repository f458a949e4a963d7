-- Depths, reads and cycles by the table's kind of drivers are those of the inputs and the equations.
use Rattle.std.proofs.Common.{◌≡◌, ℕ, zero, suc, Bool, true, false, not, eqb, cond, List, [], ◌∷◌, Option, Some, None, length, refl, ap, sym, ◌∙◌}
use Rattle.std.specs.Prelude.{is_some, is_none, option_map, find, slice_get}
use mathlib.Core.Path.{fun_ext}
use Rattle.pim_net.specs.Drivers.{place, sigs, driven, read, equation_of}
use Rattle.pim_net.specs.Depths.{depth, depth_below, signal_depth}
use Rattle.pim_net.specs.Faults.{first_repeat, column_without, next_signal, walk, undriven, cycle}
use Rattle.pim_net.specs.inner.Drivers.{driver, driver_by, is_nobody, driver_depth, depth_by, equation_by, next_by, cycle_by}
use Rattle.pim_net.specs.declared.parts.Equation.{Equation}
use Rattle.pim_net.specs.declared.parts.OutRef.{OutRef}
use Rattle.pim_net.proofs.Repeats.{place_is, places}
use Rattle.pim_net.proofs.Tables.{place-append, nobody_is}

-- the equation at a place, if there is a place
abbrev pub equation_at : List Equation → Option ℕ → Option Equation
equation_at es None = None
equation_at es (Some k) = slice_get es k

-- the first equation of a signal stands at the signal's first place
pub equation_is : (es : List Equation) (s : ℕ) → equation_of es s ≡ equation_at es (place s (sigs es))
equation_is [] s = refl
equation_is (e ∷ es) s = by (eqb e.sig s) (place s (sigs es)) (equation_is es s)
  where
    by : (b : Bool) (p : Option ℕ) → equation_of es s ≡ equation_at es p → cond b (Some e) (equation_of es s) ≡ equation_at (e ∷ es) (cond b (Some 0) (option_map suc p))
    by true p h = refl
    by false None h = h
    by false (Some k) h = h

-- one step of a depth
step_is : (f : ℕ → Option ℕ) (es : List Equation) (p q : Option ℕ) → signal_depth f p (equation_at es q) ≡ driver_depth f es (driver_by p q)
step_is f es (Some j) q = refl
step_is f es None None = refl
step_is f es None (Some k) = refl

depth_below_is : (inputs : List ℕ) (es : List Equation) (k s : ℕ) → depth_below inputs es k s ≡ depth_by (driver inputs es) es k s
depth_below_is inputs es zero s = refl
depth_below_is inputs es (suc k) s =
    ap (λ (f : ℕ → Option ℕ). signal_depth f (place s inputs) (equation_of es s)) (fun_ext (λ c. depth_below_is inputs es k c))
    ∙ ap (signal_depth (λ c. depth_by (driver inputs es) es k c) (place s inputs)) (equation_is es s)
    ∙ step_is (λ c. depth_by (driver inputs es) es k c) es (place s inputs) (place s (sigs es))

pub depth_is : (inputs : List ℕ) (es : List Equation) (s : ℕ) → depth inputs es s ≡ depth_by (driver inputs es) es (suc (length es)) s
depth_is inputs es s = depth_below_is inputs es (suc (length es)) s

none_is : (o : Option ℕ) → is_none o ≡ not (is_some o)
none_is None = refl
none_is (Some k) = refl

-- what nobody drives isn't among the driven
pub undriven_is : (inputs : List ℕ) (es : List Equation) (outputs : List OutRef) → undriven inputs es outputs ≡ find (λ s. is_nobody (driver inputs es s)) (read es outputs)
undriven_is inputs es outputs = ap (λ (p : ℕ → Bool). find p (read es outputs)) (fun_ext (λ s. same s))
  where
    same : (s : ℕ) → is_none (place s (driven inputs es)) ≡ is_nobody (driver inputs es s)
    same s = none_is (place s (driven inputs es)) ∙ ap not (place-append s inputs (sigs es)) ∙ sym (nobody_is (place s inputs) (place s (sigs es)))

-- where no signal has two drivers, what drives a signal is its equation, or an input
driving_is : (inputs : List ℕ) (es : List Equation) (s : ℕ) → first_repeat [] (driven inputs es) ≡ None → equation_of es s ≡ equation_by es (driver inputs es s)
driving_is inputs es s once = equation_is es s ∙ by (place s inputs) (place s (sigs es)) no_both
  where
    no_both : (j k : ℕ) → place s inputs ≡ Some j → place s (sigs es) ≡ Some k → ⊥
    no_both j k here there =
        let w = place_is s (sigs es) k there in
        let none = ap (λ n. place n inputs) (sym w.1) ∙ (places inputs (sigs es) k once w.0).0 in
        let both : Some j ≡ None = sym here ∙ none in
        (let no : ⊥ = cc in no)

    by : (p q : Option ℕ) → ((j k : ℕ) → p ≡ Some j → q ≡ Some k → ⊥) → equation_at es q ≡ equation_by es (driver_by p q)
    by None None h = refl
    by None (Some k) h = refl
    by (Some j) None h = refl
    by (Some j) (Some k) h = absurd (h j k refl refl)

pub cycle_is : (inputs : List ℕ) (es : List Equation) → first_repeat [] (driven inputs es) ≡ None → cycle inputs es ≡ cycle_by (driver inputs es) (λ s. depth_by (driver inputs es) es (suc (length es)) s) es
cycle_is inputs es once =
    let depths = λ (s : ℕ). depth_by (driver inputs es) es (suc (length es)) s in
    let same : depth inputs es ≡ depths = fun_ext (λ s. depth_is inputs es s) in
    let next : next_signal inputs es ≡ next_by (driver inputs es) depths es =
    fun_ext (λ s. ap (λ (f : ℕ → Option ℕ). column_without f (equation_of es s)) same ∙ ap (column_without depths) (driving_is inputs es s once)) in
    ap (λ (n : ℕ → Option ℕ). option_map (λ (e : Equation). walk n (suc (length es)) [] (Some e.sig)) (find (λ (e : Equation). is_none (depth inputs es e.sig)) es)) next
    ∙ ap (λ (f : ℕ → Option ℕ). option_map (λ (e : Equation). walk (next_by (driver inputs es) depths es) (suc (length es)) [] (Some e.sig)) (find (λ (e : Equation). is_none (f e.sig)) es)) same
