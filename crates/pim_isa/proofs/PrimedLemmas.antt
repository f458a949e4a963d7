-- Primed programs, read from the front and place by place.
use Rattle.std.proofs.Common.{◌≡◌, ℕ, zero, suc, Bool, false, cond, List, [], ◌∷◌, ◌++◌, take, Some, refl, ap, subst}
use Rattle.std.specs.Prelude.{slice_get, IsTrue}
use Rattle.pim_isa.specs.declared.instr.Ins.{Ins}
use Rattle.pim_isa.specs.declared.instr.Instr.{Instr}
use Rattle.pim_isa.specs.declared.instr.Instr.TheVariants.{Init, Nor, Rm3}
use Rattle.pim_isa.specs.Touches.{writes}
use Rattle.pim_isa.specs.Validity.{has}
use Rattle.pim_isa.specs.Primed.{is_init, last_write_is_init, IsPrimed, primed_after, FindsPrimed, IsPrimedFrom}

-- each NOR finds its target ready, where the cells that were ready at first count as written by an Init
abbrev PrimedFromAt : (ℕ → Bool) → List Instr → Type 0
PrimedFromAt ready is = (k t : ℕ) (ins : Ins) → slice_get is k ≡ Some (Nor t ins) → IsTrue (last_write_is_init (ready t) (take k is) t)

at_each_place : (ready : ℕ → Bool) (is : List Instr) → IsPrimedFrom ready is → PrimedFromAt ready is
at_each_place ready [] primed k t ins e = cc
at_each_place ready (i ∷ is) primed zero t ins e =
    let same : i ≡ Nor t ins = cc in
    subst (λ (j : Instr). FindsPrimed ready j) same primed.0
at_each_place ready (i ∷ is) primed (suc k) t ins e = at_each_place (primed_after ready i) is primed.1 k t ins e

finds_primed : (ready : ℕ → Bool) (i : Instr) → ((t : ℕ) (ins : Ins) → i ≡ Nor t ins → IsTrue (ready t)) → FindsPrimed ready i
finds_primed ready (Init cells) h = tt
finds_primed ready (Nor t ins) h = h t ins refl
finds_primed ready (Rm3 p q z) h = tt

from_the_front : (ready : ℕ → Bool) (is : List Instr) → PrimedFromAt ready is → IsPrimedFrom ready is
from_the_front ready [] primed = tt
from_the_front ready (i ∷ is) primed = (
  finds_primed ready i (λ t ins same. primed zero t ins (ap (λ (j : Instr). Some j) same)),
  from_the_front (primed_after ready i) is (λ k t ins e. primed (suc k) t ins e),
)

-- read from the front, with no cell ready, the definition says the same
pub primed_from_front : (is : List Instr) → IsPrimedFrom (λ _. false) is → IsPrimed is
primed_from_front is primed = at_each_place (λ _. false) is primed

pub front_from_primed : (is : List Instr) → IsPrimed is → IsPrimedFrom (λ _. false) is
front_from_primed is primed = from_the_front (λ _. false) is primed

-- the last write in a list and then in another
pub last_write_is_init-append : (b : Bool) (is js : List Instr) (c : ℕ) →
    last_write_is_init b (is ++ js) c ≡ last_write_is_init (last_write_is_init b is c) js c
last_write_is_init-append b [] js c = refl
last_write_is_init-append b (i ∷ is) js c = last_write_is_init-append (cond (has c (writes i)) (is_init i) b) is js c

-- a list and then another, which begins with the cells that the first leaves ready
pub IsPrimedFrom-append : (ready : ℕ → Bool) (is js : List Instr) →
    IsPrimedFrom ready is → IsPrimedFrom (λ c. last_write_is_init (ready c) is c) js → IsPrimedFrom ready (is ++ js)
IsPrimedFrom-append ready [] js first then = then
IsPrimedFrom-append ready (i ∷ is) js first then = (first.0, IsPrimedFrom-append (primed_after ready i) is js first.1 then)

-- one instruction more: it is no NOR, or the last write of its target is an Init
pub IsPrimed-push : (is : List Instr) (i : Instr) → IsPrimed is → FindsPrimed (λ c. last_write_is_init false is c) i → IsPrimed (is ++ i ∷ [])
IsPrimed-push is i primed finds =
    primed_from_front (is ++ i ∷ []) (IsPrimedFrom-append (λ _. false) is (i ∷ []) (front_from_primed is primed) (finds, tt))
