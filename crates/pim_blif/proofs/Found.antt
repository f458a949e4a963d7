-- The numbers of names are places among them, and a name with a number below the limit is taken up.
use Rattle.std.proofs.Common.{◌≡◌, ℕ, suc, ◌<◌, ◌≤◌, Bool, true, false, cond, ltb, leb, List, [], ◌∷◌, ◌++◌, Some, None, Ok, Err, length, arith, refl, ap, sym, ◌∙◌}
use Rattle.std.proofs.lemmas.Bool.{ltb-true, lt-ltb}
use Rattle.std.proofs.lemmas.Bool.Decides.{nat_tests}
use Rattle.std.specs.Str.{bytes_eq}
use Rattle.pim_io.specs.declared.limits.TheConstants.{MAX_NAME}
use Rattle.pim_net.specs.declared.kind.Kind.TheVariants as kinds
use Rattle.pim_net.specs.declared.limits.TheConstants.{MAX_SIGNALS}
use Rattle.pim_blif.specs.declared.fault.BlifFault.TheVariants as faults
use Rattle.pim_blif.specs.Signals.{signal_number, is_known, with_name}
use Rattle.pim_blif.specs.inner.Judging.{named}
use Rattle.pim_blif.specs.inner.Reading.{number_below}

-- a name has a place among the names, or the place behind them
pub number_within : (names : List (List ℕ)) (name : List ℕ) → signal_number names name ≤ length names
number_within [] name = omega arith
number_within (known ∷ names) name =
    elim (bytes_eq known name) as (λ t. cond t 0 (suc (signal_number names name)) ≤ suc (length names)) [
      | true ↦ omega arith
      | false ↦ omega (arith, number_within names name)
    ]

below_by : (t : Bool) (n limit sig : ℕ) → t ≡ ltb n limit → Some sig ≡ cond t (Some n) None → (sig ≡ n) × (n < limit)
below_by true n limit sig t_is e = ((let same : sig ≡ n = cc in same), ltb-true n limit (cc))
below_by false n limit sig t_is e = absurd cc

-- a number at a limit or above is not below it
pub below_none : (n limit : ℕ) → limit ≤ n → None ≡ cond (ltb n limit) (Some n) None
below_none n limit high = by (ltb n limit) refl
  where
    by : (t : Bool) → ltb n limit ≡ t → None ≡ cond t (Some n) None
    by true e = let low : n < limit = ltb-true n limit e in absurd (omega arith)
    by false e = refl

pub below_some : (n limit place : ℕ) → place ≡ n → place < limit → Some place ≡ cond (ltb n limit) (Some n) None
below_some n limit place same low = ap Some same ∙ sym (ap (λ t. cond t (Some n) None) (lt-ltb n limit (omega arith)))

-- a number below a limit is the name's number
pub below_is : (limit : ℕ) (names : List (List ℕ)) (name : List ℕ) (sig : ℕ) → Some sig ≡ number_below limit names name → (sig ≡ signal_number names name) × (signal_number names name < limit)
below_is limit names name sig e = below_by (ltb (signal_number names name) limit) (signal_number names name) limit sig refl e

above_by : (t : Bool) (n limit : ℕ) → t ≡ ltb n limit → None ≡ cond t (Some n) None → limit ≤ n
above_by true n limit t_is e = absurd cc
above_by false n limit t_is e = grind (arith, nat_tests)

-- a name of a number below the limit is taken up
pub named_some : (names after : List (List ℕ)) (name : List ℕ) (sig : ℕ) → length name ≤ MAX_NAME → Some sig ≡ number_below MAX_SIGNALS names name → after ≡ with_name names name → named names name ≡ Ok after
named_some names after name sig short is same =
    by (ltb MAX_NAME (length name)) (is_known names name) (leb MAX_SIGNALS (length names)) refl refl refl
  where
    by : (long known full : Bool) → ltb MAX_NAME (length name) ≡ long → is_known names name ≡ known → leb MAX_SIGNALS (length names) ≡ full
        → cond long (Err (faults.TooLarge kinds.Name)) (cond known (Ok names) (cond full (Err (faults.TooLarge kinds.Signals)) (Ok (names ++ name ∷ [])))) ≡ Ok after
    by true known full l k f = let far : MAX_NAME < length name = ltb-true MAX_NAME (length name) l in absurd (omega arith)
    by false true full l k f = ap Ok (sym (same ∙ ap (λ b. cond b names (names ++ name ∷ [])) k))
    by false false true l k f =
        let low = (below_is MAX_SIGNALS names name sig is).1 in
        let behind : length names ≤ signal_number names name = grind (arith, nat_tests) in
        let most : MAX_SIGNALS ≤ length names = grind (arith, nat_tests) in
        absurd (omega arith)
    by false false false l k f = ap Ok (sym (same ∙ ap (λ b. cond b names (names ++ name ∷ [])) k))

-- a name of another number passes the limit of signals
pub named_none : (names : List (List ℕ)) (name : List ℕ) → length name ≤ MAX_NAME → length names ≤ MAX_SIGNALS → None ≡ number_below MAX_SIGNALS names name → named names name ≡ Err (faults.TooLarge kinds.Signals)
named_none names name short few is =
    by (ltb MAX_NAME (length name)) (is_known names name) (leb MAX_SIGNALS (length names)) refl refl refl
  where
    high : MAX_SIGNALS ≤ signal_number names name
    high = above_by (ltb (signal_number names name) MAX_SIGNALS) (signal_number names name) MAX_SIGNALS refl is

    by : (long known full : Bool) → ltb MAX_NAME (length name) ≡ long → is_known names name ≡ known → leb MAX_SIGNALS (length names) ≡ full
        → cond long (Err (faults.TooLarge kinds.Name)) (cond known (Ok names) (cond full (Err (faults.TooLarge kinds.Signals)) (Ok (names ++ name ∷ [])))) ≡ Err (faults.TooLarge kinds.Signals)
    by true known full l k f = let far : MAX_NAME < length name = ltb-true MAX_NAME (length name) l in absurd (omega arith)
    by false true full l k f =
        let among : signal_number names name < length names = ltb-true (signal_number names name) (length names) k in
        absurd (omega (arith, high))
    by false false true l k f = refl
    by false false false l k f =
        let low : length names < MAX_SIGNALS = grind (arith, nat_tests) in
        absurd (omega (arith, high, number_within names name))
