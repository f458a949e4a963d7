-- The first of the shortest programs, of two lists of networks and of both together.
use Rattle.std.proofs.Common.{◌≡◌, ℕ, ◌+◌, ◌<◌, ◌≤◌, Bool, true, false, if◌then◌else◌, List, [], ◌∷◌, ◌++◌, length, Option, Some, None, inl, inr, refl, sym, arith}
use Rattle.std.specs.Prelude.{All, nat_lt}
use Rattle.std.proofs.lemmas.Bool.{ltb-true, ltb-false}
use Rattle.std.proofs.lemmas.List.Elements.{All-append, All-cons, All-head, All-nil, All-tail, All-weaker}
use Rattle.pim_isa.specs.Programs.{ProgramView}
use Rattle.pim_nor.specs.Network.{NorView}
use Rattle.pim_simpler.specs.Needs.{needed_of}
use Rattle.pim_compile.specs.Choices.{FitsInNoFewer, IsFirst}
use Rattle.pim_compile.specs.Cycles.{IsQuickBy}
use Rattle.pim_compile.specs.inner.Candidates.{IsBest, IsRoomy, IsTooWide, shorter}

module _ (IsOf : NorView → ProgramView → Type 0) (budget : ℕ) where
  -- a network that does not fit is not spoken of
  silent : (cycles : ℕ) (w : NorView) → IsTooWide budget w → FitsInNoFewer IsOf budget cycles w
  silent cycles w wide = λ fits. absurd (let z : ⊥ = omega (arith, wide.below) in z)

  all_silent : (cycles : ℕ) (ws : List NorView) → All (IsTooWide budget) ws → All (FitsInNoFewer IsOf budget cycles) ws
  all_silent cycles ws wide = All-weaker (IsTooWide budget) (FitsInNoFewer IsOf budget cycles) (silent cycles) ws wide

  fewer_too : (most least : ℕ) (w : NorView) → least ≤ most → FitsInNoFewer IsOf budget most w → FitsInNoFewer IsOf budget least w
  fewer_too most least w few h = λ fits.
      let found = h fits in
      record { other = found.other; is = found.is; no_fewer = omega (arith, found.no_fewer) }

  all_fewer_too : (most least : ℕ) (ws : List NorView) → least ≤ most → All (FitsInNoFewer IsOf budget most) ws → All (FitsInNoFewer IsOf budget least) ws
  all_fewer_too most least ws few h =
      All-weaker (FitsInNoFewer IsOf budget most) (FitsInNoFewer IsOf budget least) (λ w k. fewer_too most least w few k) ws h

  -- the first of the shortest takes no more cycles than any of them
  pub no_fewer : (ws : List NorView) (p : ProgramView) → IsFirst IsOf budget ws p → All (FitsInNoFewer IsOf budget (length p.instrs)) ws
  no_fewer [] p first = absurd first
  no_fewer (w ∷ ws) p first = elim first [
    | inl here ↦
        All-cons (FitsInNoFewer IsOf budget (length p.instrs)) w ws
        (λ fits. record { other = p; is = here.0; no_fewer = omega arith }) here.1
    | inr later ↦
        All-cons (FitsInNoFewer IsOf budget (length p.instrs)) w ws
        (fewer_too (length p.instrs + 1) (length p.instrs) w (omega arith) later.0) (no_fewer ws p later.1)
  ]

  -- with more networks behind, of which none takes fewer cycles
  with_more : (ws vs : List NorView) (p : ProgramView) → IsFirst IsOf budget ws p → All (FitsInNoFewer IsOf budget (length p.instrs)) vs → IsFirst IsOf budget (ws ++ vs) p
  with_more [] vs p first none = absurd first
  with_more (w ∷ ws) vs p first none = elim first [
    | inl here ↦ inl (here.0, All-append (FitsInNoFewer IsOf budget (length p.instrs)) ws vs here.1 none)
    | inr later ↦ inr (later.0, with_more ws vs p later.1 none)
  ]

  -- with more networks before, which all take more cycles
  behind_more : (ws vs : List NorView) (p : ProgramView) → All (FitsInNoFewer IsOf budget (length p.instrs + 1)) ws → IsFirst IsOf budget vs p → IsFirst IsOf budget (ws ++ vs) p
  behind_more [] vs p more first = first
  behind_more (w ∷ ws) vs p more first =
      inr (
        All-head (FitsInNoFewer IsOf budget (length p.instrs + 1)) w ws more,
        behind_more ws vs p (All-tail (FitsInNoFewer IsOf budget (length p.instrs + 1)) w ws more) first,
      )

  roomy_too : (ws : List NorView) → All (IsTooWide budget) ws → All (IsRoomy budget) ws
  roomy_too ws wide = All-weaker (IsTooWide budget) (IsRoomy budget) (λ w h. h.roomy) ws wide

  all_roomy : (ws : List NorView) (r : Option ProgramView) → IsBest IsOf budget ws r → All (IsRoomy budget) ws
  all_roomy ws None best = roomy_too ws best
  all_roomy ws (Some p) best = best.1

  -- the shorter of two programs, by whether the second has fewer cycles
  shorter_first : (b : Bool) (ws vs : List NorView) (p q : ProgramView) → b ≡ nat_lt (length q.instrs) (length p.instrs) →
      IsBest IsOf budget ws (Some p) → IsBest IsOf budget vs (Some q) → IsBest IsOf budget (ws ++ vs) (Some (if b then q else p))
  shorter_first true ws vs p q is here there =
      let less : length q.instrs < length p.instrs = ltb-true (length q.instrs) (length p.instrs) (sym is) in (
        behind_more ws vs q (all_fewer_too (length p.instrs) (length q.instrs + 1) ws (omega arith) (no_fewer ws p here.0)) there.0,
        All-append (IsRoomy budget) ws vs here.1 there.1,
      )
  shorter_first false ws vs p q is here there =
      let more : length p.instrs ≤ length q.instrs = ltb-false (length q.instrs) (length p.instrs) (sym is) in (
        with_more ws vs p here.0 (all_fewer_too (length q.instrs) (length p.instrs) vs more (no_fewer vs q there.0)),
        All-append (IsRoomy budget) ws vs here.1 there.1,
      )

  -- the best of two lists is the best of both together
  pub both_best : (ws vs : List NorView) (r s : Option ProgramView) → IsBest IsOf budget ws r → IsBest IsOf budget vs s → IsBest IsOf budget (ws ++ vs) (shorter r s)
  both_best ws vs None None here there = All-append (IsTooWide budget) ws vs here there
  both_best ws vs None (Some q) here there =
      (behind_more ws vs q (all_silent (length q.instrs + 1) ws here) there.0, All-append (IsRoomy budget) ws vs (roomy_too ws here) there.1)
  both_best ws vs (Some p) None here there =
      (with_more ws vs p here.0 (all_silent (length p.instrs) vs there), All-append (IsRoomy budget) ws vs here.1 (roomy_too vs there))
  both_best ws vs (Some p) (Some q) here there =
      shorter_first (nat_lt (length q.instrs) (length p.instrs)) ws vs p q refl here there

  -- of one network
  pub one_best : (w : NorView) (p : ProgramView) → IsOf w p → needed_of w ≤ budget → IsBest IsOf budget (w ∷ []) (Some p)
  one_best w p is enough =
      (inl (is, All-nil (FitsInNoFewer IsOf budget (length p.instrs))), All-cons (IsRoomy budget) w [] (λ room. enough) (All-nil (IsRoomy budget)))

  pub one_wide : (w : NorView) → IsTooWide budget w → IsBest IsOf budget (w ∷ []) None
  one_wide w wide = All-cons (IsTooWide budget) w [] wide (All-nil (IsTooWide budget))

-- what holds of the programs of each network
module _ (IsOf IsToo : NorView → ProgramView → Type 0) (same : (w : NorView) (p : ProgramView) → IsOf w p → IsToo w p) (budget : ℕ) where
  no_fewer_too : (cycles : ℕ) (w : NorView) → FitsInNoFewer IsOf budget cycles w → FitsInNoFewer IsToo budget cycles w
  no_fewer_too cycles w h = λ fits.
      let found = h fits in
      record { other = found.other; is = same w found.other found.is; no_fewer = found.no_fewer }

  pub first_too : (ws : List NorView) (p : ProgramView) → IsFirst IsOf budget ws p → IsFirst IsToo budget ws p
  first_too [] p first = first
  first_too (w ∷ ws) p first = elim first [
    | inl here ↦
        inl (
          same w p here.0,
          All-weaker (FitsInNoFewer IsOf budget (length p.instrs)) (FitsInNoFewer IsToo budget (length p.instrs)) (no_fewer_too (length p.instrs)) ws here.1,
        )
    | inr later ↦ inr (no_fewer_too (length p.instrs + 1) w later.0, first_too ws p later.1)
  ]

  pub best_too : (ws : List NorView) (r : Option ProgramView) → IsBest IsOf budget ws r → IsBest IsToo budget ws r
  best_too ws None best = best
  best_too ws (Some p) best = (first_too ws p best.0, best.1)

-- the program is of one of the networks
pub first_of : (IsOf : NorView → ProgramView → Type 0) (budget : ℕ) (Q : NorView → Type 0) (p : ProgramView) (R : Type 0) (ws : List NorView) → ((w : NorView) → IsOf w p → Q w → R) → All Q ws → IsFirst IsOf budget ws p → R
first_of IsOf budget Q p R [] gives all first = absurd first
first_of IsOf budget Q p R (w ∷ ws) gives all first = elim first [
  | inl here ↦ gives w here.0 (All-head Q w ws all)
  | inr later ↦ first_of IsOf budget Q p R ws gives (All-tail Q w ws all) later.1
]

-- a program that is among the shortest is as quick as each network allows
pub quick_each : (IsOf : NorView → ProgramView → Type 0) (budget : ℕ) → ((w : NorView) (p : ProgramView) → IsOf w p → IsQuickBy budget p w) → (ws : List NorView) (p : ProgramView) → IsBest IsOf budget ws (Some p) → All (IsQuickBy budget p) ws
quick_each IsOf budget quick ws p best =
    let one : (w : NorView) → IsRoomy budget w → FitsInNoFewer IsOf budget (length p.instrs) w → IsQuickBy budget p w =
    λ w roomy none room. (let found = none (roomy room) in omega (arith, found.no_fewer, quick w found.other found.is room)) in
    λ k d within. one _ (best.1 k d within) (no_fewer IsOf budget ws p best.0 k d within)
