-- Where the NORs of a program stand.
use Rattle.std.proofs.Common.{◌≡◌, ℕ, zero, suc, ◌+◌, ◌<◌, eqb, List, [], ◌∷◌, length, get_or, Some, slice_get, refl, sym, ◌∙◌, subst, arith, inl, inr}
use Rattle.std.proofs.lemmas.Bool.{cases_eq, cond-true, cond-false, eq-eqb, ne_eqb}
use Rattle.std.proofs.lemmas.Option.{none-some, same_Some}
use Rattle.pim_isa.specs.declared.instr.Ins.{Ins}
use Rattle.pim_isa.specs.declared.instr.Instr.{Instr}
use Rattle.pim_isa.specs.declared.instr.Instr.TheVariants.{Init, Nor, Rm3}
use Rattle.pim_isa.specs.Writes.{nor_places_from, nor_places}
use Rattle.pim_simpler.specs.Following.{place_of}

-- a NOR stands at the place
pub record IsNorAt (is : List Instr) (k : ℕ) : Type 0 where
  pub target : ℕ
  pub ins : Ins
  pub at : slice_get is k ≡ Some (Nor target ins)

-- a NOR stands so many places behind the first one
record IsNorBehind (is : List Instr) (from k : ℕ) : Type 0 where
  pub behind : ℕ
  pub place : k ≡ from + behind
  pub nor : IsNorAt is behind

later : (i : Instr) (is : List Instr) (from k : ℕ) → IsNorBehind is (from + 1) k → IsNorBehind (i ∷ is) from k
later i is from k n = record {
  behind = suc n.behind;
  place = omega (arith, n.place);
  nor = record { target = n.nor.target; ins = n.nor.ins; at = n.nor.at };
}

nor_places_from-nor : (is : List Instr) (from j k : ℕ) → slice_get (nor_places_from from is) j ≡ Some k → IsNorBehind is from k
nor_places_from-nor [] from j k e = absurd (none-some k e)
nor_places_from-nor (Init cells ∷ is) from j k e = later (Init cells) is from k (nor_places_from-nor is (from + 1) j k e)
nor_places_from-nor (Nor t ins ∷ is) from zero k e = record {
  behind = 0;
  place = (let same = same_Some from k e in omega arith);
  nor = record { target = t; ins = ins; at = refl };
}
nor_places_from-nor (Nor t ins ∷ is) from (suc j) k e = later (Nor t ins) is from k (nor_places_from-nor is (from + 1) j k e)
nor_places_from-nor (Rm3 p q z ∷ is) from j k e = later (Rm3 p q z) is from k (nor_places_from-nor is (from + 1) j k e)

-- what is listed as the place of a NOR is one
pub nor_places-nor : (is : List Instr) (j k : ℕ) → slice_get (nor_places is) j ≡ Some k → IsNorAt is k
nor_places-nor is j k e =
    let n = nor_places_from-nor is 0 j k e in
    let same : n.behind ≡ k = omega (arith, n.place) in
    subst (IsNorAt is) same n.nor

-- the gate and its place stand at one index
pub record IsListed (gates places : List ℕ) (g k : ℕ) : Type 0 where
  pub index : ℕ
  pub within : index < length gates
  pub gate : get_or gates index 0 ≡ g
  pub place : slice_get places index ≡ Some k

pub place_of-listed : (gates places : List ℕ) (g k : ℕ) → place_of gates places g ≡ Some k → IsListed gates places g k
place_of-listed [] places g k e = absurd (none-some k e)
place_of-listed (x ∷ xs) [] g k e = absurd (none-some k e)
place_of-listed (x ∷ xs) (q ∷ qs) g k e =
    elim (cases_eq x g) [
      | inl same ↦ record {
        index = 0;
        within = omega arith;
        gate = same;
        place = sym (cond-true (eqb x g) (Some q) (place_of xs qs g) (eq-eqb x g same)) ∙ e;
      }
      | inr other ↦
          let l = place_of-listed xs qs g k (sym (cond-false (eqb x g) (Some q) (place_of xs qs g) (ne_eqb x g other)) ∙ e) in
          record { index = suc l.index; within = omega (arith, l.within); gate = l.gate; place = l.place }
    ]
