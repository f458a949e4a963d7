-- The key of a node tells what it reads, in either order.
use Rattle.std.proofs.Common.{◌≡◌, ◌⊎◌, ℕ, suc, ◌+◌, ◌<◌, min, max, Bool, true, false, cond, eqb, not, ◌&&◌, ◌||◌, List, [], ◌∷◌, ◌++◌, length, map, refl, sym, ◌∙◌, ap, arith, inl, inr}
use Rattle.std.specs.List.{list_any, position_or_len}
use Rattle.std.proofs.lemmas.Bool.{false≢true}
use Rattle.std.proofs.lemmas.Bool.Decides.{nat_tests, eqb_tells}
use Rattle.std.proofs.lemmas.List.{length-map}
use Rattle.pim_aig.specs.declared.graph.And.{And}
use Rattle.pim_tidy.specs.declared.pair.Pair.{Pair}
use Rattle.pim_tidy.specs.Tidied.{place_of, same_operands}
use Rattle.pim_tidy.specs.inner.Pairs.{pair_of}

bool_cases : (b : Bool) → (b ≡ true) ⊎ (b ≡ false)
bool_cases true = inl refl
bool_cases false = inr refl

eqb_yes : (m n : ℕ) → m ≡ n → eqb m n ≡ true
eqb_yes m n e = grind (arith, nat_tests)

eqb_is : (m n : ℕ) → eqb m n ≡ true → m ≡ n
eqb_is m n e = grind (arith, nat_tests)

both : (a b : Bool) → (a && b) ≡ true → (a ≡ true) × (b ≡ true)
both true b h = (refl, h)
both false b h = absurd (false≢true h)

both_yes : (a b : Bool) → a ≡ true → b ≡ true → (a && b) ≡ true
both_yes true b h k = k
both_yes false b h k = absurd (false≢true h)

either : (a b : Bool) → (a || b) ≡ true → (a ≡ true) ⊎ (b ≡ true)
either true b h = inl refl
either false b h = inr h

or_first : (a b : Bool) → a ≡ true → (a || b) ≡ true
or_first true b h = refl
or_first false b h = absurd (false≢true h)

or_second : (a b : Bool) → b ≡ true → (a || b) ≡ true
or_second true b h = refl
or_second false b h = h

same_bool : (a b : Bool) → (a ≡ true → b ≡ true) → (b ≡ true → a ≡ true) → a ≡ b
same_bool true b f g = sym (f refl)
same_bool false true f g = g refl
same_bool false false f g = refl

-- two pairs of numbers have the same lesser and greater one where they are the same in either order
pub same_numbers : (p q r s : ℕ) → (eqb (min p q) (min r s) && eqb (max p q) (max r s)) ≡ ((eqb r p && eqb s q) || (eqb r q && eqb s p))
same_numbers p q r s = same_bool (eqb (min p q) (min r s) && eqb (max p q) (max r s)) ((eqb r p && eqb s q) || (eqb r q && eqb s p))
    (λ h.
    let b = both (eqb (min p q) (min r s)) (eqb (max p q) (max r s)) h in
    let low = eqb_is (min p q) (min r s) b.0 in
    let high = eqb_is (max p q) (max r s) b.1 in
    elim (eqb_tells r p) [
      | inl e ↦ let f : s ≡ q = omega (arith, low, high, e.1) in or_first (eqb r p && eqb s q) (eqb r q && eqb s p) (both_yes (eqb r p) (eqb s q) e.0 (eqb_yes s q f))
      | inr o ↦
          let f : r ≡ q = omega (arith, low, high, o.1) in
          let g : s ≡ p = omega (arith, low, high, o.1) in
          or_second (eqb r p && eqb s q) (eqb r q && eqb s p) (both_yes (eqb r q) (eqb s p) (eqb_yes r q f) (eqb_yes s p g))
    ])
    (λ h. elim (either (eqb r p && eqb s q) (eqb r q && eqb s p) h) [
      | inl a ↦
          let b = both (eqb r p) (eqb s q) a in
          let e = eqb_is r p b.0 in
          let f = eqb_is s q b.1 in
          both_yes (eqb (min p q) (min r s)) (eqb (max p q) (max r s)) (eqb_yes (min p q) (min r s) (omega arith)) (eqb_yes (max p q) (max r s) (omega arith))
      | inr a ↦
          let b = both (eqb r q) (eqb s p) a in
          let e = eqb_is r q b.0 in
          let f = eqb_is s p b.1 in
          both_yes (eqb (min p q) (min r s)) (eqb (max p q) (max r s)) (eqb_yes (min p q) (min r s) (omega arith)) (eqb_yes (max p q) (max r s) (omega arith))
    ])

-- a test passes the key of each node that reads what this one does, and no others
abbrev pub Tests : (Pair → Bool) → And → Type 0
Tests p a = (b : And) → p (pair_of b) ≡ same_operands b a

pub place_at : (p : Pair → Bool) (ands : List And) (a : And) → Tests p a → position_or_len p (map pair_of ands) ≡ place_of ands a
place_at p [] a tests = refl
place_at p (b ∷ bs) a tests = elim (bool_cases (p (pair_of b))) [
  | inl t ↦
      ap (λ (v : Bool). cond (not v) (1 + position_or_len p (map pair_of bs)) 0) t
      ∙ sym (ap (λ (v : Bool). cond v 0 (suc (place_of bs a))) (sym (tests b) ∙ t))
  | inr f ↦
      let rest = place_at p bs a tests in
      ap (λ (v : Bool). cond (not v) (1 + position_or_len p (map pair_of bs)) 0) f
      ∙ (let e : 1 + position_or_len p (map pair_of bs) ≡ suc (place_of bs a) = omega arith in e)
      ∙ sym (ap (λ (v : Bool). cond v 0 (suc (place_of bs a))) (sym (tests b) ∙ f))
]

any_at : (p : Pair → Bool) (xs : List Pair) → position_or_len p xs < length xs → list_any p xs ≡ true
any_at p [] h = absurd (omega arith)
any_at p (x ∷ xs) h = elim (bool_cases (p x)) [
  | inl t ↦ ap (λ (v : Bool). v || list_any p xs) t
  | inr f ↦
      let at : position_or_len p (x ∷ xs) ≡ 1 + position_or_len p xs = ap (λ (v : Bool). cond (not v) (1 + position_or_len p xs) 0) f in
      ap (λ (v : Bool). v || list_any p xs) f ∙ any_at p xs (omega arith)
]

none_at : (p : Pair → Bool) (xs : List Pair) → position_or_len p xs ≡ length xs → list_any p xs ≡ false
none_at p [] h = refl
none_at p (x ∷ xs) h = elim (bool_cases (p x)) [
  | inl t ↦ let at : position_or_len p (x ∷ xs) ≡ 0 = ap (λ (v : Bool). cond (not v) (1 + position_or_len p xs) 0) t in absurd (omega arith)
  | inr f ↦
      let at : position_or_len p (x ∷ xs) ≡ 1 + position_or_len p xs = ap (λ (v : Bool). cond (not v) (1 + position_or_len p xs) 0) f in
      ap (λ (v : Bool). v || list_any p xs) f ∙ none_at p xs (omega arith)
]

-- the place at which a key is entered, and the keys after that
pub entered : (p : Pair → Bool) (keys : List Pair) (ands : List And) (a : And) (place : ℕ) → Tests p a → keys ≡ map pair_of ands → place ≡ position_or_len p keys → place ≡ place_of ands a
entered p keys ands a place tests same is = is ∙ ap (position_or_len p) same ∙ place_at p ands a tests

pub keys_found : (p : Pair → Bool) (keys after : List Pair) (ands : List And) (k : Pair) (place : ℕ) → keys ≡ map pair_of ands → place ≡ position_or_len p keys → after ≡ cond (list_any p keys) keys (keys ++ k ∷ []) → place < length ands → after ≡ map pair_of ands
keys_found p keys after ands k place same is new h =
    let count : length keys ≡ length ands = ap (λ (xs : List Pair). length xs) same ∙ length-map ands pair_of in
    new ∙ ap (λ (v : Bool). cond v keys (keys ++ k ∷ [])) (any_at p keys (omega arith)) ∙ same

-- the fields of a key are those of the node's operands
pub key_tests : (k : Pair) (a : And) → k ≡ pair_of a → (b : And) → (eqb k.low (pair_of b).low && eqb k.high (pair_of b).high) ≡ same_operands b a
key_tests k a is b =
    ap (λ (q : Pair). eqb q.low (pair_of b).low && eqb q.high (pair_of b).high) is ∙ same_numbers a.x.0 a.y.0 b.x.0 b.y.0
