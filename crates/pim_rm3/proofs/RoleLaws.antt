-- What the roles are that cost least.
use Rattle.std.proofs.Common.{◌≡◌, ℕ, ◌+◌, ◌/◌, ◌%◌, ◌<◌, ◌≤◌, zero, suc, Bool, true, false, cond, eqb, nat_lt, ◌&&◌, List, [], ◌∷◌, fold, get_or, All, ap, arith, inl, inr}
use Rattle.std.proofs.lemmas.Bool.Decides.{nat_tests}
use Rattle.pim_aig.specs.declared.literal.Lit.{Lit}
use Rattle.pim_mig.specs.declared.node.Maj.{Maj}
use Rattle.pim_rm3.specs.Roles.{cheaper, first_cost, is_plain, least_of, least_role, role, role_cost, roles, second_cost, third_cost}
use Rattle.pim_rm3.specs.Schedules.{is_inverted}
use Rattle.pim_rm3.specs.declared.role.Role.{Role}
use Rattle.pim_rm3.proofs.Rows.{bool_cases}

one_of : (P : Role → Type 0) (b : Bool) (r s : Role) → P r → P s → P (cond b s r)
one_of P true r s p q = q
one_of P false r s p q = p

one_of_two : (P : Role → Type 0) (r s : Role) → P r → P s → P (cheaper r s)
one_of_two P r s p q = one_of P (nat_lt (role_cost s) (role_cost r)) r s p q

-- what holds of a role and of these holds of the first of them that costs least
least_holds : (P : Role → Type 0) (r : Role) (rs : List Role) → P r → All P rs → P (fold cheaper r rs)
least_holds P r [] p all = p
least_holds P r (s ∷ rs) p all = least_holds P (cheaper r s) rs (one_of_two P r s p (all 0 r (omega arith))) (λ k d l. all (suc k) d (omega arith))

least_of_holds : (P : Role → Type 0) (r : Role) (rs : List Role) → P r → All P rs → P (least_of r rs)
least_of_holds P r [] p all = p
least_of_holds P r (s ∷ rs) p all = least_holds P s rs (all 0 r (omega arith)) (λ k d l. all (suc k) d (omega arith))

all_roles : (P : Role → Type 0) (m : Maj) (x y z : Bool) → P (role m.x m.y m.z z) → P (role m.x m.z m.y y) → P (role m.y m.x m.z z) → P (role m.y m.z m.x x) → P (role m.z m.x m.y y) → P (role m.z m.y m.x x) → (k : ℕ) (q : Role) → k < 6 → P (get_or (roles m x y z) k q)
all_roles P m x y z a b d e f h zero q l = a
all_roles P m x y z a b d e f h (suc zero) q l = b
all_roles P m x y z a b d e f h (suc (suc zero)) q l = d
all_roles P m x y z a b d e f h (suc (suc (suc zero))) q l = e
all_roles P m x y z a b d e f h (suc (suc (suc (suc zero)))) q l = f
all_roles P m x y z a b d e f h (suc (suc (suc (suc (suc zero))))) q l = h
all_roles P m x y z a b d e f h (suc (suc (suc (suc (suc (suc k)))))) q l = absurd (omega arith)

-- what holds of all the roles holds of those that cost least
pub least_in : (P : Role → Type 0) (m : Maj) (x y z : Bool) → P (role m.x m.y m.z z) → P (role m.x m.z m.y y) → P (role m.y m.x m.z z) → P (role m.y m.z m.x x) → P (role m.z m.x m.y y) → P (role m.z m.y m.x x) → P (least_role m x y z)
least_in P m x y z a b d e f h = least_of_holds P (role m.x m.y m.z z) (roles m x y z) a (all_roles P m x y z a b d e f h)

through : (a b c : ℕ) → a ≤ b → b ≤ c → a ≤ c
through a b c h k = omega arith

first_lasts : (r s : Role) → role_cost (cheaper r s) ≤ role_cost r
first_lasts r s = elim (bool_cases (nat_lt (role_cost s) (role_cost r))) [
  | inl t ↦
      let is = ap (λ (b : Bool). role_cost (cond b s r)) t in
      let less : role_cost s < role_cost r = grind (arith, nat_tests) in
      omega arith
  | inr f ↦ let is = ap (λ (b : Bool). role_cost (cond b s r)) f in omega arith
]

second_lasts : (r s : Role) → role_cost (cheaper r s) ≤ role_cost s
second_lasts r s = elim (bool_cases (nat_lt (role_cost s) (role_cost r))) [
  | inl t ↦ let is = ap (λ (b : Bool). role_cost (cond b s r)) t in omega arith
  | inr f ↦
      let is = ap (λ (b : Bool). role_cost (cond b s r)) f in
      let less : role_cost r ≤ role_cost s = grind (arith, nat_tests) in
      omega arith
]

-- none of these costs less than the first of them that costs least
least_first : (r : Role) (rs : List Role) → role_cost (fold cheaper r rs) ≤ role_cost r
least_first r [] = omega arith
least_first r (s ∷ rs) = through (role_cost (fold cheaper (cheaper r s) rs)) (role_cost (cheaper r s)) (role_cost r) (least_first (cheaper r s) rs) (first_lasts r s)

least_each : (r : Role) (rs : List Role) → All (λ s. role_cost (fold cheaper r rs) ≤ role_cost s) rs
least_each r [] k d l = absurd (omega arith)
least_each r (s ∷ rs) zero d l = through (role_cost (fold cheaper (cheaper r s) rs)) (role_cost (cheaper r s)) (role_cost s) (least_first (cheaper r s) rs) (second_lasts r s)
least_each r (s ∷ rs) (suc k) d l = least_each (cheaper r s) rs k d (omega arith)

least_of_each : (r : Role) (rs : List Role) → All (λ s. role_cost (least_of r rs) ≤ role_cost s) rs
least_of_each r [] k d l = absurd (omega arith)
least_of_each r (s ∷ rs) zero d l = least_first s rs
least_of_each r (s ∷ rs) (suc k) d l = least_each s rs k d (omega arith)

pub least_all : (m : Maj) (x y z : Bool) → All (λ r. role_cost (least_role m x y z) ≤ role_cost r) (roles m x y z)
least_all m x y z = least_of_each (role m.x m.y m.z z) (roles m x y z)

-- the first two in turned roles
abbrev turned : Role → Role
turned r = role r.q r.p r.z r.over

least_turned : (m : Maj) (x y z : Bool) → role_cost (least_role m x y z) ≤ role_cost (turned (least_role m x y z))
least_turned m x y z =
    let at : (k : ℕ) → k < 6 → role_cost (least_role m x y z) ≤ role_cost (get_or (roles m x y z) k (least_role m x y z)) = λ k l. least_all m x y z k (least_role m x y z) l in
    least_in (λ r. role_cost (least_role m x y z) ≤ role_cost (turned r)) m x y z
    (at 2 (omega arith)) (at 4 (omega arith)) (at 0 (omega arith)) (at 5 (omega arith)) (at 1 (omega arith)) (at 3 (omega arith))

plain_not_inverted : (e : Lit) → is_plain e ≡ true → is_inverted e ≡ false
plain_not_inverted e h =
    elim (bool_cases (eqb (e.0 % 2) 1)) [
      | inl odd ↦ absurd (grind (arith, nat_tests))
      | inr even ↦ ap (λ (b : Bool). b && nat_lt 0 (e.0 / 2)) even
    ]

inverted_not_plain : (e : Lit) → is_inverted e ≡ true → is_plain e ≡ false
inverted_not_plain e h =
    elim (bool_cases (eqb (e.0 % 2) 0)) [
      | inl even ↦ absurd (grind (arith, nat_tests))
      | inr odd ↦ ap (λ (b : Bool). b && nat_lt 0 (e.0 / 2)) odd
    ]

too_many : (a b d e t : ℕ) → a ≡ 2 → b ≡ 2 → d ≡ 0 → e ≡ 0 → a + b + t ≤ d + e + t → ⊥
too_many a b d e t p q r s h = absurd (omega arith)

not_least : (r : Role) → is_inverted r.p ≡ true → is_plain r.q ≡ true → role_cost r ≤ role_cost (turned r) → ⊥
not_least r inverted plain few =
    let a : first_cost r.p ≡ 2 = ap (λ (b : Bool). cond {A = ℕ} b 2 0) inverted in
    let b : second_cost r.q ≡ 2 = ap (λ (b : Bool). cond {A = ℕ} b 2 0) plain in
    let d : first_cost r.q ≡ 0 = ap (λ (b : Bool). cond {A = ℕ} b 2 0) (plain_not_inverted r.q plain) in
    let e : second_cost r.p ≡ 0 = ap (λ (b : Bool). cond {A = ℕ} b 2 0) (inverted_not_plain r.p inverted) in
    too_many (first_cost r.p) (second_cost r.q) (first_cost r.q) (second_cost r.p) (third_cost r.over r.z) a b d e few

-- the roles that cost least want one temporary at most
pub one_temporary : (m : Maj) (x y z : Bool) → is_inverted (least_role m x y z).p ≡ true → is_plain (least_role m x y z).q ≡ true → ⊥
one_temporary m x y z inverted plain = not_least (least_role m x y z) inverted plain (least_turned m x y z)
