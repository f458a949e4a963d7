-- The gates that the outputs reach are AND nodes, and complements and constants among the outputs: so the cells that they need are
-- bounded by a count of these.
use Rattle.std.proofs.Common.{◌≡◌, ◌⊎◌, ℕ, zero, suc, ◌+◌, ◌-◌, ◌*◌, ◌/◌, ◌%◌, ◌<◌, ◌≤◌, Bool, true, false, eqb, ◌&&◌, ◌||◌, List, [], ◌∷◌, ◌++◌, length, get_or, take, filter, map, count_by, All, refl, sym, ◌∙◌, ap, arith, inl, inr, length-append}
use Rattle.std.specs.List.{IsDistinct, range_with_len}
use Rattle.std.specs.Set.{is_member}
use Rattle.std.proofs.lemmas.Bool.{false≢true}
use Rattle.std.proofs.lemmas.Bool.Decides.{nat_tests, eqb_tells, leb_tells}
use Rattle.std.proofs.lemmas.Cmp.{nat_eq_equiv}
use Rattle.std.proofs.lemmas.List.{get_or-take, length-take}
use Rattle.std.proofs.lemmas.List.Folds.{list_any-append}
use Rattle.std.proofs.lemmas.List.FromFn.{get_or-map-range_with_len, length-map-range_with_len}
use Rattle.std.proofs.lemmas.List.Sums.{length-filter}
use Rattle.std.proofs.lemmas.Map.Keys.{IsDistinct-from_apart}
use Rattle.std.proofs.lemmas.Map.Made.{is_member-filter, length-le_from_is_member}
use Rattle.pim_aig.specs.Graph.{AigView, nodes}
use Rattle.pim_graph.specs.Graphs.{has}
use Rattle.pim_graph.specs.Orders.{IsReached}
use Rattle.pim_graph.specs.Orders.IsReached.{as_root, as_child}
use Rattle.pim_graph.specs.Peaks.{IsPlaced}
use Rattle.pim_rm3.specs.Costs.{is_made}
use Rattle.pim_rm3.specs.Gates.{gate_graph, gates}
use Rattle.pim_rm3.proofs.Lists.{all_has, has_whole}
use Rattle.pim_rm3.proofs.Walks.{IsPlainAnd, kid_plain, not_input}

eqb_turned : (a b : ℕ) → eqb a b ≡ eqb b a
eqb_turned a b = grind (arith, nat_tests)

-- std's word for what a list has
member_has : (xs : List ℕ) (x : ℕ) → is_member eqb xs x ≡ has xs x
member_has [] x = refl
member_has (y ∷ ys) x = ap (λ (b : Bool). b || is_member eqb ys x) (eqb_turned x y) ∙ ap (λ (b : Bool). eqb y x || b) (member_has ys x)

or_none : (a b : Bool) → (a || b) ≡ false → (a ≡ false) × (b ≡ false)
or_none true b h = absurd (false≢true (sym h))
or_none false b h = (refl, h)

or_first : (a b : Bool) → a ≡ true → (a || b) ≡ true
or_first true b h = refl
or_first false b h = absurd (false≢true h)

or_second : (a b : Bool) → b ≡ true → (a || b) ≡ true
or_second true b h = refl
or_second false b h = h

-- what is not in a list differs from each item
differs : (xs : List ℕ) (x k d : ℕ) → has xs x ≡ false → k < length xs → eqb (get_or xs k d) x ≡ false
differs [] x k d none h = absurd (omega arith)
differs (y ∷ ys) x zero d none h = (or_none (eqb y x) (has ys x) none).0
differs (y ∷ ys) x (suc k) d none h = differs ys x k d (or_none (eqb y x) (has ys x) none).1 (omega arith)

-- an item is the same, whatever stands past the end
pub get_or_same : (xs : List ℕ) (k d e : ℕ) → k < length xs → get_or xs k d ≡ get_or xs k e
get_or_same [] k d e h = absurd (omega arith)
get_or_same (x ∷ xs) zero d e h = refl
get_or_same (x ∷ xs) (suc k) d e h = get_or_same xs k d e (omega arith)

-- an order has no gate twice
distinct : (xs : List ℕ) → ((p : ℕ) → p < length xs → has (take p xs) (get_or xs p 0) ≡ false) → IsDistinct eqb xs
distinct xs once = IsDistinct-from_apart eqb xs (λ i j d before within.
    let here : eqb (get_or (take j xs) i d) (get_or xs j 0) ≡ false = differs (take j xs) (get_or xs j 0) i d (once j within) (omega (arith, length-take j xs)) in
    ap (λ (x : ℕ). eqb (get_or xs i d) x) (get_or_same xs j d 0 within) ∙ ap (λ (x : ℕ). eqb x (get_or xs j 0)) (sym (get_or-take j xs i d before)) ∙ here)

-- the plain literals of the AND nodes
abbrev and_literals : AigView → List ℕ
and_literals g = map (λ k. 2 * k) (range_with_len (1 + g.inputs) (length g.ands))

has_and : (g : AigView) (l : ℕ) → IsPlainAnd g l → l < 2 * nodes g → has (and_literals g) l ≡ true
has_and g l and there =
    let k = l / 2 - (1 + g.inputs) in
    let within : k < length g.ands = omega (arith, and.above) in
    let at : get_or (and_literals g) k 0 ≡ 2 * (l / 2) = get_or-map-range_with_len (λ k. 2 * k) (1 + g.inputs) (length g.ands) k (l / 2) 0 within (omega (arith, and.above)) in
    let plain : 2 * (l / 2) ≡ l = omega (arith, and.even) in
    let count = length-map-range_with_len (λ k. 2 * k) (1 + g.inputs) (length g.ands) in
    ap (has (and_literals g)) (sym (at ∙ plain)) ∙ has_whole (and_literals g) k (omega arith)

-- a gate is an AND node, or a root that is a complement or a constant
abbrev IsAndOrMade : AigView → ℕ → Type 0
IsAndOrMade g l = IsPlainAnd g l ⊎ ((is_made l ≡ true) × (has (gate_graph g).roots l ≡ true))

root_kind : (g : AigView) (l : ℕ) → l < 2 * nodes g → has (gate_graph g).roots l ≡ true → IsAndOrMade g l
root_kind g l there root = elim (eqb_tells (l % 2) 1) [
  | inl odd ↦ inr (or_first (eqb (l % 2) 1) (eqb (l / 2) 0) odd.0, root)
  | inr e ↦ elim (eqb_tells (l / 2) 0) [
    | inl none ↦ inr (or_second (eqb (l % 2) 1) (eqb (l / 2) 0) none.0, root)
    | inr some ↦
        let even : l % 2 ≡ 0 = let r : l % 2 < 2 = omega arith in omega (arith, e.1) in
        elim (leb_tells (l / 2) g.inputs) [
          | inl input ↦ absurd (not_input g l there (as_root root) (omega (arith, some.1)) even input.1)
          | inr above ↦ inl (record { even = even; above = above.1 })
        ]
  ]
]

gate_kind : (g : AigView) (l : ℕ) → l < 2 * nodes g → IsReached (gate_graph g) l → IsAndOrMade g l
gate_kind g l there (as_root root) = root_kind g l there root
gate_kind g l there (as_child {reader = r} before h) = inl (kid_plain g r l h)

-- the AND nodes, and the complements and constants among the outputs
abbrev made_or_and : AigView → List ℕ
made_or_and g = and_literals g ++ filter is_made (gate_graph g).roots

made_same : (q x : ℕ) → eqb q x ≡ true → is_made q ≡ is_made x
made_same q x h = let e : q ≡ x = grind (arith, nat_tests) in ap is_made e

both_true : (a b : Bool) → a ≡ true → b ≡ true → (a && b) ≡ true
both_true true b h k = k
both_true false b h k = absurd (false≢true h)

among : (g : AigView) (l : ℕ) → l < 2 * nodes g → IsAndOrMade g l → is_member eqb (made_or_and g) l ≡ true
among g l there (inl and) =
    list_any-append (eqb l) (and_literals g) (filter is_made (gate_graph g).roots)
    ∙ or_first (is_member eqb (and_literals g) l) (is_member eqb (filter is_made (gate_graph g).roots) l) (member_has (and_literals g) l ∙ has_and g l and there)
among g l there (inr made) =
    let roots = (gate_graph g).roots in
    list_any-append (eqb l) (and_literals g) (filter is_made roots)
    ∙ or_second (is_member eqb (and_literals g) l) (is_member eqb (filter is_made roots) l)
    (is_member-filter nat_eq_equiv is_made l (made_same l) roots ∙ both_true (is_member eqb roots l) (is_made l) (member_has roots l ∙ made.1) made.0)

pub gates_within : (g : AigView) → IsPlaced (gate_graph g) (gates g) → All (IsReached (gate_graph g)) (gates g) → All (λ l. l < 2 * nodes g) (gates g) → length (gates g) ≤ length g.ands + count_by is_made (gate_graph g).roots
gates_within g placed reached there =
    let roots = (gate_graph g).roots in
    let few : length (gates g) ≤ length (made_or_and g) =
    length-le_from_is_member nat_eq_equiv (gates g) (made_or_and g) (distinct (gates g) placed.once) (λ q h.
    let in_order : has (gates g) q ≡ true = sym (member_has (gates g) q) ∙ h in
    let below : q < 2 * nodes g = all_has (λ l. l < 2 * nodes g) (gates g) q there in_order in
    among g q below (gate_kind g q below (all_has (IsReached (gate_graph g)) (gates g) q reached in_order))) in
    let ands = length-map-range_with_len (λ k. 2 * k) (1 + g.inputs) (length g.ands) in
    let made = length-filter is_made roots in
    omega (arith, length-append (and_literals g) (filter is_made roots))
