-- Cells that are taken over: the gate that takes one over is the last that needs it.
use Rattle.std.proofs.Common.{◌≡◌, ℕ, zero, suc, ◌+◌, ◌/◌, ◌%◌, ◌<◌, ◌≤◌, Bool, true, false, cond, eqb, nat_lt, ◌&&◌, ◌||◌, not, List, [], ◌∷◌, length, get_or, drop, refl, sym, ◌∙◌, ap, arith}
use Rattle.std.proofs.lemmas.Bool.{false≢true}
use Rattle.std.proofs.lemmas.Bool.Decides.{nat_tests}
use Rattle.std.proofs.lemmas.List.{drop_more}
use Rattle.pim_graph.specs.Graphs.{GraphView, has, kids_of}
use Rattle.pim_graph.specs.Orders.{order}
use Rattle.pim_graph.specs.Peaks.{needed, read_by}
use Rattle.pim_graph.specs.Readers.{occurrences, reads}
use Rattle.pim_rm3.specs.Taking.{can_be_taken}

or_lt : (a b : ℕ) (p q : Bool) → p ≡ nat_lt 0 a → q ≡ nat_lt 0 b → (p || q) ≡ nat_lt 0 (a + b)
or_lt a b p q e f = grind (arith, nat_tests)

one_lt : (b : Bool) → b ≡ nat_lt 0 (cond b 1 0)
one_lt true = refl
one_lt false = refl

has-occurrences : (xs : List ℕ) (x : ℕ) → has xs x ≡ nat_lt 0 (occurrences xs x)
has-occurrences [] x = refl
has-occurrences (y ∷ ys) x = or_lt (cond (eqb y x) 1 0) (occurrences ys x) (eqb y x) (has ys x) (one_lt (eqb y x)) (has-occurrences ys x)

lt_some : (n : ℕ) → nat_lt 0 n ≡ true → 0 < n
lt_some n h = grind (arith, nat_tests)

lt_none : (n : ℕ) → n ≡ 0 → nat_lt 0 n ≡ false
lt_none n h = grind (arith, nat_tests)

reads_drop : (v : GraphView) (xs : List ℕ) (p x : ℕ) → reads v (drop p xs) x ≤ reads v xs x
reads_drop v [] zero x = omega arith
reads_drop v [] (suc p) x = omega arith
reads_drop v (y ∷ ys) zero x = omega arith
reads_drop v (y ∷ ys) (suc p) x = let a = reads_drop v ys p x in omega arith

-- what is known of a literal whose cell can be taken over
pub record IsTakeable (inputs : ℕ) (v : GraphView) (l : ℕ) : Type 0 where
  pub even : l % 2 ≡ 0
  pub above : inputs < l / 2
  pub no_root : has v.roots l ≡ false
  pub once : reads v (order v) l ≡ 1

and_both : (a b : Bool) → (a && b) ≡ true → (a ≡ true) × (b ≡ true)
and_both true b h = (refl, h)
and_both false b h = absurd (false≢true h)

not_true : (b : Bool) → not b ≡ true → b ≡ false
not_true true h = absurd (false≢true h)
not_true false h = refl

is_eq : (a b : ℕ) → eqb a b ≡ true → a ≡ b
is_eq a b h = grind (arith, nat_tests)

is_lt : (a b : ℕ) → nat_lt a b ≡ true → a < b
is_lt a b h = grind (arith, nat_tests)

pub takeable : (inputs : ℕ) (v : GraphView) (l : ℕ) → can_be_taken inputs v l ≡ true → IsTakeable inputs v l
takeable inputs v l h =
    let R = has v.roots l in
    let E = eqb (reads v (order v) l) 1 in
    let a = and_both ((eqb (l % 2) 0 && nat_lt inputs (l / 2)) && not R) E h in
    let b = and_both (eqb (l % 2) 0 && nat_lt inputs (l / 2)) (not R) a.0 in
    let d = and_both (eqb (l % 2) 0) (nat_lt inputs (l / 2)) b.0 in
    record { even = is_eq (l % 2) 0 d.0; above = is_lt inputs (l / 2) d.1; no_root = not_true R b.1; once = is_eq (reads v (order v) l) 1 a.1 }

-- a gate is read exactly where it has reads
read_law : (v : GraphView) (readers : List ℕ) (x : ℕ) → read_by v readers x ≡ nat_lt 0 (reads v readers x)
read_law v [] x = refl
read_law v (y ∷ ys) x = or_lt (occurrences (kids_of v y) x) (reads v ys x) (has (kids_of v y) x) (read_by v ys x) (has-occurrences (kids_of v y) x) (read_law v ys x)

-- the gate of the order that reads it is the last that needs it
pub spent : (inputs : ℕ) (v : GraphView) (i c : ℕ) → IsTakeable inputs v c → i < length (order v) → has (kids_of v (get_or (order v) i 0)) c ≡ true → needed v (drop (i + 1) (order v)) c ≡ false
spent inputs v i c t h kid =
    let xs = order v in
    let l = get_or xs i 0 in
    let some = lt_some (occurrences (kids_of v l) c) (sym (has-occurrences (kids_of v l) c) ∙ kid) in
    let cut : reads v (drop i xs) c ≡ occurrences (kids_of v l) c + reads v (drop (i + 1) xs) c = ap (λ (ys : List ℕ). reads v ys c) (drop_more xs i 0 h) in
    let less = reads_drop v xs i c in
    let once = t.once in
    let none : reads v (drop (i + 1) xs) c ≡ 0 = omega arith in
    let unread : read_by v (drop (i + 1) xs) c ≡ false = read_law v (drop (i + 1) xs) c ∙ lt_none (reads v (drop (i + 1) xs) c) none in
    ap (λ (b : Bool). b || has v.roots c) unread ∙ t.no_root
