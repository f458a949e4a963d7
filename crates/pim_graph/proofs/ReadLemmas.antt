-- How often gates are read, and what that says of the gates that are held.
use Rattle.std.proofs.Common.{◌≡◌, ◌≢◌, ℕ, ◌+◌, ◌-◌, ◌*◌, ◌<◌, ◌≤◌, All, Bool, true, false, cond, eqb, nat_lt, ◌||◌, List, [], ◌∷◌, ◌++◌, length, get_or, set, drop, count_by, refl, sym, ◌∙◌, ap, arith, inl, inr}
use Rattle.std.proofs.lemmas.Bool.{cases_eq}
use Rattle.std.proofs.lemmas.Bool.Decides.{nat_tests}
use Rattle.std.proofs.lemmas.List.Sums.{sum_by-cons}
use Rattle.pim_graph.specs.Graphs.{GraphView, has, kids_of}
use Rattle.pim_graph.specs.Peaks.{needed, read_by}
use Rattle.std.proofs.lemmas.List.{get_or-set_same, get_or-set_other, drop_more, get_or_default}
use Rattle.pim_graph.specs.Readers.{occurrences, reads, still_needed}

or_lt : (a b : ℕ) (p q : Bool) → p ≡ nat_lt 0 a → q ≡ nat_lt 0 b → (p || q) ≡ nat_lt 0 (a + b)
or_lt a b p q e f = grind (arith, nat_tests)

one_lt : (b : Bool) → b ≡ nat_lt 0 (cond b 1 0)
one_lt true = refl
one_lt false = refl

pub has-occurrences : (xs : List ℕ) (x : ℕ) → has xs x ≡ nat_lt 0 (occurrences xs x)
has-occurrences [] x = refl
has-occurrences (y ∷ ys) x = or_lt (cond (eqb y x) 1 0) (occurrences ys x) (eqb y x) (has ys x) (one_lt (eqb y x)) (has-occurrences ys x)

pub read_by-reads : (g : GraphView) (ys : List ℕ) (x : ℕ) → read_by g ys x ≡ nat_lt 0 (reads g ys x)
read_by-reads g [] x = refl
read_by-reads g (y ∷ ys) x = or_lt (occurrences (kids_of g y) x) (reads g ys x) (has (kids_of g y) x) (read_by g ys x) (has-occurrences (kids_of g y) x) (read_by-reads g ys x)

-- where the reads of a gate are counted, the count tells whether it is needed
pub needed_counted : (g : GraphView) (readers left : List ℕ) (x : ℕ) → get_or left x 0 ≡ reads g readers x → still_needed g left x ≡ needed g readers x
needed_counted g readers left x is =
    ap (λ (n : ℕ). nat_lt 0 n || has g.roots x) is ∙ ap (λ (b : Bool). b || has g.roots x) (sym (read_by-reads g readers x))

-- a count of one test and of another that differs at one number
counted : (p : ℕ → Bool) (x : ℕ) (xs : List ℕ) → count_by p (x ∷ xs) ≡ cond (p x) 1 0 + count_by p xs
counted p x xs = sum_by-cons (λ v. cond (p v) 1 0) x xs

pub count_same : (p q : ℕ → Bool) → ((y : ℕ) → p y ≡ q y) → (xs : List ℕ) → count_by p xs ≡ count_by q xs
count_same p q h [] = refl
count_same p q h (x ∷ xs) =
    let a = counted p x xs in
    let b = counted q x xs in
    let d = ap (λ (v : Bool). cond {A = ℕ} v 1 0) (h x) in
    let e = count_same p q h xs in
    omega arith

pub eqb_is : (a b : ℕ) → a ≡ b → eqb a b ≡ true
eqb_is a b h = grind (arith, nat_tests)

pub eqb_not : (a b : ℕ) → a ≢ b → eqb a b ≡ false
eqb_not a b h = grind (arith, nat_tests)

pub count_differs : (p q : ℕ → Bool) (c : ℕ) → ((y : ℕ) → y ≢ c → p y ≡ q y) → p c ≡ true → q c ≡ false → (xs : List ℕ) → count_by p xs ≡ count_by q xs + occurrences xs c
count_differs p q c h yes_p no_q [] = refl
count_differs p q c h yes_p no_q (x ∷ xs) =
    let a = counted p x xs in
    let b = counted q x xs in
    let e = count_differs p q c h yes_p no_q xs in
    elim (cases_eq x c) [
      | inl same ↦
          let px : p x ≡ true = ap p same ∙ yes_p in
          let qx : q x ≡ false = ap q same ∙ no_q in
          let d = ap (λ (v : Bool). cond {A = ℕ} v 1 0) px in
          let f = ap (λ (v : Bool). cond {A = ℕ} v 1 0) qx in
          let k = ap (λ (v : Bool). cond {A = ℕ} v 1 0) (eqb_is x c same) in
          omega arith
      | inr other ↦
          let d = ap (λ (v : Bool). cond {A = ℕ} v 1 0) (h x other) in
          let k = ap (λ (v : Bool). cond {A = ℕ} v 1 0) (eqb_not x c other) in
          omega arith
    ]

pub occurrences-push : (xs : List ℕ) (x c : ℕ) → occurrences (xs ++ x ∷ []) c ≡ occurrences xs c + cond (eqb x c) 1 0
occurrences-push [] x c = omega arith
occurrences-push (y ∷ ys) x c = omega (arith, occurrences-push ys x c)

lt_true : (n : ℕ) → 0 < n → nat_lt 0 n ≡ true
lt_true n h = grind (arith, nat_tests)

lt_false : (n : ℕ) → n ≡ 0 → nat_lt 0 n ≡ false
lt_false n h = grind (arith, nat_tests)

or_true : (b c : Bool) → c ≡ true → (b || c) ≡ true
or_true true c h = refl
or_true false c h = h

true_or : (b c : Bool) → b ≡ true → (b || c) ≡ true
true_or b c h = ap (λ (x : Bool). x || c) h

-- one read is taken back from the rest of the reads
pub read_taken : (left children : List ℕ) (old : ℕ → ℕ) (n k : ℕ) → length left ≡ n → k < length children → get_or children k 0 < n → ((x : ℕ) → x < n → get_or left x 0 + occurrences children x ≡ old x + occurrences (drop k children) x) → ((x : ℕ) → x < n → occurrences children x ≤ old x) → 1 ≤ get_or left (get_or children k 0) 0
read_taken left children old n k len within there is enough =
    let c = get_or children k 0 in
    let a = is c there in
    let b = enough c there in
    let d : occurrences (drop k children) c ≡ cond (eqb c c) 1 0 + occurrences (drop (k + 1) children) c = ap (λ (xs : List ℕ). occurrences xs c) (drop_more children k 0 within) in
    let e = ap (λ (v : Bool). cond {A = ℕ} v 1 0) (eqb_is c c refl) in
    omega arith

pub read_rest : (left children : List ℕ) (old : ℕ → ℕ) (n k : ℕ) → length left ≡ n → k < length children → get_or children k 0 < n → 1 ≤ get_or left (get_or children k 0) 0 → ((x : ℕ) → x < n → get_or left x 0 + occurrences children x ≡ old x + occurrences (drop k children) x) → (x : ℕ) → x < n → get_or (set left (get_or children k 0) (get_or left (get_or children k 0) 0 - 1)) x 0 + occurrences children x ≡ old x + occurrences (drop (k + 1) children) x
read_rest left children old n k len within there some is x h =
    let c = get_or children k 0 in
    let v = get_or left c 0 - 1 in
    let a = is x h in
    let d : occurrences (drop k children) x ≡ cond (eqb c x) 1 0 + occurrences (drop (k + 1) children) x = ap (λ (xs : List ℕ). occurrences xs x) (drop_more children k 0 within) in
    elim (cases_eq x c) [
      | inl same ↦
          let e = ap (λ (b : Bool). cond {A = ℕ} b 1 0) (eqb_is c x (sym same)) in
          let f : get_or (set left c v) x 0 ≡ v = ap (λ (y : ℕ). get_or (set left c v) y 0) same ∙ get_or-set_same left c v 0 (omega arith) in
          let q : get_or left x 0 ≡ get_or left c 0 = ap (λ (y : ℕ). get_or left y 0) same in
          omega arith
      | inr ne ↦
          let e = ap (λ (b : Bool). cond {A = ℕ} b 1 0) (eqb_not c x (λ s. ne (sym s))) in
          let f = get_or-set_other left c x v 0 ne in
          omega arith
    ]

pub one_at_most : (b : Bool) → cond {A = ℕ} b 1 0 ≤ 1
one_at_most true = omega arith
one_at_most false = omega arith

pub occurrences-le : (xs : List ℕ) (x : ℕ) → occurrences xs x ≤ length xs
occurrences-le [] x = omega arith
occurrences-le (y ∷ ys) x = omega (arith, occurrences-le ys x, one_at_most (eqb y x))

-- the reads of one more gate are counted
pub reads_step : (g : GraphView) (order : List ℕ) (i : ℕ) (ks old new : List ℕ) (n : ℕ) → i < length order → ks ≡ kids_of g (get_or order i 0) → ((x : ℕ) → x < n → get_or new x 0 ≡ get_or old x 0 + occurrences ks x) → ((x : ℕ) → x < n → get_or old x 0 + reads g (drop i order) x ≡ reads g order x) → (x : ℕ) → x < n → get_or new x 0 + reads g (drop (i + 1) order) x ≡ reads g order x
reads_step g order i ks old new n h k more before x l =
    let a = more x l in
    let b = before x l in
    let d : reads g (drop i order) x ≡ occurrences (kids_of g (get_or order i 0)) x + reads g (drop (i + 1) order) x = ap (λ (ys : List ℕ). reads g ys x) (drop_more order i 0 h) in
    let e = ap (λ (xs : List ℕ). occurrences xs x) k in
    omega arith

pub reads_room : (ks old new : List ℕ) (n i : ℕ) → length old ≡ n → length new ≡ n → length ks ≤ 4 → ((x : ℕ) → x < n → get_or new x 0 ≡ get_or old x 0 + occurrences ks x) → All (λ v. v ≤ 4 * i) old → All (λ v. v ≤ 4 * (i + 1)) new
reads_room ks old new n i lo ln few more fits = λ k d l.
    let within : k < n = omega arith in
    let a = more k within in
    let b : get_or old k 0 ≤ 4 * i = fits k 0 (omega arith) in
    let e : get_or new k d ≡ get_or new k 0 = get_or_default new k d 0 l in
    omega (arith, occurrences-le ks k)
