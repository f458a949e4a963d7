-- The visit of a gate does not hang on the bound of its depth.
use Rattle.std.proofs.Common.{◌≡◌, ℕ, ◌+◌, ◌<◌, zero, suc, cond, List, [], ◌∷◌, ◌++◌, fold, refl, ◌∙◌, ap, arith}
use Rattle.pim_graph.specs.Graphs.{has}
use Rattle.pim_graph.specs.Orders.{visit, visited}

-- each of the numbers is below n
abbrev pub AreBelow : ℕ → List ℕ → Type 0
AreBelow n [] = Unit {0}
AreBelow n (x ∷ xs) = (x < n) × AreBelow n xs

-- each gate reads gates below it
abbrev pub ReadBelow : (ℕ → List ℕ) → Type 0
ReadBelow kids = (x : ℕ) → AreBelow x (kids x)

fold_same : (f g : List ℕ → ℕ → List ℕ) (n : ℕ) → ((out : List ℕ) (c : ℕ) → c < n → f out c ≡ g out c) → (cs : List ℕ) → AreBelow n cs → (out : List ℕ) → fold f out cs ≡ fold g out cs
fold_same f g n h [] b out = refl
fold_same f g n h (c ∷ cs) b out =
    ap (λ (o : List ℕ). fold f o cs) (h out c b.0) ∙ fold_same f g n h cs b.1 (g out c)

visit_same : (kids : ℕ → List ℕ) → ReadBelow kids → (n m x : ℕ) (out : List ℕ) → x < n → x < m → visit kids n out x ≡ visit kids m out x
visit_same kids below zero m x out h k = absurd (omega arith)
visit_same kids below (suc n) zero x out h k = absurd (omega arith)
visit_same kids below (suc n) (suc m) x out h k =
    ap (λ (o : List ℕ). cond (has out x) out (o ++ x ∷ [])) (fold_same (visit kids n) (visit kids m) x (λ o c l. visit_same kids below n m c o (omega arith) (omega arith)) (kids x) (below x) out)

-- a gate that was not emitted comes after the visits of its children
pub visited_is : (kids : ℕ → List ℕ) → ReadBelow kids → (out : List ℕ) (x : ℕ) → visited kids out x ≡ cond (has out x) out (fold (visited kids) out (kids x) ++ x ∷ [])
visited_is kids below out x =
    ap (λ (o : List ℕ). cond (has out x) out (o ++ x ∷ [])) (fold_same (visit kids x) (visited kids) x (λ o c l. visit_same kids below x (suc c) c o l (omega arith)) (kids x) (below x) out)

-- how many steps visits of some gates take, one after another
abbrev pub sum_along : (List ℕ → ℕ → List ℕ) → (List ℕ → ℕ → ℕ) → List ℕ → List ℕ → ℕ
sum_along f g out [] = 0
sum_along f g out (c ∷ cs) = g out c + sum_along f g (f out c) cs

-- how many steps the visit of a gate takes
abbrev pub cost : (ℕ → List ℕ) → ℕ → List ℕ → ℕ → ℕ
cost kids zero out x = 1
cost kids (suc n) out x = cond (has out x) 1 (2 + sum_along (visit kids n) (cost kids n) out (kids x))

abbrev pub visit_cost : (ℕ → List ℕ) → List ℕ → ℕ → ℕ
visit_cost kids out x = cost kids (suc x) out x

sum_same : (f f' : List ℕ → ℕ → List ℕ) (g g' : List ℕ → ℕ → ℕ) (n : ℕ) → ((out : List ℕ) (c : ℕ) → c < n → f out c ≡ f' out c) → ((out : List ℕ) (c : ℕ) → c < n → g out c ≡ g' out c) → (cs : List ℕ) → AreBelow n cs → (out : List ℕ) → sum_along f g out cs ≡ sum_along f' g' out cs
sum_same f f' g g' n h k [] b out = refl
sum_same f f' g g' n h k (c ∷ cs) b out =
    ap (λ (m : ℕ). m + sum_along f g (f out c) cs) (k out c b.0) ∙ (ap (λ (o : List ℕ). g' out c + sum_along f g o cs) (h out c b.0) ∙ ap (λ (m : ℕ). g' out c + m) (sum_same f f' g g' n h k cs b.1 (f' out c)))

cost_same : (kids : ℕ → List ℕ) → ReadBelow kids → (n m x : ℕ) (out : List ℕ) → x < n → x < m → cost kids n out x ≡ cost kids m out x
cost_same kids below zero m x out h k = absurd (omega arith)
cost_same kids below (suc n) zero x out h k = absurd (omega arith)
cost_same kids below (suc n) (suc m) x out h k =
    ap (λ (s : ℕ). cond (has out x) 1 (2 + s)) (sum_same (visit kids n) (visit kids m) (cost kids n) (cost kids m) x (λ o c l. visit_same kids below n m c o (omega arith) (omega arith)) (λ o c l. cost_same kids below n m c o (omega arith) (omega arith)) (kids x) (below x) out)

pub visit_cost_is : (kids : ℕ → List ℕ) → ReadBelow kids → (out : List ℕ) (x : ℕ) → visit_cost kids out x ≡ cond (has out x) 1 (2 + sum_along (visited kids) (visit_cost kids) out (kids x))
visit_cost_is kids below out x =
    ap (λ (s : ℕ). cond (has out x) 1 (2 + s)) (sum_same (visit kids x) (visited kids) (cost kids x) (visit_cost kids) x (λ o c l. visit_same kids below x (suc c) c o l (omega arith)) (λ o c l. cost_same kids below x (suc c) c o l (omega arith)) (kids x) (below x) out)
