-- What a stack of steps has still to do.
use Rattle.std.proofs.Common.{◌≡◌, ℕ, ◌+◌, ◌-◌, ◌<◌, ◌≤◌, suc, All, get_or, drop, Bool, true, false, cond, List, [], ◌∷◌, ◌++◌, length, fold, map, reverse, refl, sym, ◌∙◌, ap, subst, arith, append_assoc, append-nil}
use Rattle.std.proofs.lemmas.List.{reverse-append, map-append, drop_more}
use Rattle.pim_graph.specs.Graphs.{has}
use Rattle.pim_graph.specs.Orders.{visited}
use Rattle.pim_graph.specs.declared.walk.Step.{Step}
use Rattle.pim_graph.specs.declared.walk.Step.TheVariants.{Visit, Emit}
use Rattle.pim_graph.proofs.Visits.{ReadBelow, visited_is, sum_along, visit_cost, visit_cost_is}

-- what one step leaves
abbrev pub taken : (ℕ → List ℕ) → Step → List ℕ → List ℕ
taken kids (Visit x) out = visited kids out x
taken kids (Emit x) out = out ++ x ∷ []

-- what all steps leave, the last one of the list taken first
abbrev pub finish : (ℕ → List ℕ) → List Step → List ℕ → List ℕ
finish kids [] out = out
finish kids (t ∷ ts) out = taken kids t (finish kids ts out)

abbrev pub step_cost : (ℕ → List ℕ) → Step → List ℕ → ℕ
step_cost kids (Visit x) out = visit_cost kids out x
step_cost kids (Emit x) out = 1

-- how many steps are left
abbrev pub work : (ℕ → List ℕ) → List Step → List ℕ → ℕ
work kids [] out = 0
work kids (t ∷ ts) out = work kids ts out + step_cost kids t (finish kids ts out)

pub finish-push : (kids : ℕ → List ℕ) (ts : List Step) (t : Step) (out : List ℕ) → finish kids (ts ++ t ∷ []) out ≡ finish kids ts (taken kids t out)
finish-push kids [] t out = refl
finish-push kids (s ∷ ts) t out = ap (taken kids s) (finish-push kids ts t out)

pub work-push : (kids : ℕ → List ℕ) (ts : List Step) (t : Step) (out : List ℕ) → work kids (ts ++ t ∷ []) out ≡ step_cost kids t out + work kids ts (taken kids t out)
work-push kids [] t out = omega arith
work-push kids (s ∷ ts) t out =
    let a = work-push kids ts t out in
    let b = ap (step_cost kids s) (finish-push kids ts t out) in
    omega arith

visits-cons : (ts : List Step) (x : ℕ) (xs : List ℕ) → ts ++ map Visit (reverse (x ∷ xs)) ≡ (ts ++ map Visit (reverse xs)) ++ Visit x ∷ []
visits-cons ts x xs =
    ap (λ (ys : List ℕ). ts ++ map Visit ys) (reverse-append (x ∷ []) xs) ∙ (ap (λ (s : List Step). ts ++ s) (map-append Visit (reverse xs) (x ∷ [])) ∙ sym (append_assoc ts (map Visit (reverse xs)) (Visit x ∷ [])))

-- visits on top come first
pub finish-visits : (kids : ℕ → List ℕ) (ts : List Step) (xs : List ℕ) (out : List ℕ) → finish kids (ts ++ map Visit (reverse xs)) out ≡ finish kids ts (fold (visited kids) out xs)
finish-visits kids ts [] out = ap (λ (s : List Step). finish kids s out) (append-nil ts)
finish-visits kids ts (x ∷ xs) out =
    ap (λ (s : List Step). finish kids s out) (visits-cons ts x xs) ∙ (finish-push kids (ts ++ map Visit (reverse xs)) (Visit x) out ∙ finish-visits kids ts xs (visited kids out x))

pub work-visits : (kids : ℕ → List ℕ) (ts : List Step) (xs : List ℕ) (out : List ℕ) → work kids (ts ++ map Visit (reverse xs)) out ≡ sum_along (visited kids) (visit_cost kids) out xs + work kids ts (fold (visited kids) out xs)
work-visits kids ts [] out = ap (λ (s : List Step). work kids s out) (append-nil ts) ∙ omega arith
work-visits kids ts (x ∷ xs) out =
    let a = ap (λ (s : List Step). work kids s out) (visits-cons ts x xs) in
    let b = work-push kids (ts ++ map Visit (reverse xs)) (Visit x) out in
    let d = work-visits kids ts xs (visited kids out x) in
    omega arith

-- a gate that was emitted is passed over
pub finish-skip : (kids : ℕ → List ℕ) → ReadBelow kids → (ts : List Step) (x : ℕ) (out : List ℕ) → has out x ≡ true → finish kids (ts ++ Visit x ∷ []) out ≡ finish kids ts out
finish-skip kids below ts x out h =
    finish-push kids ts (Visit x) out ∙ ap (finish kids ts) (visited_is kids below out x ∙ ap (λ (b : Bool). cond b out (fold (visited kids) out (kids x) ++ x ∷ [])) h)

pub work-skip : (kids : ℕ → List ℕ) → ReadBelow kids → (ts : List Step) (x : ℕ) (out : List ℕ) → has out x ≡ true → work kids ts out < work kids (ts ++ Visit x ∷ []) out
work-skip kids below ts x out h =
    let same : visited kids out x ≡ out = visited_is kids below out x ∙ ap (λ (b : Bool). cond b out (fold (visited kids) out (kids x) ++ x ∷ [])) h in
    let one : visit_cost kids out x ≡ 1 = visit_cost_is kids below out x ∙ ap (λ (b : Bool). cond b 1 (2 + sum_along (visited kids) (visit_cost kids) out (kids x))) h in
    let a = work-push kids ts (Visit x) out in
    let b = ap (work kids ts) same in
    omega arith

-- any other gate is emitted after its children
pub finish-into : (kids : ℕ → List ℕ) → ReadBelow kids → (ts : List Step) (x : ℕ) (out : List ℕ) → has out x ≡ false → finish kids ((ts ++ Emit x ∷ []) ++ map Visit (reverse (kids x))) out ≡ finish kids (ts ++ Visit x ∷ []) out
finish-into kids below ts x out h =
    let after = fold (visited kids) out (kids x) in
    finish-visits kids (ts ++ Emit x ∷ []) (kids x) out ∙ (finish-push kids ts (Emit x) after ∙ (ap (finish kids ts) (sym (visited_is kids below out x ∙ ap (λ (b : Bool). cond b out (after ++ x ∷ [])) h)) ∙ sym (finish-push kids ts (Visit x) out)))

pub work-into : (kids : ℕ → List ℕ) → ReadBelow kids → (ts : List Step) (x : ℕ) (out : List ℕ) → has out x ≡ false → work kids ((ts ++ Emit x ∷ []) ++ map Visit (reverse (kids x))) out < work kids (ts ++ Visit x ∷ []) out
work-into kids below ts x out h =
    let after = fold (visited kids) out (kids x) in
    let same : visited kids out x ≡ after ++ x ∷ [] = visited_is kids below out x ∙ ap (λ (b : Bool). cond b out (after ++ x ∷ [])) h in
    let two : visit_cost kids out x ≡ 2 + sum_along (visited kids) (visit_cost kids) out (kids x) = visit_cost_is kids below out x ∙ ap (λ (b : Bool). cond b 1 (2 + sum_along (visited kids) (visit_cost kids) out (kids x))) h in
    let a = work-visits kids (ts ++ Emit x ∷ []) (kids x) out in
    let b = work-push kids ts (Emit x) after in
    let d = work-push kids ts (Visit x) out in
    let e = ap (work kids ts) same in
    omega arith

-- one more visit on top
pub push_visited : (gates : List ℕ) (base stack more : List Step) (k : ℕ) → 0 < k → k ≤ length gates → stack ≡ base ++ map Visit (reverse (drop k gates)) → more ≡ stack ++ Visit (get_or gates (k - 1) 0) ∷ [] → more ≡ base ++ map Visit (reverse (drop (k - 1) gates))
push_visited gates base stack more k some fits before pushed =
    let x = get_or gates (k - 1) 0 in
    let e : k - 1 + 1 ≡ k = omega arith in
    let here : k - 1 < length gates = omega arith in
    let cut : drop (k - 1) gates ≡ x ∷ drop k gates = drop_more gates (k - 1) 0 here ∙ ap (λ (n : ℕ). x ∷ drop n gates) e in
    pushed ∙ (ap (λ (s : List Step). s ++ Visit x ∷ []) before ∙ (sym (visits-cons base x (drop k gates)) ∙ ap (λ (xs : List ℕ). base ++ map Visit (reverse xs)) (sym cut)))

-- each step is of one of the first n gates
abbrev pub IsStepBelow : ℕ → Step → Type 0
IsStepBelow n (Visit x) = x < n
IsStepBelow n (Emit x) = x < n

abbrev pub AreStepsBelow : ℕ → List Step → Type 0
AreStepsBelow n [] = Unit {0}
AreStepsBelow n (t ∷ ts) = IsStepBelow n t × AreStepsBelow n ts

pub AreStepsBelow-append : (n : ℕ) (ts us : List Step) → AreStepsBelow n ts → AreStepsBelow n us → AreStepsBelow n (ts ++ us)
AreStepsBelow-append n [] us h k = k
AreStepsBelow-append n (t ∷ ts) us h k = (h.0, AreStepsBelow-append n ts us h.1 k)

pub AreStepsBelow-front : (n : ℕ) (ts us : List Step) → AreStepsBelow n (ts ++ us) → AreStepsBelow n ts × AreStepsBelow n us
AreStepsBelow-front n [] us h = (tt, h)
AreStepsBelow-front n (t ∷ ts) us h = let r = AreStepsBelow-front n ts us h.1 in ((h.0, r.0), r.1)

AreStepsBelow-visits : (n : ℕ) (xs : List ℕ) → All (λ x. x < n) xs → AreStepsBelow n (map Visit (reverse xs))
AreStepsBelow-visits n [] h = tt
AreStepsBelow-visits n (x ∷ xs) h =
    let below : x < n = h 0 x (omega arith) in
    let rest = AreStepsBelow-visits n xs (λ k d l. h (suc k) d (omega arith)) in
    subst (AreStepsBelow n) (sym (visits-cons [] x xs)) (AreStepsBelow-append n (map Visit (reverse xs)) (Visit x ∷ []) rest (below, tt))

pub AreStepsBelow-push_visits : (n : ℕ) (ts more : List Step) (xs : List ℕ) → AreStepsBelow n ts → All (λ x. x < n) xs → more ≡ ts ++ map Visit (reverse xs) → AreStepsBelow n more
AreStepsBelow-push_visits n ts more xs h k e =
    subst (AreStepsBelow n) (sym e) (AreStepsBelow-append n ts (map Visit (reverse xs)) h (AreStepsBelow-visits n xs k))
