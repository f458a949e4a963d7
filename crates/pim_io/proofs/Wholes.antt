-- Reading and writing piece after piece.
use Rattle.std.proofs.Common.{◌≡◌, ℕ, suc, zero, ◌+◌, ◌-◌, ◌<◌, ◌≤◌, List, [], ◌∷◌, ◌++◌, Option, Some, None, length, ap, sym, ◌∙◌, refl, arith, get_or, take, drop}
use Rattle.std.specs.Prelude.{map}
use Rattle.std.proofs.lemmas.List.{append-nil, append_assoc, length-append, length-take, take-append-le, map_more}
use Rattle.std.proofs.Math.Seq.{take-add, take-append-add}
use Rattle.pim_io.specs.Outside.{GaveSome, TookSome, IsSpent, TookAll, TookFirst, with_pieces}

pub IsSpent-GaveSome : (a b : Option (List ℕ)) (before after : List ℕ) (n : ℕ) → GaveSome a b before after n → n ≡ 0 → IsSpent a b
IsSpent-GaveSome None b before after n h e = tt
IsSpent-GaveSome (Some xs) None before after n h e = absurd h
IsSpent-GaveSome (Some xs) (Some ys) before after n h e = h.rest ∙ ap (λ (k : ℕ). drop k xs) e ∙ h.end e

pub TookAll-TookSome : (a b c : Option (List ℕ)) (xs : List ℕ) (m n : ℕ) → TookAll a b (take m xs) → TookSome b c (drop m xs) n → TookAll a c (take (m + n) xs)
TookAll-TookSome None b c xs m n h k = tt
TookAll-TookSome (Some before) None c xs m n h k = absurd h
TookAll-TookSome (Some before) (Some now) None xs m n h k = absurd k
TookAll-TookSome (Some before) (Some now) (Some later) xs m n h k =
    k ∙ ap (λ (r : List ℕ). r ++ take n (drop m xs)) h ∙ append_assoc before (take m xs) (take n (drop m xs)) ∙ ap (λ (r : List ℕ). before ++ r) (sym (take-add m n xs))

-- ---- one piece after another
pub TookAll-none : (a : Option (List ℕ)) → TookAll a a []
TookAll-none None = tt
TookAll-none (Some x) = sym (append-nil x)

pub TookAll-append : (a b c : Option (List ℕ)) (p q : List ℕ) → TookAll a b p → TookAll b c q → TookAll a c (p ++ q)
TookAll-append None b c p q h k = tt
TookAll-append (Some x) None c p q h k = absurd h
TookAll-append (Some x) (Some y) None p q h k = absurd k
TookAll-append (Some x) (Some y) (Some z) p q h k = k ∙ ap (λ (t : List ℕ). t ++ q) h ∙ append_assoc x p q

length-first : (x y p : List ℕ) → y ≡ x ++ take (length y - length x) p → length y - length x ≤ length p
length-first x y p h =
    let sizes = ap length h in
    omega (arith, simp (length-append, length-take) at sizes)

-- the first bytes of a piece are those of a longer one
pub TookFirst-append : (a b : Option (List ℕ)) (p q : List ℕ) → TookFirst a b p → TookFirst a b (p ++ q)
TookFirst-append None b p q h = tt
TookFirst-append (Some x) None p q h = absurd h
TookFirst-append (Some x) (Some y) p q h =
    let within : length y - length x ≤ length p = length-first x y p h in
    h ∙ ap (λ (t : List ℕ). x ++ t) (sym (take-append-le (length y - length x) p q within))

-- a whole piece, and then the first bytes of another one
pub TookFirst-then : (a b c : Option (List ℕ)) (p q : List ℕ) → TookAll a b p → TookFirst b c q → TookFirst a c (p ++ q)
TookFirst-then None b c p q h k = tt
TookFirst-then (Some x) None c p q h k = absurd h
TookFirst-then (Some x) (Some y) None p q h k = absurd k
TookFirst-then (Some x) (Some y) (Some z) p q h k =
    let rest : List ℕ = take (length z - length y) q in
    let ly : length y ≡ length x + length p = ap length h ∙ length-append x p in
    let lz : length z ≡ length y + length rest = ap length k ∙ length-append y rest in
    let n : length p + (length z - length y) ≡ length z - length x = omega arith in
    k ∙ ap (λ (t : List ℕ). t ++ rest) h ∙ append_assoc x p rest
    ∙ ap (λ (t : List ℕ). x ++ t) (sym (take-append-add p q (length z - length y)))
    ∙ ap (λ (j : ℕ). x ++ take j (p ++ q)) n

-- ---- the text of pieces
pub with_pieces-append : (text : List ℕ) (ps qs : List (List ℕ)) → with_pieces text (ps ++ qs) ≡ with_pieces (with_pieces text ps) qs
with_pieces-append text [] qs = refl
with_pieces-append text (p ∷ ps) qs = with_pieces-append (text ++ p) ps qs

pub with_pieces-front : (text : List ℕ) (ps : List (List ℕ)) → with_pieces text ps ≡ text ++ with_pieces [] ps
with_pieces-front text [] = sym (append-nil text)
with_pieces-front text (p ∷ ps) =
    with_pieces-front (text ++ p) ps ∙ append_assoc text p (with_pieces [] ps) ∙ ap (λ (t : List ℕ). text ++ t) (sym (with_pieces-front p ps))

-- one piece more
pub with_pieces-more : {X : Type 0} (f : X → List ℕ) (xs : List X) (i : ℕ) (d : X) → i < length xs →
    with_pieces [] (map f (take (i + 1) xs)) ≡ with_pieces [] (map f (take i xs)) ++ f (get_or xs i d)
with_pieces-more f xs i d h =
    ap (with_pieces []) (map_more f xs i d h) ∙ with_pieces-append [] (map f (take i xs)) (f (get_or xs i d) ∷ [])

-- the pieces before a place, and those from there on
pub with_pieces-cut : {X : Type 0} (f : X → List ℕ) (xs : List X) (i : ℕ) →
    with_pieces [] (map f xs) ≡ with_pieces [] (map f (take i xs)) ++ with_pieces [] (map f (drop i xs))
with_pieces-cut f [] zero = refl
with_pieces-cut f [] (suc i) = refl
with_pieces-cut f (x ∷ xs) zero = refl
with_pieces-cut f (x ∷ xs) (suc i) =
    with_pieces-front (f x) (map f xs) ∙ ap (λ (t : List ℕ). f x ++ t) (with_pieces-cut f xs i)
    ∙ sym (append_assoc (f x) (with_pieces [] (map f (take i xs))) (with_pieces [] (map f (drop i xs))))
    ∙ ap (λ (t : List ℕ). t ++ with_pieces [] (map f (drop i xs))) (sym (with_pieces-front (f x) (map f (take i xs))))
