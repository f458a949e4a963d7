-- One cell of a row.
use Rattle.std.proofs.Common.{◌≡◌, ℕ, ◌+◌, ◌*◌, ◌<◌, ◌≤◌, List, [], ◌∷◌, ◌++◌, length, get_or, drop, Some, None, All, slice_get, sym, ◌∙◌, ap, subst, arith}
use Rattle.std.proofs.lemmas.List.{drop_more}
use Rattle.std.proofs.lemmas.Option.{slice_get_within, get_or_from_slice_get}
use Rattle.std.proofs.lemmas.List.Elements.{All-push}
use Rattle.pim_net.specs.declared.cover.Bit3.{Bit3}
use Rattle.pim_aig.specs.Chains.{Built, Listed, asked, chain, row_literals, rows_from}
use Rattle.pim_aig.specs.Faults.{Says}
use Rattle.pim_aig.specs.Graph.{IsOfFirst}
use Rattle.pim_aig.specs.Literals.{complement}
use Rattle.pim_aig.specs.declared.fault.FlatFault.{FlatFault}
use Rattle.pim_aig.specs.declared.graph.And.{And}
use Rattle.pim_aig.proofs.Linking.{chain_from-le, Says-le}
use Rattle.pim_aig.specs.declared.literal.Lit.{Lit}

-- what is asked from column k on is what its cell asks, and then what is asked from the next column on
pub row_literals-drop : (lits : ℕ → Lit) (ins : List ℕ) (row : List Bit3) (k : ℕ) (d cell : Bit3) → k < length ins → k < length row → get_or row k d ≡ cell → row_literals lits (drop k ins) (drop k row) ≡ asked cell (lits (get_or ins k 0)) ++ row_literals lits (drop (k + 1) ins) (drop (k + 1) row)
row_literals-drop lits ins row k d cell l m e =
    ap (λ (xs : List ℕ). row_literals lits xs (drop k row)) (drop_more ins k 0 l) ∙ (ap (λ (ys : List Bit3). row_literals lits (get_or ins k 0 ∷ drop (k + 1) ins) ys) (drop_more row k d m) ∙ ap (λ (c : Bit3). asked c (lits (get_or ins k 0)) ++ row_literals lits (drop (k + 1) ins) (drop (k + 1) row)) e)

-- a list from the place of an item on
pub drop-slice_get : {X : Type 0} → (xs : List X) (k : ℕ) (x : X) → slice_get xs k ≡ Some x → drop k xs ≡ x ∷ drop (k + 1) xs
drop-slice_get {X} xs k x e =
    drop_more xs k x (slice_get_within xs k x e) ∙ ap (λ (y : X). y ∷ drop (k + 1) xs) (get_or_from_slice_get xs k x x e)

-- no AND node is lost
pub rows_from-le : (inputs : ℕ) (lits : ℕ → Lit) (ins : List ℕ) (ands : List And) (done : List Lit) (rows : List (List Bit3)) → length ands ≤ length (rows_from inputs lits ins ands done rows).ands
rows_from-le inputs lits ins ands done [] = omega arith
rows_from-le inputs lits ins ands done (row ∷ rows) =
    let built = chain inputs ands (row_literals lits ins row) in
    let first : length ands ≤ length built.ands = chain_from-le inputs ands None (row_literals lits ins row) in
    let rest : length built.ands ≤ length (rows_from inputs lits ins built.ands (done ++ complement built.lit ∷ []) rows).ands = rows_from-le inputs lits ins built.ands (done ++ complement built.lit ∷ []) rows in
    omega arith

-- the rows go on after one of them
pub rows_step : (inputs later : ℕ) (lits : ℕ → Lit) (ins : List ℕ) (ands grown : List And) (done more : List Lit) (rows : List (List Bit3)) (k : ℕ) (row : List Bit3) (l : Lit) (whole : Listed) → later ≡ inputs → slice_get rows k ≡ Some row → record { ands = grown; lit = l } ≡ chain inputs ands (row_literals lits ins row) → more ≡ done ++ complement l ∷ [] → rows_from inputs lits ins ands done (drop k rows) ≡ whole → rows_from later lits ins grown more (drop (k + 1) rows) ≡ whole
rows_step inputs later lits ins ands grown done more rows k row l whole i at made pushed rest =
    ap (λ (n : ℕ). rows_from n lits ins grown more (drop (k + 1) rows)) i ∙ (ap (λ (ls : List Lit). rows_from inputs lits ins grown ls (drop (k + 1) rows)) pushed ∙ (ap (λ (b : Built). rows_from inputs lits ins b.ands (done ++ complement b.lit ∷ []) (drop (k + 1) rows)) made ∙ (ap (λ (rs : List (List Bit3)). rows_from inputs lits ins ands done rs) (sym (drop-slice_get rows k row at)) ∙ rest)))

-- where one row's chain is too large, all are
pub rows_fault : (fault : FlatFault) (inputs : ℕ) (lits : ℕ → Lit) (ins : List ℕ) (ands : List And) (done : List Lit) (rows : List (List Bit3)) (k : ℕ) (row : List Bit3) (whole : Listed) → slice_get rows k ≡ Some row → Says fault (length (chain inputs ands (row_literals lits ins row)).ands) → rows_from inputs lits ins ands done (drop k rows) ≡ whole → Says fault (length whole.ands)
rows_fault fault inputs lits ins ands done rows k row whole at says rest =
    let built = chain inputs ands (row_literals lits ins row) in
    let P : Listed → Type 0 = λ r. Says fault (length r.ands) in
    let e = ap (λ (rs : List (List Bit3)). rows_from inputs lits ins ands done rs) (sym (drop-slice_get rows k row at)) ∙ rest in
    subst P e (Says-le fault (length built.ands) (length (rows_from inputs lits ins built.ands (done ++ complement built.lit ∷ []) (drop (k + 1) rows)).ands) (rows_from-le inputs lits ins built.ands (done ++ complement built.lit ∷ []) (drop (k + 1) rows)) says)

-- literals stay in range as the graph grows
pub All-IsOfFirst-le : (m n : ℕ) (ls : List Lit) → m ≤ n → All (IsOfFirst m) ls → All (IsOfFirst n) ls
All-IsOfFirst-le m n ls le h = λ k d l. let b : (get_or ls k d).0 < 2 * m = h k d l in omega arith

complement-lt : (l : Lit) (n : ℕ) → l.0 < 2 * n → (complement l).0 < 2 * n
complement-lt l n h = grind arith

pub All-IsOfFirst-push : (m n : ℕ) (ls more : List Lit) (l : Lit) → m ≤ n → All (IsOfFirst m) ls → IsOfFirst n l → more ≡ ls ++ complement l ∷ [] → All (IsOfFirst n) more
All-IsOfFirst-push m n ls more l le h k e =
    subst (All (IsOfFirst n)) (sym e) (All-push (IsOfFirst n) ls (complement l) (All-IsOfFirst-le m n ls le h) (complement-lt l n k))
