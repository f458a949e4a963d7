-- Lanes of words: the values of literals, and the digits of columns.
use Rattle.std.proofs.Common.{◌≡◌, ℕ, zero, suc, ◌+◌, ◌-◌, ◌*◌, ◌/◌, ◌%◌, ◌^◌, ◌<◌, ◌≤◌, Bool, true, false, ◌&&◌, not, cond, List, [], ◌∷◌, ◌++◌, length, drop, get_or, replicate, refl, sym, ap, ◌∙◌, arith, bit_and, add-one, drop-cons, append_assoc}
use Rattle.std.specs.Prelude.{bit_xor}
use Rattle.std.proofs.lemmas.Bool.{eq-eqb, ne_eqb}
use Rattle.std.proofs.lemmas.List.{map-append}
use Rattle.std.proofs.Math.ListN.{get_or-map}
use Rattle.pim_aig.specs.declared.literal.Lit.{Lit}
use Rattle.pim_aig.specs.declared.graph.And.{And}
use Rattle.pim_aig.specs.Graph.{AigView}
use Rattle.pim_aig.specs.Values.{literal_value, node_values, values_from}
use Rattle.pim_io.specs.Lanes.{is_set, lane}
use Rattle.pim_prove.specs.Vectors.{digits}
use Rattle.pim_prove.specs.inner.Comparing.{are_unlike, lanes_of, words_at}
use Rattle.pim_prove.proofs.BitLemmas.{is_set-and, is_set-ones, is_set-xor, is_set-zero}

-- the lane of one of the words, and false past them
get_or-lanes_of : (words : List ℕ) (n r : ℕ) → get_or (lanes_of words r) n false ≡ is_set (get_or words n 0) r
get_or-lanes_of words n r =
    ap (get_or (lanes_of words r) n) (sym (is_set-zero r)) ∙ get_or-map (λ w. is_set w r) words n 0

-- one word more
lanes_of-push : (words new : List ℕ) (w r : ℕ) → new ≡ words ++ w ∷ [] → lanes_of new r ≡ lanes_of words r ++ is_set w r ∷ []
lanes_of-push words new w r is = ap (λ ws. lanes_of ws r) is ∙ map-append (λ v. is_set v r) words (w ∷ [])

-- one block more
pub words_at-push : (blocks new : List (List ℕ)) (block : List ℕ) (j : ℕ) → new ≡ blocks ++ block ∷ [] → words_at new j ≡ words_at blocks j ++ get_or block j 0 ∷ []
words_at-push blocks new block j is = ap (λ bs. words_at bs j) is ∙ map-append (λ ws. get_or ws j 0) blocks (block ∷ [])

-- a block of zeros alone
pub zeros_at : (blocks : List (List ℕ)) (n j : ℕ) → blocks ≡ replicate n zero ∷ [] → words_at blocks j ≡ zero ∷ []
zeros_at blocks n j is = ap (λ bs. words_at bs j) is ∙ ap (λ (w : ℕ). w ∷ []) (get_or-zeros n j)
  where
    get_or-zeros : (n j : ℕ) → get_or (replicate n zero) j zero ≡ zero
    get_or-zeros zero j = refl
    get_or-zeros (suc n) zero = refl
    get_or-zeros (suc n) (suc j) = get_or-zeros n j

-- ---- literals

not_unlike : (b : Bool) → are_unlike b true ≡ not b
not_unlike true = refl
not_unlike false = refl

pub literal_complement : (words : List ℕ) (l : Lit) (n w v r : ℕ) → l.0 % 2 ≡ 1 → n ≡ l.0 / 2 → w ≡ get_or words n 0 → v ≡ bit_xor w (2 ^ 64 - 1) → r < 64 →
    is_set v r ≡ literal_value (lanes_of words r) l
literal_complement words l n w v r odd node is value small =
    ap (λ (x : ℕ). is_set x r) value
    ∙ is_set-xor w (2 ^ 64 - 1) r
    ∙ ap (are_unlike (is_set w r)) (is_set-ones r small)
    ∙ not_unlike (is_set w r)
    ∙ ap (λ (x : ℕ). not (is_set x r)) (is ∙ ap (λ (m : ℕ). get_or words m 0) node)
    ∙ ap not (sym (get_or-lanes_of words (l.0 / 2) r))
    ∙ ap (λ (b : Bool). cond b (not (get_or (lanes_of words r) (l.0 / 2) false)) (get_or (lanes_of words r) (l.0 / 2) false)) (sym (eq-eqb (l.0 % 2) 1 odd))

pub literal_plain : (words : List ℕ) (l : Lit) (n w r : ℕ) → (l.0 % 2 ≡ 1 → ⊥) → n ≡ l.0 / 2 → w ≡ get_or words n 0 →
    is_set w r ≡ literal_value (lanes_of words r) l
literal_plain words l n w r even node is =
    ap (λ (x : ℕ). is_set x r) (is ∙ ap (λ (m : ℕ). get_or words m 0) node)
    ∙ sym (get_or-lanes_of words (l.0 / 2) r)
    ∙ ap (λ (b : Bool). cond b (not (get_or (lanes_of words r) (l.0 / 2) false)) (get_or (lanes_of words r) (l.0 / 2) false)) (sym (ne_eqb (l.0 % 2) 1 even))

-- ---- inputs

pub digits-suc : (n x : ℕ) → digits (suc n) x ≡ is_set x n ∷ digits n x
unfolding is_set
digits-suc n x = refl

-- one digit more
pub inputs_more : (words new : List ℕ) (w left n x r : ℕ) (whole : List Bool) → new ≡ words ++ w ∷ [] → is_set w r ≡ is_set x n → left ≡ suc n →
    lanes_of words r ++ digits left x ≡ whole → lanes_of new r ++ digits n x ≡ whole
inputs_more words new w left n x r whole is bit_is left_is before =
    ap (λ (bs : List Bool). bs ++ digits n x) (lanes_of-push words new w r is)
    ∙ append_assoc (lanes_of words r) (is_set w r ∷ []) (digits n x)
    ∙ ap (λ (b : Bool). lanes_of words r ++ (b ∷ digits n x)) bit_is
    ∙ ap (λ (bs : List Bool). lanes_of words r ++ bs) (sym (digits-suc n x))
    ∙ ap (λ (m : ℕ). lanes_of words r ++ digits m x) (sym left_is)
    ∙ before

-- ---- AND nodes

-- one node more
pub ands_more : (ands : List And) (i : ℕ) (d : And) (words new : List ℕ) (wx wy r : ℕ) (whole : List Bool) → i < length ands →
    new ≡ words ++ bit_and wx wy ∷ [] → is_set wx r ≡ literal_value (lanes_of words r) (get_or ands i d).x →
    is_set wy r ≡ literal_value (lanes_of words r) (get_or ands i d).y →
    values_from (lanes_of words r) (drop i ands) ≡ whole → values_from (lanes_of new r) (drop (i + 1) ands) ≡ whole
ands_more ands i d words new wx wy r whole small is x_is y_is before =
    let old = lanes_of words r in
    let rest = drop (i + 1) ands in
    let a = get_or ands i d in
    let both : is_set (bit_and wx wy) r ≡ (literal_value old a.x && literal_value old a.y) =
    is_set-and wx wy r ∙ ap (λ (b : Bool). b && is_set wy r) x_is ∙ ap (λ (b : Bool). literal_value old a.x && b) y_is in
    let front : drop i ands ≡ get_or ands i d ∷ drop (i + 1) ands = rw add-one (drop-cons ands i d small) in
    ap (λ (vs : List Bool). values_from vs rest) (lanes_of-push words new (bit_and wx wy) r is)
    ∙ ap (λ (b : Bool). values_from (old ++ b ∷ []) rest) both
    ∙ ap (values_from old) (sym front)
    ∙ before

-- ---- the whole graph

pub evaluated : (g : AigView) (x r : ℕ) (start done all : List ℕ) (inputs : ℕ) (ands : List And) → start ≡ 0 ∷ [] →
    lanes_of done r ≡ lanes_of start r ++ digits inputs x → inputs ≡ g.inputs → ands ≡ g.ands →
    lanes_of all r ≡ values_from (lanes_of done r) ands → lanes_of all r ≡ node_values g (digits g.inputs x)
evaluated g x r start done all inputs ands begun loaded inputs_are ands_are whole =
    let first : lanes_of start r ≡ false ∷ [] = ap (λ (ws : List ℕ). lanes_of ws r) begun ∙ ap (λ (b : Bool). b ∷ []) (is_set-zero r) in
    whole
    ∙ ap (λ (vs : List Bool). values_from vs ands) (loaded ∙ ap (λ (vs : List Bool). vs ++ digits inputs x) first)
    ∙ ap (λ (n : ℕ). values_from (false ∷ digits n x) ands) inputs_are
    ∙ ap (values_from (false ∷ digits g.inputs x)) ands_are

-- ---- columns

-- a lane of a column is one of its words
pub lane_of : (words : List ℕ) (j r : ℕ) → r < 64 → lane words (64 * j + r) ≡ is_set (get_or words j 0) r
unfolding lane
lane_of words j r small =
    let place : (64 * j + r) / 64 ≡ j = omega arith in
    let rest : (64 * j + r) % 64 ≡ r = omega arith in
    ap (λ (n : ℕ). is_set (get_or words n 0) ((64 * j + r) % 64)) place ∙ ap (is_set (get_or words j 0)) rest

-- a block of a column's words
pub block_word : (column : List ℕ) (word j r k : ℕ) → r < 64 → lane column (64 * j + r) ≡ is_set (64 * word + (64 * j + r)) k →
    is_set (get_or column j 0) r ≡ is_set (64 * (word + j) + r) k
block_word column word j r k small is =
    let number : 64 * word + (64 * j + r) ≡ 64 * (word + j) + r = omega arith in
    sym (lane_of column j r small) ∙ is ∙ ap (λ (x : ℕ). is_set x k) number

-- words that have their digits, as a column
pub column_filled : (column : List ℕ) (start k n m : ℕ) → ((j : ℕ) → j < n → (r : ℕ) → r < 64 → is_set (get_or column j 0) r ≡ is_set (64 * (start + j) + r) k) →
    m ≤ n → (r : ℕ) → r < 64 * m → lane column r ≡ is_set (64 * start + r) k
unfolding lane
column_filled column start k n m filled past r small =
    let within : r / 64 < n = omega arith in
    let rest : r % 64 < 64 = omega arith in
    let number : 64 * (start + r / 64) + r % 64 ≡ 64 * start + r = omega arith in
    filled (r / 64) within (r % 64) rest ∙ ap (λ (x : ℕ). is_set x k) number
