-- Outputs of a row and of a graph, one beside the other.
use Rattle.std.proofs.Common.{◌≡◌, ◌≢◌, ℕ, suc, ◌+◌, ◌*◌, ◌<◌, Bool, true, false, ◌||◌, cond, List, [], ◌∷◌, length, drop, take, map, get_or, Option, Some, None, inl, inr, refl, sym, ap, subst, ◌∙◌, arith, add-one, drop-cons, bit_or}
use Rattle.std.specs.Prelude.{All, bit_xor}
use Rattle.std.proofs.lemmas.Bool.{cases_Bool, false≢true, true≢false, or_parts}
use Rattle.std.proofs.lemmas.List.{get_or-map, length-map}
use Rattle.pim_aig.specs.declared.literal.Lit.{Lit}
use Rattle.pim_io.specs.Lanes.{is_set, lane}
use Rattle.pim_isa.specs.declared.port.Port.{Port}
use Rattle.pim_isa.specs.Sound.{cells_of}
use Rattle.pim_isa.specs.Steps.{bit}
use Rattle.pim_lanes.specs.Banks.{BankView, IsRow, row_of}
use Rattle.pim_prove.specs.inner.Comparing.{are_unlike, differ, first_unlike}
use Rattle.pim_prove.proofs.BitLemmas.{is_set-or, is_set-xor, is_set-zero}
use Rattle.pim_prove.proofs.Lanes.{lane_of}

like : (a b : Bool) → are_unlike a b ≡ false → a ≡ b
like true true same = refl
like true false same = same
like false true same = sym same
like false false same = refl

unlike : (a b : Bool) → are_unlike a b ≡ true → a ≢ b
unlike true true is = absurd (false≢true is)
unlike true false is = true≢false
unlike false true is = false≢true
unlike false false is = absurd (false≢true is)

or_assoc : (a b c : Bool) → ((a || b) || c) ≡ (a || (b || c))
or_assoc true b c = refl
or_assoc false b c = refl

-- outputs that don't differ are the same
pub outputs_same : (f : ℕ → Bool) (g : Lit → Bool) (ps : List Port) (ls : List Lit) → length ps ≡ length ls → differ f g ps ls ≡ false →
    map f (cells_of ps) ≡ map g ls
outputs_same f g [] [] long same = refl
outputs_same f g [] (l ∷ ls) long same = absurd (omega arith)
outputs_same f g (p ∷ ps) [] long same = absurd (omega arith)
outputs_same f g (p ∷ ps) (l ∷ ls) long same =
    let both = or_parts (are_unlike (f p.cell) (g l)) (differ f g ps ls) same in
    let first : f p.cell ≡ g l = like (f p.cell) (g l) both.0 in
    let others : map f (cells_of ps) ≡ map g ls = outputs_same f g ps ls (omega arith) both.1 in
    cc

-- where no first one is found none differs
pub none_unlike : (f : ℕ → Bool) (g : Lit → Bool) (k : ℕ) (ps : List Port) (ls : List Lit) → first_unlike f g k ps ls ≡ None → differ f g ps ls ≡ false
none_unlike f g k [] ls none = refl
none_unlike f g k (p ∷ ps) [] none = refl
none_unlike f g k (p ∷ ps) (l ∷ ls) none =
    elim (cases_Bool (are_unlike (f p.cell) (g l))) [
      | inl is ↦ let wrong : Some k ≡ None = rw is at none in cc
      | inr isnt ↦ rw isnt (none_unlike f g (k + 1) ps ls (rw isnt at none))
    ]

-- output j is the first that isn't the same
pub record UnlikeAt (xs ys : List Bool) (j : ℕ) : Type 0 where
  pub within : j < length ys
  pub apart : get_or xs j false ≢ get_or ys j false
  pub before : take j xs ≡ take j ys

pub first_is : (f : ℕ → Bool) (g : Lit → Bool) (k : ℕ) (ps : List Port) (ls : List Lit) (n : ℕ) → first_unlike f g k ps ls ≡ Some n →
    (j : ℕ) × (k + j ≡ n) × UnlikeAt (map f (cells_of ps)) (map g ls) j
first_is f g k [] ls n found = cc
first_is f g k (p ∷ ps) [] n found = cc
first_is f g k (p ∷ ps) (l ∷ ls) n found =
    elim (cases_Bool (are_unlike (f p.cell) (g l))) [
      | inl is ↦
          let here : Some k ≡ Some n = rw is at found in
          let same : k ≡ n = cc in
          (0, omega arith, record { within = omega arith; apart = unlike (f p.cell) (g l) is; before = refl })
      | inr isnt ↦
          let first : f p.cell ≡ g l = like (f p.cell) (g l) isnt in
          later f g k p ps l ls n first (first_is f g (k + 1) ps ls n (rw isnt at found))
    ]
  where
    later : (f : ℕ → Bool) (g : Lit → Bool) (k : ℕ) (p : Port) (ps : List Port) (l : Lit) (ls : List Lit) (n : ℕ) → f p.cell ≡ g l →
        (j : ℕ) × (k + 1 + j ≡ n) × UnlikeAt (map f (cells_of ps)) (map g ls) j →
        (j : ℕ) × (k + j ≡ n) × UnlikeAt (map f (cells_of (p ∷ ps))) (map g (l ∷ ls)) j
    later f g k p ps l ls n first (j, at, there) =
        let front : take j (map f (cells_of ps)) ≡ take j (map g ls) = there.before in (
          suc j,
          omega arith,
          record {
            within = omega (arith, there.within);
            apart = there.apart;
            before = ap (λ (b : Bool). b ∷ take j (map f (cells_of ps))) first ∙ ap (λ (bs : List Bool). g l ∷ bs) front;
          },
        )

-- ---- one output after another

-- no lane at first
pub lanes_none : (f : ℕ → Bool) (g : Lit → Bool) (ps : List Port) (ls : List Lit) (r : ℕ) → (is_set 0 r || differ f g ps ls) ≡ differ f g ps ls
lanes_none f g ps ls r = ap (λ (b : Bool). b || differ f g ps ls) (is_set-zero r)

-- the lanes of one output more
pub lanes_more : (f : ℕ → Bool) (g : Lit → Bool) (ps : List Port) (ls : List Lit) (k : ℕ) (p : Port) (d : Lit) (lanes word value r : ℕ) (whole : Bool) →
    k < length ps → k < length ls → p ≡ get_or ps k p → is_set word r ≡ f p.cell → is_set value r ≡ g (get_or ls k d) →
    (is_set lanes r || differ f g (drop k ps) (drop k ls)) ≡ whole →
    (is_set (bit_or lanes (bit_xor word value)) r || differ f g (drop (k + 1) ps) (drop (k + 1) ls)) ≡ whole
lanes_more f g ps ls k p d lanes word value r whole in_ps in_ls p_is word_is value_is before =
    let rest = differ f g (drop (k + 1) ps) (drop (k + 1) ls) in
    let front_p : drop k ps ≡ get_or ps k p ∷ drop (k + 1) ps = rw add-one (drop-cons ps k p in_ps) in
    let l = get_or ls k d in
    let front_l : drop k ls ≡ get_or ls k d ∷ drop (k + 1) ls = rw add-one (drop-cons ls k d in_ls) in
    ap (λ (b : Bool). b || rest)
    (is_set-or lanes (bit_xor word value) r
    ∙ ap (λ (b : Bool). is_set lanes r || b) (is_set-xor word value r)
    ∙ ap (λ (b : Bool). is_set lanes r || are_unlike b (is_set value r)) word_is
    ∙ ap (λ (b : Bool). is_set lanes r || are_unlike (f p.cell) b) value_is)
    ∙ or_assoc (is_set lanes r) (are_unlike (f p.cell) (g l)) rest
    ∙ ap (λ (q : Port). is_set lanes r || differ f g (q ∷ drop (k + 1) ps) (l ∷ drop (k + 1) ls)) p_is
    ∙ ap (λ (qs : List Port). is_set lanes r || differ f g qs (get_or ls k d ∷ drop (k + 1) ls)) (sym front_p)
    ∙ ap (λ (ms : List Lit). is_set lanes r || differ f g (drop k ps) ms) (sym front_l)
    ∙ before

-- the first of the outputs from one on, which is the same
pub first_more : (f : ℕ → Bool) (g : Lit → Bool) (ps : List Port) (ls : List Lit) (k : ℕ) (p : Port) (d : Lit) (word value r : ℕ) (whole : Option ℕ) →
    k < length ps → k < length ls → p ≡ get_or ps k p → is_set word r ≡ f p.cell → is_set value r ≡ g (get_or ls k d) →
    is_set (bit_xor word value) r ≡ false →
    first_unlike f g k (drop k ps) (drop k ls) ≡ whole → first_unlike f g (k + 1) (drop (k + 1) ps) (drop (k + 1) ls) ≡ whole
first_more f g ps ls k p d word value r whole in_ps in_ls p_is word_is value_is none before =
    let rest = first_unlike f g (k + 1) (drop (k + 1) ps) (drop (k + 1) ls) in
    let front_p : drop k ps ≡ get_or ps k p ∷ drop (k + 1) ps = rw add-one (drop-cons ps k p in_ps) in
    let l = get_or ls k d in
    let front_l : drop k ls ≡ get_or ls k d ∷ drop (k + 1) ls = rw add-one (drop-cons ls k d in_ls) in
    let same : are_unlike (f p.cell) (g l) ≡ false =
    ap (λ (b : Bool). are_unlike b (g l)) (sym word_is) ∙ ap (are_unlike (is_set word r)) (sym value_is) ∙ sym (is_set-xor word value r) ∙ none in
    ap (λ (b : Bool). cond b (Some k) rest) (sym same)
    ∙ ap (λ (q : Port). first_unlike f g k (q ∷ drop (k + 1) ps) (l ∷ drop (k + 1) ls)) p_is
    ∙ ap (λ (qs : List Port). first_unlike f g k qs (get_or ls k d ∷ drop (k + 1) ls)) (sym front_p)
    ∙ ap (λ (ms : List Lit). first_unlike f g k (drop k ps) ms) (sym front_l)
    ∙ before

-- which isn't
pub first_here : (f : ℕ → Bool) (g : Lit → Bool) (ps : List Port) (ls : List Lit) (k : ℕ) (p : Port) (d : Lit) (word value r : ℕ) (whole : Option ℕ) →
    k < length ps → k < length ls → p ≡ get_or ps k p → is_set word r ≡ f p.cell → is_set value r ≡ g (get_or ls k d) →
    is_set (bit_xor word value) r ≡ true →
    first_unlike f g k (drop k ps) (drop k ls) ≡ whole → Some k ≡ whole
first_here f g ps ls k p d word value r whole in_ps in_ls p_is word_is value_is here before =
    let rest = first_unlike f g (k + 1) (drop (k + 1) ps) (drop (k + 1) ls) in
    let front_p : drop k ps ≡ get_or ps k p ∷ drop (k + 1) ps = rw add-one (drop-cons ps k p in_ps) in
    let l = get_or ls k d in
    let front_l : drop k ls ≡ get_or ls k d ∷ drop (k + 1) ls = rw add-one (drop-cons ls k d in_ls) in
    let apart : are_unlike (f p.cell) (g l) ≡ true =
    ap (λ (b : Bool). are_unlike b (g l)) (sym word_is) ∙ ap (are_unlike (is_set word r)) (sym value_is) ∙ sym (is_set-xor word value r) ∙ here in
    ap (λ (b : Bool). cond b (Some k) rest) (sym apart)
    ∙ ap (λ (q : Port). first_unlike f g k (q ∷ drop (k + 1) ps) (l ∷ drop (k + 1) ls)) p_is
    ∙ ap (λ (qs : List Port). first_unlike f g k qs (get_or ls k d ∷ drop (k + 1) ls)) (sym front_p)
    ∙ ap (λ (ms : List Lit). first_unlike f g k (drop k ps) ms) (sym front_l)
    ∙ before

-- ---- ports and columns

-- the cell of a port lies where the cells of all ports do
pub port_within : (ports : List Port) (cells k : ℕ) (p : Port) → All (λ c. c < cells) (cells_of ports) → k < length ports → p ≡ get_or ports k p →
    p.cell < cells
port_within ports cells k p within small is =
    let here : get_or (cells_of ports) k 0 < cells = within k 0 (omega (arith, length-map ports (λ (q : Port). q.cell))) in
    let cell : get_or (cells_of ports) k 0 ≡ p.cell =
    get_or-map (λ (q : Port). q.cell) ports k p 0 small ∙ ap (λ (q : Port). q.cell) (sym is) in
    omega (arith, here, cell)

-- the same where the ports are all of a list
pub port_within_all : (ports all : List Port) (cells k : ℕ) (p : Port) → ports ≡ all → All (λ c. c < cells) (cells_of all) → k < length ports →
    p ≡ get_or ports k p → p.cell < cells
port_within_all ports all cells k p same within small is =
    let P : List Port → Type 0 = λ l. All (λ c. c < cells) (cells_of l) in
    port_within ports cells k p (subst P (sym same) within) small is

-- the word of a cell's column at a place, lane by lane
pub word_is : (column : List ℕ) (b : BankView) (cell place r : ℕ) → ((r : ℕ) → IsRow b r → lane column r ≡ bit (row_of b r) cell) →
    place < b.words → r < 64 → is_set (get_or column place 0) r ≡ bit (row_of b (64 * place + r)) cell
word_is column b cell place r lanes within small = sym (lane_of column place r small) ∙ lanes (64 * place + r) (omega arith)
