-- How often the nodes of a graph are read.
use Rattle.std.proofs.Common.{◌≡◌, ℕ, suc, ◌+◌, ◌*◌, ◌/◌, ◌<◌, ◌≤◌, Bool, true, false, cond, eqb, not, ◌&&◌, ◌||◌, List, [], ◌∷◌, length, get_or, set, drop, refl, sym, ◌∙◌, ap, subst, arith, inl, inr}
use Rattle.std.proofs.lemmas.Bool.{cases_eq, cases_lt, false≢true, cond_both, eq-eqb, ne_eqb, and_left}
use Rattle.std.proofs.lemmas.List.{at_drop_more, at_drop_all, get_or-set_same, get_or-set_other, get_or_past, length-set}
use Rattle.pim_aig.specs.Graph.{AigView, IsAig, nodes}
use Rattle.pim_aig.specs.declared.literal.Lit.{Lit}
use Rattle.pim_aig.specs.declared.graph.And.{And}
use Rattle.pim_nor.specs.Leaves.{literal_reads, operand_reads, is_among, is_single, gives_way}
use Rattle.pim_nor.specs.inner.Plans.{TellsSingle}
use Rattle.pim_nor.proofs.LeafLists.{IsAnd, gives_way-IsOpened}

literal_reads-le : (l : Lit) (n : ℕ) → literal_reads l n ≤ 1
literal_reads-le l n =
    let P : ℕ → Type 0 = λ m. m ≤ 1 in
    cond_both (eqb (l.0 / 2) n) 1 0 P (λ _. omega arith) (λ _. omega arith)

pub operand_reads-le : (ands : List And) (n : ℕ) → operand_reads ands n ≤ 2 * length ands
operand_reads-le [] n = omega arith
operand_reads-le (a ∷ rest) n = omega (arith, literal_reads-le a.x n, literal_reads-le a.y n, operand_reads-le rest n)

-- the operands of each AND node are of the first nodes
abbrev pub OfFirst : List And → ℕ → Type 0
OfFirst ands nodes = (k : ℕ) (d : And) → k < length ands → (get_or ands k d).x.0 < 2 * nodes × (get_or ands k d).y.0 < 2 * nodes

literal_reads-outside : (l : Lit) (n nodes : ℕ) → l.0 < 2 * nodes → nodes ≤ n → literal_reads l n ≡ 0
literal_reads-outside l n nodes h out =
    let ne : l.0 / 2 ≡ n → ⊥ = λ e. omega arith in
    ap (λ (b : Bool). cond b 1 0) (ne_eqb (l.0 / 2) n ne)

operand_reads-outside : (ands : List And) (n nodes : ℕ) → OfFirst ands nodes → nodes ≤ n → operand_reads ands n ≡ 0
operand_reads-outside [] n nodes h out = refl
operand_reads-outside (a ∷ rest) n nodes h out =
    let first = h 0 a (omega arith) in
    omega (arith, literal_reads-outside a.x n nodes first.0 out, literal_reads-outside a.y n nodes first.1 out, operand_reads-outside rest n nodes (λ k d l. h (suc k) d (omega arith)) out)

pub IsAig-OfFirst : (g : AigView) → IsAig g → OfFirst g.ands (nodes g)
IsAig-OfFirst g sound k d h =
    let x = sound.x_before k d h in
    let y = sound.y_before k d h in
    (omega arith, omega arith)

single-outside : (g : AigView) → IsAig g → (n : ℕ) → nodes g ≤ n → is_single g n ≡ false
single-outside g sound n out =
    and_left (eqb (operand_reads g.ands n) 1) (not (is_among g.outputs n)) (ap (λ (m : ℕ). eqb m 1) (operand_reads-outside g.ands n (nodes g) (IsAig-OfFirst g sound) out))

-- what gives way is of an AND node that is there
pub gives_way-IsAnd : (g : AigView) → IsAig g → (l : Lit) → gives_way g l ≡ true → IsAnd g (l.0 / 2)
gives_way-IsAnd g sound l h =
    let opened = gives_way-IsOpened g l h in
    elim (cases_lt (l.0 / 2) (nodes g)) [
      | inl there ↦ record { above = opened.above; there = there }
      | inr out ↦ absurd (false≢true (sym (single-outside g sound (l.0 / 2) out) ∙ opened.single))
    ]

-- one more read of a node
counted : (cs : List ℕ) (l : Lit) (n : ℕ) → l.0 / 2 < length cs → get_or (set cs (l.0 / 2) (get_or cs (l.0 / 2) 0 + 1)) n 0 ≡ get_or cs n 0 + literal_reads l n
counted cs l n h =
    let m = l.0 / 2 in
    elim (cases_eq m n) [
      | inl e ↦
          let here : get_or (set cs m (get_or cs m 0 + 1)) m 0 ≡ get_or cs m 0 + 1 = get_or-set_same cs m (get_or cs m 0 + 1) 0 h in
          let P : ℕ → Type 0 = λ k. get_or (set cs m (get_or cs m 0 + 1)) k 0 ≡ get_or cs k 0 + 1 in
          subst P e here ∙ ap (λ (b : Bool). get_or cs n 0 + cond b 1 0) (sym (eq-eqb m n e))
      | inr ne ↦
          let other : get_or (set cs m (get_or cs m 0 + 1)) n 0 ≡ get_or cs n 0 = get_or-set_other cs m n (get_or cs m 0 + 1) 0 (λ e. ne (sym e)) in
          let none : literal_reads l n ≡ 0 = ap (λ (b : Bool). cond b 1 0) (ne_eqb m n ne) in
          omega arith
    ]

-- the operand_reads of one AND node more
pub counted_and : (cs one both : List ℕ) (a : And) (n N : ℕ) → length cs ≡ N → a.x.0 < 2 * N → a.y.0 < 2 * N → one ≡ set cs (a.x.0 / 2) (get_or cs (a.x.0 / 2) 0 + 1) → both ≡ set one (a.y.0 / 2) (get_or one (a.y.0 / 2) 0 + 1) → get_or both n 0 ≡ get_or cs n 0 + (literal_reads a.x n + literal_reads a.y n)
counted_and cs one both a n N len x y e f =
    let size : length one ≡ N = ap (λ (ys : List ℕ). length ys) e ∙ (length-set cs (a.x.0 / 2) (get_or cs (a.x.0 / 2) 0 + 1) ∙ len) in
    let first : get_or one n 0 ≡ get_or cs n 0 + literal_reads a.x n = ap (λ (ys : List ℕ). get_or ys n 0) e ∙ counted cs a.x n (omega arith) in
    let second : get_or both n 0 ≡ get_or one n 0 + literal_reads a.y n = ap (λ (ys : List ℕ). get_or ys n 0) f ∙ counted one a.y n (omega arith) in
    omega arith

-- the rest of the operand_reads after one AND node
pub operand_reads-drop : (ands : List And) (k : ℕ) (a : And) (n : ℕ) → k < length ands → operand_reads (drop k ands) n ≡ literal_reads (get_or ands k a).x n + literal_reads (get_or ands k a).y n + operand_reads (drop (k + 1) ands) n
operand_reads-drop ands k a n h = at_drop_more (λ xs. operand_reads xs n) ands k a h

-- the operands of an AND node are of nodes that are there
pub read_there : (g : AigView) → IsAig g → (ands : List And) → ands ≡ g.ands → (k : ℕ) (d : And) → k < length ands → ((get_or ands k d).x.0 < 2 * nodes g) × ((get_or ands k d).y.0 < 2 * nodes g)
read_there g sound ands e =
    let P : List And → Type 0 = λ xs. OfFirst xs (nodes g) in
    subst P (sym e) (IsAig-OfFirst g sound)

-- what was counted, with what is left, is at most two for each AND node
left-le : (g : AigView) → IsAig g → (ands : List And) → ands ≡ g.ands → (n c r : ℕ) → c + r ≡ operand_reads ands n → c ≤ 2097152
left-le g sound ands e n c r h =
    let len : length ands ≡ length g.ands = ap (λ (xs : List And). length xs) e in
    omega (arith, operand_reads-le ands n, sound.ands_fit)

-- there is room for the first read of an AND node
pub room_x : (g : AigView) → IsAig g → (ands : List And) → ands ≡ g.ands → (cs : List ℕ) (k : ℕ) (d : And) → k < length ands → ((n : ℕ) → n < nodes g → get_or cs n 0 + operand_reads (drop k ands) n ≡ operand_reads ands n) → get_or cs ((get_or ands k d).x.0 / 2) 0 + 1 < 4294967296
room_x g sound ands e cs k d h rest =
    let n = (get_or ands k d).x.0 / 2 in
    let there = read_there g sound ands e k d h in
    let x = there.0 in
    omega (arith, left-le g sound ands e n (get_or cs n 0) (operand_reads (drop k ands) n) (rest n (omega arith)))

-- and for the second one
pub room_y : (g : AigView) → IsAig g → (ands : List And) → ands ≡ g.ands → (cs one : List ℕ) (k : ℕ) (d : And) → k < length ands → length cs ≡ nodes g → ((n : ℕ) → n < nodes g → get_or cs n 0 + operand_reads (drop k ands) n ≡ operand_reads ands n) → one ≡ set cs ((get_or ands k d).x.0 / 2) (get_or cs ((get_or ands k d).x.0 / 2) 0 + 1) → get_or one ((get_or ands k d).y.0 / 2) 0 + 1 < 4294967296
room_y g sound ands e cs one k d h len rest first =
    let a = get_or ands k d in
    let n = a.y.0 / 2 in
    let there = read_there g sound ands e k d h in
    let x = there.0 in
    let y = there.1 in
    let more : get_or one n 0 ≡ get_or cs n 0 + literal_reads a.x n = ap (λ (ys : List ℕ). get_or ys n 0) first ∙ counted cs a.x n (omega arith) in
    omega (arith, literal_reads-le a.x n, left-le g sound ands e n (get_or cs n 0) (operand_reads (drop k ands) n) (rest n (omega arith)))

-- one AND node more is counted
pub counted_step : (g : AigView) → IsAig g → (ands : List And) → ands ≡ g.ands → (cs one both : List ℕ) (k : ℕ) (d : And) → k < length ands → length cs ≡ nodes g → ((n : ℕ) → n < nodes g → get_or cs n 0 + operand_reads (drop k ands) n ≡ operand_reads ands n) → one ≡ set cs ((get_or ands k d).x.0 / 2) (get_or cs ((get_or ands k d).x.0 / 2) 0 + 1) → both ≡ set one ((get_or ands k d).y.0 / 2) (get_or one ((get_or ands k d).y.0 / 2) 0 + 1) → (n : ℕ) → n < nodes g → get_or both n 0 + operand_reads (drop (k + 1) ands) n ≡ operand_reads ands n
counted_step g sound ands e cs one both k d h len rest first second n in_range =
    let a = get_or ands k d in
    let there = read_there g sound ands e k d h in
    omega (arith, counted_and cs one both a n (nodes g) len there.0 there.1 first second, operand_reads-drop ands k d n h, rest n in_range)

-- one output's node is no longer counted
pub cleared_step : (ls : List Lit) (cs : List ℕ) (k m n whole : ℕ) (d : Lit) → k < length ls → n < length cs → m ≡ (get_or ls k d).0 / 2 → cond (is_among (drop k ls) n) 0 (get_or cs n 0) ≡ whole → cond (is_among (drop (k + 1) ls) n) 0 (get_or (set cs m 0) n 0) ≡ whole
cleared_step ls cs k m n whole d h there e before =
    let l = get_or ls k d in
    let rest = drop (k + 1) ls in
    let here : cond (is_among (l ∷ rest) n) 0 (get_or cs n 0) ≡ whole = sym (at_drop_more (λ xs. cond (is_among xs n) 0 (get_or cs n 0)) ls k d h) ∙ before in
    elim (cases_eq (l.0 / 2) n) [
      | inl same ↦
          let P : ℕ → Type 0 = λ j. get_or (set cs j 0) n 0 ≡ 0 in
          let Q : ℕ → Type 0 = λ j. get_or (set cs n 0) j 0 ≡ 0 in
          let zero_there : get_or (set cs n 0) n 0 ≡ 0 = get_or-set_same cs n 0 0 there in
          let cleared : get_or (set cs m 0) n 0 ≡ 0 = subst P (sym (e ∙ same)) zero_there in
          let none : whole ≡ 0 = sym here ∙ ap (λ (b : Bool). cond (b || is_among rest n) 0 (get_or cs n 0)) (eq-eqb (l.0 / 2) n same) in
          ap (λ (c : ℕ). cond (is_among rest n) 0 c) cleared ∙ (cond_same (is_among rest n) 0 refl ∙ sym none)
      | inr other ↦
          let kept : get_or (set cs m 0) n 0 ≡ get_or cs n 0 = get_or-set_other cs m n 0 0 (λ f. other (sym e ∙ sym f)) in
          ap (λ (c : ℕ). cond (is_among rest n) 0 c) kept ∙ (sym (ap (λ (b : Bool). cond (b || is_among rest n) 0 (get_or cs n 0)) (ne_eqb (l.0 / 2) n other)) ∙ here)
    ]
  where
    cond_same : (b : Bool) (c : ℕ) → c ≡ 0 → cond b 0 c ≡ c
    cond_same true c e = sym e
    cond_same false c e = refl

-- a count that is left for no output is 1 exactly where the node is single
one_left : (a : Bool) (r c : ℕ) → c ≡ cond a 0 r → eqb c 1 ≡ (eqb r 1 && not a)
one_left true r c e = ap (λ (n : ℕ). eqb n 1) e ∙ sym (and_no (eqb r 1))
  where
    and_no : (b : Bool) → (b && false) ≡ false
    and_no true = refl
    and_no false = refl
one_left false r c e = ap (λ (n : ℕ). eqb n 1) e ∙ sym (and_yes (eqb r 1))
  where
    and_yes : (b : Bool) → (b && true) ≡ b
    and_yes true = refl
    and_yes false = refl

pub cleared_all : (g : AigView) → IsAig g → (ls : List Lit) → ls ≡ g.outputs → (cs : List ℕ) (k : ℕ) → length ls ≤ k → length cs ≡ nodes g → ((n : ℕ) → n < nodes g → cond (is_among (drop k ls) n) 0 (get_or cs n 0) ≡ cond (is_among ls n) 0 (operand_reads g.ands n)) → TellsSingle g cs
cleared_all g sound ls e cs k done len rest n =
    elim (cases_lt n (nodes g)) [
      | inl there ↦
          let end : get_or cs n 0 ≡ cond (is_among ls n) 0 (operand_reads g.ands n) = sym (at_drop_all (λ xs. cond (is_among xs n) 0 (get_or cs n 0)) ls k done) ∙ rest n there in
          one_left (is_among ls n) (operand_reads g.ands n) (get_or cs n 0) end ∙ ap (λ (xs : List Lit). eqb (operand_reads g.ands n) 1 && not (is_among xs n)) e
      | inr out ↦
          let past : get_or cs n 0 ≡ 0 = get_or_past cs n 0 (omega arith) in
          ap (λ (c : ℕ). eqb c 1) past ∙ sym (single-outside g sound n out)
    ]
