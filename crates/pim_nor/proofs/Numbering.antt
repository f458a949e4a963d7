-- The gates that are kept, and their numbers.
use Rattle.std.proofs.Common.{◌≡◌, ℕ, ◌+◌, ◌<◌, zero, suc, Bool, true, false, cond, List, [], ◌∷◌, ◌++◌, length, get_or, refl, sym, ◌∙◌, ap, subst, arith, count_by, take, drop, map, append_assoc}
use Rattle.std.proofs.lemmas.Bool.{false≢true}
use Rattle.std.proofs.lemmas.List.Sums.{sum_by-cons}
use Rattle.std.proofs.lemmas.List.{at_drop_more, get_or_read}
use Rattle.pim_nor.specs.declared.network.Pin.{Pin}
use Rattle.pim_nor.specs.declared.network.Pin.TheVariants.{Input, Gate as Place}
use Rattle.pim_nor.specs.declared.network.Gate.{Gate}
use Rattle.pim_nor.specs.declared.network.Gate.TheVariants.{One, Not, Nor, Nor3, Nor4}
use Rattle.pim_nor.specs.Network.{pins, IsOfFirst, AreOfFirst}
use Rattle.pim_nor.specs.Reached.{number, numbered, numbered_gate, kept}
use Rattle.pim_nor.proofs.Closure.{IsMarked, AreMarked}

counted : (b : Bool) (marks : List Bool) → count_by (λ v. v) (b ∷ marks) ≡ cond b 1 0 + count_by (λ v. v) marks
counted b marks = sum_by-cons (λ v. cond v 1 0) b marks

pub number-suc : (b : Bool) (marks : List Bool) (s : ℕ) → number (b ∷ marks) (suc s) ≡ cond b 1 0 + number marks s
number-suc b marks s = sum_by-cons (λ v. cond v 1 0) b (take s marks)

-- a marked gate's number is below that of each later place
pub number-lt : (marks : List Bool) (s t : ℕ) → s < t → get_or marks s false ≡ true → number marks s < number marks t
number-lt [] s t l h = absurd (false≢true h)
number-lt (b ∷ marks) s zero l h = absurd (omega arith)
number-lt (true ∷ marks) zero (suc t) l h = omega (arith, number-suc true marks t)
number-lt (false ∷ marks) zero (suc t) l h = absurd (false≢true h)
number-lt (b ∷ marks) (suc s) (suc t) l h =
    omega (arith, number-lt marks s t (omega arith) h, number-suc b marks s, number-suc b marks t)

-- a marked gate's number is below the number of marks
pub number-lt_all : (marks : List Bool) (s : ℕ) → get_or marks s false ≡ true → number marks s < count_by (λ b. b) marks
number-lt_all [] s h = absurd (false≢true h)
number-lt_all (true ∷ marks) zero h = omega (arith, counted true marks)
number-lt_all (false ∷ marks) zero h = absurd (false≢true h)
number-lt_all (b ∷ marks) (suc s) h = omega (arith, number-lt_all marks s h, number-suc b marks s, counted b marks)

pub length-kept : (gate : ℕ → Gate) (s : ℕ) (marks : List Bool) → length (kept gate s marks) ≡ count_by (λ b. b) marks
length-kept gate s [] = refl
length-kept gate s (true ∷ ms) = omega (arith, length-kept gate (suc s) ms, counted true ms)
length-kept gate s (false ∷ ms) = omega (arith, length-kept gate (suc s) ms, counted false ms)

-- the kept gate k is that of a marked slot whose number is k
pub record IsKeptFrom (gate : ℕ → Gate) (from : ℕ) (marks : List Bool) (k : ℕ) (d : Gate) : Type 0 where
  pub slot : ℕ
  pub there : slot < length marks
  pub marked : get_or marks slot false ≡ true
  pub number_is : number marks slot ≡ k
  pub gate_is : get_or (kept gate from marks) k d ≡ gate (from + slot)

kept_later : (gate : ℕ → Gate) (from : ℕ) (b : Bool) (ms : List Bool) (k : ℕ) (d : Gate) (x : Gate) → (n : ℕ) → n ≡ cond b 1 0 + k → x ≡ get_or (kept gate (suc from) ms) k d → x ≡ get_or (kept gate from (b ∷ ms)) n d → IsKeptFrom gate (suc from) ms k d → IsKeptFrom gate from (b ∷ ms) n d
kept_later gate from b ms k d x n e inner outer r = record {
  slot = suc r.slot;
  there = omega (arith, r.there);
  marked = r.marked;
  number_is = omega (arith, r.number_is, number-suc b ms r.slot);
  gate_is = sym outer ∙ (inner ∙ (r.gate_is ∙ ap gate (omega arith)));
}

pub get_or-kept : (gate : ℕ → Gate) (from : ℕ) (marks : List Bool) (k : ℕ) (d : Gate) → k < length (kept gate from marks) → IsKeptFrom gate from marks k d
get_or-kept gate from [] k d h = absurd (omega arith)
get_or-kept gate from (true ∷ ms) zero d h = record { slot = 0; there = omega arith; marked = refl; number_is = refl; gate_is = ap gate (omega arith) }
get_or-kept gate from (true ∷ ms) (suc k) d h =
    kept_later gate from true ms k d (get_or (kept gate (suc from) ms) k d) (suc k) (omega arith) refl refl (get_or-kept gate (suc from) ms k d (omega arith))
get_or-kept gate from (false ∷ ms) k d h =
    kept_later gate from false ms k d (get_or (kept gate (suc from) ms) k d) k (omega arith) refl refl (get_or-kept gate (suc from) ms k d h)

-- one step of keeping the gates
kept_here : (f : ℕ → Gate) (s : ℕ) (b c : Bool) (ms : List Bool) → b ≡ c → kept f s (b ∷ ms) ≡ cond c (f s ∷ kept f (s + 1) ms) (kept f (s + 1) ms)
kept_here f s b true ms e = ap (λ (v : Bool). kept f s (v ∷ ms)) e ∙ ap (λ (n : ℕ). f s ∷ kept f n ms) (omega arith)
kept_here f s b false ms e = ap (λ (v : Bool). kept f s (v ∷ ms)) e ∙ ap (λ (n : ℕ). kept f n ms) (omega arith)

kept_rest : (f : ℕ → Gate) (ms : List Bool) (s : ℕ) (b c : Bool) → s < length ms → b ≡ get_or ms s b → b ≡ c → kept f s (drop s ms) ≡ cond c (f s ∷ kept f (s + 1) (drop (s + 1) ms)) (kept f (s + 1) (drop (s + 1) ms))
kept_rest f ms s b c l read is =
    at_drop_more (kept f s) ms s false l ∙ kept_here f s (get_or ms s false) c (drop (s + 1) ms) (sym (get_or_read ms s b l read false) ∙ is)

pub kept_marked : (f : ℕ → Gate) (ms : List Bool) (gs after whole : List Gate) (s : ℕ) (b : Bool) → s < length ms → b ≡ get_or ms s b → b ≡ true → after ≡ gs ++ f s ∷ [] → gs ++ kept f s (drop s ms) ≡ whole → after ++ kept f (s + 1) (drop (s + 1) ms) ≡ whole
kept_marked f ms gs after whole s b l read is grown before =
    ap (λ (xs : List Gate). xs ++ kept f (s + 1) (drop (s + 1) ms)) grown ∙ (append_assoc gs (f s ∷ []) (kept f (s + 1) (drop (s + 1) ms)) ∙ (ap (λ (xs : List Gate). gs ++ xs) (sym (kept_rest f ms s b true l read is)) ∙ before))

pub kept_unmarked : (f : ℕ → Gate) (ms : List Bool) (gs whole : List Gate) (s : ℕ) (b : Bool) → s < length ms → b ≡ get_or ms s b → b ≡ false → gs ++ kept f s (drop s ms) ≡ whole → gs ++ kept f (s + 1) (drop (s + 1) ms) ≡ whole
kept_unmarked f ms gs whole s b l read is before =
    ap (λ (xs : List Gate). gs ++ xs) (sym (kept_rest f ms s b false l read is)) ∙ before

-- numbered pins of marked gates before a place are before its number
numbered-IsOfFirst : (marks : List Bool) (inputs s : ℕ) (p : Pin) → IsOfFirst inputs s p → IsMarked marks p → IsOfFirst inputs (number marks s) (numbered marks p)
numbered-IsOfFirst marks inputs s (Input j) h m = h
numbered-IsOfFirst marks inputs s (Place t) h m = number-lt marks t s h m

numbered-AreOfFirst : (marks : List Bool) (inputs s : ℕ) (ps : List Pin) → AreOfFirst inputs s ps → AreMarked marks ps → AreOfFirst inputs (number marks s) (map (numbered marks) ps)
numbered-AreOfFirst marks inputs s [] h m = tt
numbered-AreOfFirst marks inputs s (p ∷ ps) h m =
    (numbered-IsOfFirst marks inputs s p h.0 m.0, numbered-AreOfFirst marks inputs s ps h.1 m.1)

pub pins-numbered_gate : (marks : List Bool) (gate : Gate) → pins (numbered_gate marks gate) ≡ map (numbered marks) (pins gate)
pins-numbered_gate marks One = refl
pins-numbered_gate marks (Not a) = refl
pins-numbered_gate marks (Nor a b) = refl
pins-numbered_gate marks (Nor3 a b c) = refl
pins-numbered_gate marks (Nor4 a b c d) = refl

pub numbered_gate-AreOfFirst : (marks : List Bool) (inputs s : ℕ) (gate : Gate) → AreOfFirst inputs s (pins gate) → AreMarked marks (pins gate) → AreOfFirst inputs (number marks s) (pins (numbered_gate marks gate))
numbered_gate-AreOfFirst marks inputs s gate h m =
    let P : List Pin → Type 0 = λ ps. AreOfFirst inputs (number marks s) ps in
    subst P (sym (pins-numbered_gate marks gate)) (numbered-AreOfFirst marks inputs s (pins gate) h m)

pub numbered-IsOfFirst_all : (marks : List Bool) (inputs : ℕ) (p : Pin) → IsOfFirst inputs (length marks) p → IsMarked marks p → IsOfFirst inputs (count_by (λ b. b) marks) (numbered marks p)
numbered-IsOfFirst_all marks inputs (Input j) h m = h
numbered-IsOfFirst_all marks inputs (Place t) h m = number-lt_all marks t m
