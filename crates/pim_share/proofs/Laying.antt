-- The windows of the parts, one behind another, and the ports and instructions in them.
use Rattle.std.proofs.Common.{◌≡◌, ◌≢◌, ◌∙◌, ◌⊎◌, ◌+◌, ◌<◌, ◌≤◌, ◌^◌, ◌++◌, ◌∷◌, ℕ, zero, suc, List, [], length, drop, get_or, take, refl, sym, ap, subst, inl, inr, arith}
use Rattle.std.specs.List.{All, AllPairs}
use Rattle.std.proofs.lemmas.Bool.{cases_lt}
use Rattle.std.proofs.lemmas.List.{drop_more, map-append, length-map, length-append}
use Rattle.std.proofs.lemmas.List.Elements.{All-append, All-cons, All-head, All-nil, All-tail, All-weaker}
use Rattle.std.proofs.lemmas.List.Kept.{AllPairs-cons}
use Rattle.std.proofs.lemmas.List.Sums.{sum_by-cons}
use Rattle.pim_isa.specs.declared.port.Port.{Port}
use Rattle.pim_isa.specs.declared.target.Target.{Target}
use Rattle.pim_isa.specs.declared.target.Target.TheVariants.{Magic}
use Rattle.pim_isa.specs.Programs.{ProgramView}
use Rattle.pim_isa.specs.Sound.{IsSound, IsValid, cells_of}
use Rattle.pim_share.specs.Merged.{inputs_from, merged, outputs_from, target_of}
use Rattle.pim_share.specs.Moved.{moved_port, moved_ports}
use Rattle.pim_share.specs.Pieces.{ports_in_all}
use Rattle.pim_share.specs.Turns.{Left, laid}
use Rattle.pim_share.specs.Windows.{base, needed}
use Rattle.pim_share.proofs.Frames.{Fits, at}

needed-cons : (p : ProgramView) (ps : List ProgramView) → needed (p ∷ ps) ≡ p.cells + needed ps
needed-cons p ps = sum_by-cons (λ (q : ProgramView). q.cells) p ps

pub needed_step : (parts : List ProgramView) (i : ℕ) (p : ProgramView) → i < length parts → p ≡ get_or parts i p
    → needed (drop i parts) ≡ p.cells + needed (drop (i + 1) parts)
needed_step parts i p low is =
    ap needed (drop_more parts i p low ∙ ap (λ (q : ProgramView). q ∷ drop (i + 1) parts) (sym is)) ∙ needed-cons p (drop (i + 1) parts)

-- the cells of a part are among those that are needed from it on
pub room_left : (parts : List ProgramView) (i : ℕ) (p : ProgramView) → i < length parts → p ≡ get_or parts i p → p.cells ≤ needed (drop i parts)
room_left parts i p low is = omega (arith, needed_step parts i p low is)

pub ports_low : (ports : List Port) (n b : ℕ) → All (λ c. c < n) (cells_of ports) → b + n ≤ 1048576 → All (λ (p : Port). b + p.cell < 2 ^ 32) ports
ports_low [] n b low room = All-nil (λ (p : Port). b + p.cell < 2 ^ 32)
ports_low (p ∷ ps) n b low room =
    let first : p.cell < n = All-head (λ c. c < n) p.cell (cells_of ps) low in
    All-cons (λ (q : Port). b + q.cell < 2 ^ 32) p ps (omega arith) (ports_low ps n b (All-tail (λ c. c < n) p.cell (cells_of ps) low) room)

-- ---- windows

-- a program without cells, ports and instructions
abbrev pub nothing : ProgramView
nothing = record { target = Magic; cells = 0; inputs = []; outputs = []; instrs = [] }

abbrev pub part : List ProgramView → ℕ → ProgramView
part parts j = get_or parts j nothing

abbrev pub cells_at : List ProgramView → ℕ → ℕ
cells_at parts j = (part parts j).cells

base-suc : (p : ProgramView) (ps : List ProgramView) (j : ℕ) → base (p ∷ ps) (suc j) ≡ p.cells + base ps j
base-suc p ps j = needed-cons p (take j ps)

base_within : (parts : List ProgramView) (j : ℕ) → j < length parts → base parts j + cells_at parts j ≤ needed parts
base_within [] j low = absurd (omega arith)
base_within (p ∷ ps) zero low = omega (arith, needed-cons p ps)
base_within (p ∷ ps) (suc j) low = omega (arith, needed-cons p ps, base-suc p ps j, base_within ps j (omega arith))

base_rises : (parts : List ProgramView) (i j : ℕ) → i < j → base parts i + cells_at parts i ≤ base parts j
base_rises [] i zero low = absurd (omega arith)
base_rises [] zero (suc j) low = omega arith
base_rises [] (suc i) (suc j) low = omega arith
base_rises (p ∷ ps) i zero low = absurd (omega arith)
base_rises (p ∷ ps) zero (suc j) low = omega (arith, base-suc p ps j)
base_rises (p ∷ ps) (suc i) (suc j) low = omega (arith, base-suc p ps i, base-suc p ps j, base_rises ps i j (omega arith))

apart : (parts : List ProgramView) (i j : ℕ) → i ≢ j → (base parts i + cells_at parts i ≤ base parts j) ⊎ (base parts j + cells_at parts j ≤ base parts i)
apart parts i j other = elim (cases_lt i j) [
  | inl low ↦ inl (base_rises parts i j low)
  | inr high ↦ elim (cases_lt j i) [
    | inl low ↦ inr (base_rises parts j i low)
    | inr both ↦ absurd (other (omega arith))
  ]
]

pub length-laid : (parts : List ProgramView) (from : ℕ) → length (laid from parts) ≡ length parts
length-laid [] from = refl
length-laid (p ∷ ps) from = let rest = length-laid ps (from + p.cells) in omega (arith, rest)

pub laid_at : (parts : List ProgramView) (from j : ℕ) → j < length parts → at (laid from parts) j ≡ record { base = from + base parts j; rest = (part parts j).instrs }
laid_at [] from j low = absurd (omega arith)
laid_at (p ∷ ps) from zero low =
    let start : from ≡ from + 0 = omega arith in
    ap (λ (b : ℕ). record { base = b; rest = p.instrs }) start
laid_at (p ∷ ps) from (suc j) low =
    let next : (from + p.cells) + base ps j ≡ from + base (p ∷ ps) (suc j) = omega (arith, base-suc p ps j) in
    laid_at ps (from + p.cells) j (omega arith) ∙ ap (λ (b : ℕ). record { base = b; rest = (part ps j).instrs }) next

-- all parts are programs for one target
pub record AreParts (target : Target) (parts : List ProgramView) : Type 0 where
  pub sound : (j : ℕ) → j < length parts → IsSound (part parts j)
  pub alike : (j : ℕ) → j < length parts → (part parts j).target ≡ target

pub laid_fits : (target : Target) (parts : List ProgramView) → AreParts target parts → Fits target (needed parts) (base parts) (cells_at parts) (laid 0 parts)
laid_fits target parts are = record {
  based = λ j low.
      let inside : j < length parts = omega (arith, length-laid parts 0) in
      ap (λ (x : Left). x.base) (laid_at parts 0 j inside) ∙ omega arith;
  valid = λ j low.
      let inside : j < length parts = omega (arith, length-laid parts 0) in
      subst (λ (x : Left). All (IsValid target (cells_at parts j)) x.rest) (sym (laid_at parts 0 j inside))
      (subst (λ (t : Target). All (IsValid t (cells_at parts j)) (part parts j).instrs) (are.alike j inside) (are.sound j inside).instrs);
  room = λ j low. base_within parts j (omega (arith, length-laid parts 0));
  apart = apart parts;
}

-- ---- ports

abbrev InFrom : ℕ → ℕ → ℕ → Type 0
InFrom from limit c = (from ≤ c) × (c < limit)

moved_within : (ports : List Port) (n from limit : ℕ) → from + n ≤ limit → All (λ c. c < n) (cells_of ports)
    → All (λ c. (from ≤ c) × (c < from + n)) (cells_of (moved_ports from ports))
moved_within [] n from limit room low = All-nil (λ c. (from ≤ c) × (c < from + n))
moved_within (p ∷ ps) n from limit room low =
    let first : p.cell < n = All-head (λ c. c < n) p.cell (cells_of ps) low in
    All-cons (λ c. (from ≤ c) × (c < from + n)) (from + p.cell) (cells_of (moved_ports from ps)) (omega arith, omega arith)
    (moved_within ps n from limit room (All-tail (λ c. c < n) p.cell (cells_of ps) low))

cells-append : (ps qs : List Port) → cells_of (ps ++ qs) ≡ cells_of ps ++ cells_of qs
cells-append ps qs = map-append (λ (p : Port). p.cell) ps qs

tail_sound : (p : ProgramView) (ps : List ProgramView) → ((j : ℕ) → j < length (p ∷ ps) → IsSound (part (p ∷ ps) j)) → (j : ℕ) → j < length ps → IsSound (part ps j)
tail_sound p ps sound j low = sound (suc j) (omega arith)

module _ (ports_of : ProgramView → List Port) (all_from : ℕ → List ProgramView → List Port)
    (none : (from : ℕ) → all_from from [] ≡ [])
    (more : (from : ℕ) (p : ProgramView) (ps : List ProgramView) → all_from from (p ∷ ps) ≡ moved_ports from (ports_of p) ++ all_from (from + p.cells) ps)
    (low : (p : ProgramView) → IsSound p → All (λ c. c < p.cells) (cells_of (ports_of p))) where
  all_within : (parts : List ProgramView) (from : ℕ) → ((j : ℕ) → j < length parts → IsSound (part parts j))
      → All (InFrom from (from + needed parts)) (cells_of (all_from from parts))
  all_within [] from sound = subst (λ (ps : List Port). All (InFrom from (from + needed [])) (cells_of ps)) (sym (none from)) (All-nil (InFrom from (from + needed [])))
  all_within (p ∷ ps) from sound =
      let limit = from + needed (p ∷ ps) in
      let first = moved_within (ports_of p) p.cells from (from + p.cells) (omega arith) (low p (sound 0 (omega arith))) in
      let rest = all_within ps (from + p.cells) (tail_sound p ps sound) in
      subst (All (InFrom from limit)) (sym (ap cells_of (more from p ps) ∙ cells-append (moved_ports from (ports_of p)) (all_from (from + p.cells) ps)))
      (All-append (InFrom from limit) (cells_of (moved_ports from (ports_of p))) (cells_of (all_from (from + p.cells) ps))
      (All-weaker (λ c. (from ≤ c) × (c < from + p.cells)) (InFrom from limit) (λ c h. (h.0, omega (arith, h.1, needed-cons p ps))) (cells_of (moved_ports from (ports_of p))) first)
      (All-weaker (InFrom (from + p.cells) ((from + p.cells) + needed ps)) (InFrom from limit) (λ c h. (omega (arith, h.0), omega (arith, h.1, needed-cons p ps)))
      (cells_of (all_from (from + p.cells) ps)) rest))

inputs_within : (parts : List ProgramView) (from : ℕ) → ((j : ℕ) → j < length parts → IsSound (part parts j))
    → All (InFrom from (from + needed parts)) (cells_of (inputs_from from parts))
inputs_within = all_within (λ p. p.inputs) inputs_from (λ from. refl) (λ from p ps. refl) (λ p sound. sound.inputs)

outputs_within : (parts : List ProgramView) (from : ℕ) → ((j : ℕ) → j < length parts → IsSound (part parts j))
    → All (InFrom from (from + needed parts)) (cells_of (outputs_from from parts))
outputs_within = all_within (λ p. p.outputs) outputs_from (λ from. refl) (λ from p ps. refl) (λ p sound. sound.outputs)

pairs-head : {X : Type 0} (R : X → X → Type 0) (x : X) (xs : List X) → AllPairs R (x ∷ xs) → All (R x) xs
pairs-head R x xs h = λ k d low. h 0 (suc k) d (omega arith) (omega arith)

pairs-tail : {X : Type 0} (R : X → X → Type 0) (x : X) (xs : List X) → AllPairs R (x ∷ xs) → AllPairs R xs
pairs-tail R x xs h = λ i j d below low. h (suc i) (suc j) d (omega arith) (omega arith)

pairs-nil : {X : Type 0} (R : X → X → Type 0) → AllPairs R []
pairs-nil R = λ i j d below low. absurd (omega arith)

pairs-append : {X : Type 0} (R : X → X → Type 0) (xs ys : List X) → AllPairs R xs → AllPairs R ys → All (λ x. All (R x) ys) xs → AllPairs R (xs ++ ys)
pairs-append R [] ys left right across = right
pairs-append R (x ∷ xs) ys left right across = AllPairs-cons R x (xs ++ ys)
    (All-append (R x) xs ys (pairs-head R x xs left) (All-head (λ z. All (R z) ys) x xs across))
    (pairs-append R xs ys (pairs-tail R x xs left) right (All-tail (λ z. All (R z) ys) x xs across))

moved_distinct : (from : ℕ) (ports : List Port) → AllPairs ◌≢◌ (cells_of ports) → AllPairs ◌≢◌ (cells_of (moved_ports from ports))
moved_distinct from [] h = pairs-nil ◌≢◌
moved_distinct from (p ∷ ps) h = AllPairs-cons ◌≢◌ (from + p.cell) (cells_of (moved_ports from ps))
    (apart_from ps (pairs-head ◌≢◌ p.cell (cells_of ps) h)) (moved_distinct from ps (pairs-tail ◌≢◌ p.cell (cells_of ps) h))
  where
    apart_from : (qs : List Port) → All (λ c. p.cell ≢ c) (cells_of qs) → All (λ c. (from + p.cell) ≢ c) (cells_of (moved_ports from qs))
    apart_from [] other = All-nil (λ c. (from + p.cell) ≢ c)
    apart_from (q ∷ qs) other =
        let differs : p.cell ≢ q.cell = All-head (λ c. p.cell ≢ c) q.cell (cells_of qs) other in
        All-cons (λ c. (from + p.cell) ≢ c) (from + q.cell) (cells_of (moved_ports from qs)) (λ e. differs (omega arith))
        (apart_from qs (All-tail (λ c. p.cell ≢ c) q.cell (cells_of qs) other))

inputs_distinct : (parts : List ProgramView) (from : ℕ) → ((j : ℕ) → j < length parts → IsSound (part parts j)) → AllPairs ◌≢◌ (cells_of (inputs_from from parts))
inputs_distinct [] from sound = pairs-nil ◌≢◌
inputs_distinct (p ∷ ps) from sound =
    let here = sound 0 (omega arith) in
    let first = moved_within p.inputs p.cells from (from + p.cells) (omega arith) here.inputs in
    let rest = inputs_within ps (from + p.cells) (tail_sound p ps sound) in
    subst (AllPairs ◌≢◌) (sym (cells-append (moved_ports from p.inputs) (inputs_from (from + p.cells) ps)))
    (pairs-append ◌≢◌ (cells_of (moved_ports from p.inputs)) (cells_of (inputs_from (from + p.cells) ps))
    (moved_distinct from p.inputs here.distinct) (inputs_distinct ps (from + p.cells) (tail_sound p ps sound))
    (All-weaker (λ c. (from ≤ c) × (c < from + p.cells)) (λ c. All (λ d. c ≢ d) (cells_of (inputs_from (from + p.cells) ps)))
    (λ c h. All-weaker (InFrom (from + p.cells) ((from + p.cells) + needed ps)) (λ d. c ≢ d) (λ d g e. absurd (omega (arith, h.1, g.0))) (cells_of (inputs_from (from + p.cells) ps)) rest)
    (cells_of (moved_ports from p.inputs)) first))

-- the program of the parts is sound
pub merged_sound : (parts : List ProgramView) (turns : List ℕ) → AreParts (target_of parts) parts
    → All (IsValid (target_of parts) (needed parts)) (merged parts turns).instrs → IsSound (merged parts turns)
merged_sound parts turns are valid = record {
  inputs = All-weaker (InFrom 0 (0 + needed parts)) (λ c. c < needed parts) (λ c h. omega (arith, h.1)) (cells_of (inputs_from 0 parts)) (inputs_within parts 0 are.sound);
  distinct = inputs_distinct parts 0 are.sound;
  outputs = All-weaker (InFrom 0 (0 + needed parts)) (λ c. c < needed parts) (λ c h. omega (arith, h.1)) (cells_of (outputs_from 0 parts)) (outputs_within parts 0 are.sound);
  instrs = valid;
}

-- and has as many ports as the parts in all
pub merged_ports : (parts : List ProgramView) (from : ℕ) → length (inputs_from from parts) + length (outputs_from from parts) ≡ ports_in_all parts
merged_ports [] from = refl
merged_ports (p ∷ ps) from =
    let inputs = length-append (moved_ports from p.inputs) (inputs_from (from + p.cells) ps) in
    let outputs = length-append (moved_ports from p.outputs) (outputs_from (from + p.cells) ps) in
    let first = length-map p.inputs (moved_port from) in
    let second = length-map p.outputs (moved_port from) in
    let rest = merged_ports ps (from + p.cells) in
    let all = sum_by-cons (λ (q : ProgramView). length q.inputs + length q.outputs) p ps in
    omega (arith, inputs, outputs, first, second, rest, all)
