-- What the turns of parts that keep to windows of their own do: in each window what the part alone does, and nothing outside.
use Rattle.std.proofs.Common.{◌≡◌, ◌≢◌, ◌∙◌, ◌⊎◌, ◌+◌, ◌<◌, ◌≤◌, ◌==◌, ◌++◌, ◌∷◌, ℕ, Bool, List, [], length, drop, get_or, cond, refl, sym, ap, ap₂, subst, inl, inr, arith, Some, None}
use Rattle.std.specs.Prelude.{if◌then◌else◌, is_some, option_map, slice_get, count_by, IsTrue}
use Rattle.std.specs.List.{All}
use Rattle.std.specs.Option.{option_to_list}
use Rattle.std.proofs.lemmas.Bool.{cases_lt}
use Rattle.std.proofs.lemmas.Bool.Decides.{eqb_tells}
use Rattle.std.proofs.lemmas.List.{get_or-set_other, get_or-set_same, get_or_past, length-set}
use Rattle.std.proofs.lemmas.List.Elements.{All-cons, All-drop, All-head, All-nil, All-tail}
use Rattle.std.proofs.lemmas.List.Sums.{sum_by-cons}
use Rattle.pim_isa.specs.declared.target.Target.{Target}
use Rattle.pim_isa.specs.declared.instr.Instr.{Instr}
use Rattle.pim_isa.specs.declared.instr.Instr.TheVariants.{Init, Nor, Rm3}
use Rattle.pim_isa.specs.Primed.{FindsPrimed, IsPrimedFrom, is_init, primed_after}
use Rattle.pim_isa.specs.Sound.{IsValid}
use Rattle.pim_isa.specs.Steps.{bit, exec, step}
use Rattle.pim_isa.specs.Touches.{writes}
use Rattle.pim_isa.specs.Validity.{has}
use Rattle.pim_share.specs.Moved.{moved}
use Rattle.pim_share.specs.Turns.{Left, after_turn, after_turns, bad_turn, interleave, past, spent}
use Rattle.pim_share.specs.Windows.{InWindow}
use Rattle.pim_share.proofs.Moves.{has-up, length-step, not_written, step_outside, step_window, valid-moved, writes-moved}

-- what is left of part j
abbrev pub at : List Left → ℕ → Left
at parts j = get_or parts j spent

-- ---- one turn

-- the turn names a part, and this is left of it
pub record HasNext (parts : List Left) (j : ℕ) : Type 0 where
  pub inside : j < length parts
  pub instr : Instr
  pub others : List Instr
  pub is : (at parts j).rest ≡ instr ∷ others

-- the turns have no fault where this is left of the part that the first names
abbrev Judged : List Left → ℕ → ℕ → List ℕ → List Instr → Type 0
Judged parts j k turns rest =
    (if is_some (option_map (moved (at parts j).base) (slice_get rest 0)) then bad_turn (k + 1) (after_turn parts j) turns else Some k) ≡ None

pub named_turn : (parts : List Left) (j k : ℕ) (turns : List ℕ) → bad_turn k parts (j ∷ turns) ≡ None
    → HasNext parts j × (bad_turn (k + 1) (after_turn parts j) turns ≡ None)
named_turn parts j k turns fine = go (at parts j).rest refl
  where
    go : (rest : List Instr) → (at parts j).rest ≡ rest → HasNext parts j × (bad_turn (k + 1) (after_turn parts j) turns ≡ None)
    go [] e = let bad : Some k ≡ None = subst (Judged parts j k turns) e fine in cc
    go (i ∷ is) e =
        let inside : j < length parts = elim (cases_lt j (length parts)) [
          | inl low ↦ low
          | inr behind ↦ let bad : i ∷ is ≡ [] = sym e ∙ ap (λ (x : Left). x.rest) (get_or_past parts j spent behind) in cc
        ] in
        (record { inside = inside; instr = i; others = is; is = e }, subst (Judged parts j k turns) e fine)

next_instrs : (parts : List Left) (j : ℕ) (turns : List ℕ) (i : Instr) (is : List Instr) → (at parts j).rest ≡ i ∷ is
    → interleave parts (j ∷ turns) ≡ moved (at parts j).base i ∷ interleave (after_turn parts j) turns
next_instrs parts j turns i is e =
    ap (λ (rest : List Instr). option_to_list (option_map (moved (at parts j).base) (slice_get rest 0)) ++ interleave (after_turn parts j) turns) e

pub length-after : (parts : List Left) (j : ℕ) → length (after_turn parts j) ≡ length parts
length-after parts j = length-set parts j _

after_same : (parts : List Left) (j : ℕ) → j < length parts → at (after_turn parts j) j ≡ past (at parts j)
after_same parts j low = get_or-set_same parts j (past (at parts j)) spent low

after_other : (parts : List Left) (j i : ℕ) → i ≢ j → at (after_turn parts j) i ≡ at parts i
after_other parts j i other = get_or-set_other parts j i (past (at parts j)) spent other

-- a fact of each part that outlasts its instructions holds behind a turn
kept : (P : ℕ → Left → Type 0) (parts : List Left) (j : ℕ) → P j (past (at parts j)) → ((i : ℕ) → i < length parts → P i (at parts i))
    → (i : ℕ) → i < length (after_turn parts j) → P i (at (after_turn parts j) i)
kept P parts j here all i low = elim (eqb_tells i j) [
  | inl same ↦
      let inside : j < length parts = omega (arith, same.1, length-after parts j) in
      subst (λ (k : ℕ). P k (at (after_turn parts j) k)) (sym same.1) (subst (P j) (sym (after_same parts j inside)) here)
  | inr other ↦ subst (P i) (sym (after_other parts j i other.1)) (all i (omega (arith, length-after parts j)))
]

-- ---- counts

abbrev one_if : Bool → ℕ
one_if b = cond b 1 0

pub counted : (turns : List ℕ) (parts : List Left) (k : ℕ) → bad_turn k parts turns ≡ None → (j : ℕ) → j < length parts
    → length (at parts j).rest ≡ count_by (λ t. t == j) turns + length (at (after_turns parts turns) j).rest
counted [] parts k fine j low = omega arith
counted (t ∷ turns) parts k fine j low =
    let turn = named_turn parts t k turns fine in
    let next = turn.0 in
    let first : count_by (λ (u : ℕ). u == j) (t ∷ turns) ≡ one_if (t == j) + count_by (λ (u : ℕ). u == j) turns =
    sum_by-cons (λ (u : ℕ). one_if (u == j)) t turns in
    let rest = counted turns (after_turn parts t) (k + 1) turn.1 j (omega (arith, length-after parts t)) in
    elim (eqb_tells t j) [
      | inl same ↦
          let one : one_if (t == j) ≡ 1 = ap one_if same.0 in
          let left : length (at parts t).rest ≡ length next.others + 1 = ap length next.is ∙ omega arith in
          let here : length (at (after_turn parts t) t).rest ≡ length next.others =
          ap (λ (x : Left). length x.rest) (after_same parts t next.inside) ∙ ap (λ (r : List Instr). length (drop 1 r)) next.is in
          let there : length (at (after_turn parts t) j).rest ≡ length next.others = subst (λ (n : ℕ). length (at (after_turn parts t) n).rest ≡ length next.others) same.1 here in
          let whole : length (at parts j).rest ≡ length next.others + 1 = subst (λ (n : ℕ). length (at parts n).rest ≡ length next.others + 1) same.1 left in
          omega (arith, rest, first, one, there, whole)
      | inr other ↦
          let none : one_if (t == j) ≡ 0 = ap one_if other.0 in
          let there : length (at (after_turn parts t) j).rest ≡ length (at parts j).rest = ap (λ (x : Left). length x.rest) (after_other parts t j (λ e. other.1 (sym e))) in
          omega (arith, rest, first, none, there)
    ]

-- the other way about: turns that name each part as often as it has instructions have no fault, and leave nothing
pub fair_turns : (turns : List ℕ) (parts : List Left) (k n : ℕ) → length parts ≡ n → All (λ j. j < n) turns
    → ((j : ℕ) → j < length parts → count_by (λ t. t == j) turns ≡ length (at parts j).rest)
    → (bad_turn k parts turns ≡ None) × ((j : ℕ) → j < length parts → (at (after_turns parts turns) j).rest ≡ [])
fair_turns [] parts k n is named often = (refl, λ j low. none_left (at parts j).rest (sym (often j low)))
  where
    none_left : (rest : List Instr) → length rest ≡ 0 → rest ≡ []
    none_left [] e = refl
    none_left (i ∷ rest) e = absurd (omega arith)
fair_turns (t ∷ turns) parts k n is named often =
    go (at parts t).rest refl (λ counts. fair_turns turns (after_turn parts t) (k + 1) n (length-after parts t ∙ is) (All-tail (λ (j : ℕ). j < n) t turns named) counts)
  where
    inside : t < length parts
    inside = subst (λ m. t < m) (sym is) (All-head (λ (j : ℕ). j < n) t turns named)

    first : (j : ℕ) → count_by (λ (u : ℕ). u == j) (t ∷ turns) ≡ one_if (t == j) + count_by (λ (u : ℕ). u == j) turns
    first j = sum_by-cons (λ (u : ℕ). one_if (u == j)) t turns

    go : (rest : List Instr) → (at parts t).rest ≡ rest
        → (((j : ℕ) → j < length (after_turn parts t) → count_by (λ u. u == j) turns ≡ length (at (after_turn parts t) j).rest)
        → (bad_turn (k + 1) (after_turn parts t) turns ≡ None) × ((j : ℕ) → j < length (after_turn parts t) → (at (after_turns (after_turn parts t) turns) j).rest ≡ []))
        → (bad_turn k parts (t ∷ turns) ≡ None) × ((j : ℕ) → j < length parts → (at (after_turns parts (t ∷ turns)) j).rest ≡ [])
    go [] e further =
        let one : one_if (t == t) ≡ 1 = elim (eqb_tells t t) [ inl same ↦ ap one_if same.0 | inr other ↦ absurd (other.1 refl) ] in
        let none : length (at parts t).rest ≡ 0 = ap length e in
        absurd (omega (arith, often t inside, first t, one, none))
    go (i ∷ others) e further =
        let rest = further (λ j low.
        let here : j < length parts = omega (arith, length-after parts t) in
        elim (eqb_tells t j) [
          | inl same ↦
              let one : one_if (t == j) ≡ 1 = ap one_if same.0 in
              let whole : length (at parts t).rest ≡ length others + 1 = ap length e ∙ omega arith in
              let left : length (at (after_turn parts t) t).rest ≡ length others =
              ap (λ (x : Left). length x.rest) (after_same parts t inside) ∙ ap (λ (r : List Instr). length (drop 1 r)) e in
              let all : length (at parts j).rest ≡ length others + 1 = subst (λ (m : ℕ). length (at parts m).rest ≡ length others + 1) same.1 whole in
              let there : length (at (after_turn parts t) j).rest ≡ length others = subst (λ (m : ℕ). length (at (after_turn parts t) m).rest ≡ length others) same.1 left in
              omega (arith, often j here, first j, one, all, there)
          | inr other ↦
              let none : one_if (t == j) ≡ 0 = ap one_if other.0 in
              let there : length (at (after_turn parts t) j).rest ≡ length (at parts j).rest = ap (λ (x : Left). length x.rest) (after_other parts t j (λ f. other.1 (sym f))) in
              omega (arith, often j here, first j, none, there)
        ]) in
        (subst (λ (r : List Instr). Judged parts t k turns r) (sym e) rest.0, λ j low. rest.1 j (omega (arith, length-after parts t)))

pub turns_named : (turns : List ℕ) (parts : List Left) (k n : ℕ) → length parts ≡ n → bad_turn k parts turns ≡ None → All (λ j. j < n) turns
turns_named [] parts k n is fine = All-nil (λ (j : ℕ). j < n)
turns_named (t ∷ turns) parts k n is fine =
    let turn = named_turn parts t k turns fine in
    All-cons (λ (j : ℕ). j < n) t turns (subst (λ m. t < m) is turn.0.inside) (turns_named turns (after_turn parts t) (k + 1) n (length-after parts t ∙ is) turn.1)

pub length-after_turns : (turns : List ℕ) (parts : List Left) → length (after_turns parts turns) ≡ length parts
length-after_turns [] parts = refl
length-after_turns (t ∷ turns) parts = length-after_turns turns (after_turn parts t) ∙ length-after parts t

pub length-interleave : (turns : List ℕ) (parts : List Left) (k : ℕ) → bad_turn k parts turns ≡ None → length (interleave parts turns) ≡ length turns
length-interleave [] parts k fine = refl
length-interleave (t ∷ turns) parts k fine =
    let turn = named_turn parts t k turns fine in
    ap length (next_instrs parts t turns turn.0.instr turn.0.others turn.0.is)
    ∙ (let rest = length-interleave turns (after_turn parts t) (k + 1) turn.1 in omega (arith, rest))

-- ---- windows

-- the window of part j is that of N j cells from the cell B j on; they lie apart, below the limit, and each instruction
-- that is left of a part is valid for its window
pub record Fits (target : Target) (limit : ℕ) (B N : ℕ → ℕ) (parts : List Left) : Type 0 where
  pub based : (j : ℕ) → j < length parts → (at parts j).base ≡ B j
  pub valid : (j : ℕ) → j < length parts → All (IsValid target (N j)) (at parts j).rest
  pub room : (j : ℕ) → j < length parts → B j + N j ≤ limit
  pub apart : (i j : ℕ) → i ≢ j → (B i + N i ≤ B j) ⊎ (B j + N j ≤ B i)

module _ (target : Target) (limit : ℕ) (B N : ℕ → ℕ) where
  fits_after : (parts : List Left) (t : ℕ) → HasNext parts t → Fits target limit B N parts → Fits target limit B N (after_turn parts t)
  fits_after parts t next fits = record {
    based = kept (λ j x. x.base ≡ B j) parts t (fits.based t next.inside) fits.based;
    valid = kept (λ j x. All (IsValid target (N j)) x.rest) parts t
        (All-drop (IsValid target (N t)) 1 (at parts t).rest (fits.valid t next.inside)) fits.valid;
    room = λ j low. fits.room j (omega (arith, length-after parts t));
    apart = fits.apart;
  }

  -- what a turn adds
  module _ (parts : List Left) (t : ℕ) (next : HasNext parts t) (fits : Fits target limit B N parts) where
    instrs_of : (turns : List ℕ) → interleave parts (t ∷ turns) ≡ moved (B t) next.instr ∷ interleave (after_turn parts t) turns
    instrs_of turns = next_instrs parts t turns next.instr next.others next.is
        ∙ ap (λ (b : ℕ). moved b next.instr ∷ interleave (after_turn parts t) turns) (fits.based t next.inside)

    all_valid : All (IsValid target (N t)) (next.instr ∷ next.others)
    all_valid = subst (All (IsValid target (N t))) next.is (fits.valid t next.inside)

    next_valid : IsValid target (N t) next.instr
    next_valid = All-head (IsValid target (N t)) next.instr next.others all_valid

    others_valid : All (IsValid target (N t)) next.others
    others_valid = All-tail (IsValid target (N t)) next.instr next.others all_valid

    rest_here : (at (after_turn parts t) t).rest ≡ next.others
    rest_here = ap (λ (x : Left). x.rest) (after_same parts t next.inside) ∙ ap (drop 1) next.is

    rest_there : (j : ℕ) → j ≢ t → (at (after_turn parts t) j).rest ≡ (at parts j).rest
    rest_there j other = ap (λ (x : Left). x.rest) (after_other parts t j other)

    -- a cell of another window lies outside this one
    outside : (j c : ℕ) → j ≢ t → c < N j → (B j + c < B t) ⊎ (B t + N t ≤ B j + c)
    outside j c other low = elim (fits.apart j t other) [ inl before ↦ inl (omega (arith, before)) | inr behind ↦ inr (omega (arith, behind)) ]

  pub all_fit : (turns : List ℕ) (parts : List Left) (k : ℕ) → Fits target limit B N parts → bad_turn k parts turns ≡ None
      → All (IsValid target limit) (interleave parts turns)
  all_fit [] parts k fits fine = All-nil (IsValid target limit)
  all_fit (t ∷ turns) parts k fits fine =
      let turn = named_turn parts t k turns fine in
      let next = turn.0 in
      subst (All (IsValid target limit)) (sym (instrs_of parts t next fits turns))
      (All-cons (IsValid target limit) (moved (B t) next.instr) (interleave (after_turn parts t) turns)
      (valid-moved (B t) target (N t) limit next.instr (fits.room t next.inside) (next_valid parts t next fits))
      (all_fit turns (after_turn parts t) (k + 1) (fits_after parts t next fits) turn.1))

  pub frame : (turns : List ℕ) (parts : List Left) (k : ℕ) (m : List Bool) → Fits target limit B N parts → bad_turn k parts turns ≡ None → limit ≤ length m
      → (j : ℕ) (w : List Bool) → j < length parts → (at (after_turns parts turns) j).rest ≡ [] → InWindow (B j) (N j) m w
      → InWindow (B j) (N j) (exec (interleave parts turns) m) (exec (at parts j).rest w)
  frame [] parts k m fits fine room j w low done win = subst (λ (is : List Instr). InWindow (B j) (N j) m (exec is w)) (sym done) win
  frame (t ∷ turns) parts k m fits fine room j w low done win =
      let turn = named_turn parts t k turns fine in
      let next = turn.0 in
      let names_low = (next_valid parts t next fits).within in
      let after : List Bool = step m (moved (B t) next.instr) in
      let long : limit ≤ length after = omega (arith, length-step m (moved (B t) next.instr)) in
      let further = frame turns (after_turn parts t) (k + 1) after (fits_after parts t next fits) turn.1 long in
      let inside : j < length (after_turn parts t) = omega (arith, length-after parts t) in
      let P : ℕ → List Bool → Type 0 = λ i v. InWindow (B i) (N i) (exec (interleave (after_turn parts t) turns) after) v in
      let whole : P j (exec (at parts j).rest w) = elim (eqb_tells j t) [
        | inl same ↦
            let here : InWindow (B t) (N t) m w = subst (λ (i : ℕ). InWindow (B i) (N i) m w) same.1 win in
            let stepped = step_window (B t) (N t) next.instr m w names_low (omega (arith, fits.room t next.inside)) here in
            let ended : (at (after_turns (after_turn parts t) turns) t).rest ≡ [] = subst (λ (i : ℕ). (at (after_turns (after_turn parts t) turns) i).rest ≡ []) same.1 done in
            let left : P t (exec (at (after_turn parts t) t).rest (step w next.instr)) = further t (step w next.instr) (subst (λ (i : ℕ). i < length (after_turn parts t)) same.1 inside) ended stepped in
            let same_rest : exec (at (after_turn parts t) t).rest (step w next.instr) ≡ exec (at parts t).rest w =
            ap (λ (is : List Instr). exec is (step w next.instr)) (rest_here parts t next fits) ∙ sym (ap (λ (is : List Instr). exec is w) next.is) in
            subst (λ (i : ℕ). P i (exec (at parts i).rest w)) (sym same.1) (subst (P t) same_rest left)
        | inr other ↦
            let there : InWindow (B j) (N j) after w = record {
              long = win.long;
              same = λ c below. step_outside (B t) (N t) (B j + c) (outside parts t next fits j c other.1 below) next.instr m names_low ∙ win.same c below;
            } in
            subst (λ (is : List Instr). P j (exec is w)) (rest_there parts t next fits j other.1) (further j w inside done there)
      ] in
      subst (λ (is : List Instr). InWindow (B j) (N j) (exec is m) (exec (at parts j).rest w)) (sym (instrs_of parts t next fits turns)) whole

  pub frame_outside : (turns : List ℕ) (parts : List Left) (k : ℕ) (m : List Bool) (c : ℕ) → Fits target limit B N parts → bad_turn k parts turns ≡ None → limit ≤ c
      → bit (exec (interleave parts turns) m) c ≡ bit m c
  frame_outside [] parts k m c fits fine behind = refl
  frame_outside (t ∷ turns) parts k m c fits fine behind =
      let turn = named_turn parts t k turns fine in
      let next = turn.0 in
      let out : B t + N t ≤ c = omega (arith, fits.room t next.inside) in
      ap (λ (is : List Instr). bit (exec is m) c) (instrs_of parts t next fits turns)
      ∙ frame_outside turns (after_turn parts t) (k + 1) (step m (moved (B t) next.instr)) c (fits_after parts t next fits) turn.1 behind
      ∙ step_outside (B t) (N t) c (inr out) next.instr m (next_valid parts t next fits).within

  -- ---- primed

  finds_moved : (b : ℕ) (ready : ℕ → Bool) (i : Instr) → FindsPrimed (λ c. ready (b + c)) i → FindsPrimed ready (moved b i)
  finds_moved b ready (Init cells) h = tt
  finds_moved b ready (Nor t x) h = h
  finds_moved b ready (Rm3 p q z) h = tt

  is_init-moved : (b : ℕ) (i : Instr) → is_init (moved b i) ≡ is_init i
  is_init-moved b (Init cells) = refl
  is_init-moved b (Nor t x) = refl
  is_init-moved b (Rm3 p q z) = refl

  -- cells that the instructions don't name play no part
  module _ (n : ℕ) where
    finds_alike : (r s : ℕ → Bool) → ((c : ℕ) → c < n → r c ≡ s c) → (i : Instr) → IsValid target n i → FindsPrimed r i → FindsPrimed s i
    finds_alike r s same (Init cells) valid h = tt
    finds_alike r s same (Nor t x) valid h = subst IsTrue (same t (All-head (λ c. c < n) t _ valid.within)) h
    finds_alike r s same (Rm3 p q z) valid h = tt

    primed_alike : (r s : ℕ → Bool) → ((c : ℕ) → c < n → r c ≡ s c) → (is : List Instr) → All (IsValid target n) is → IsPrimedFrom r is → IsPrimedFrom s is
    primed_alike r s same [] valid h = tt
    primed_alike r s same (i ∷ is) valid h = (
      finds_alike r s same i (All-head (IsValid target n) i is valid) h.0,
      primed_alike (primed_after r i) (primed_after s i) (λ c low. ap (λ b. if has c (writes i) then is_init i else b) (same c low)) is
          (All-tail (IsValid target n) i is valid) h.1,
    )

  pub primed_frame : (turns : List ℕ) (parts : List Left) (k : ℕ) (ready : ℕ → Bool) → Fits target limit B N parts → bad_turn k parts turns ≡ None
      → ((j : ℕ) → j < length parts → IsPrimedFrom (λ c. ready (B j + c)) (at parts j).rest) → IsPrimedFrom ready (interleave parts turns)
  primed_frame [] parts k ready fits fine primed = tt
  primed_frame (t ∷ turns) parts k ready fits fine primed =
      let turn = named_turn parts t k turns fine in
      let next = turn.0 in
      let i = next.instr in
      let here : IsPrimedFrom (λ c. ready (B t + c)) (i ∷ next.others) = subst (IsPrimedFrom (λ c. ready (B t + c))) next.is (primed t next.inside) in
      let after : ℕ → Bool = primed_after ready (moved (B t) i) in
      let names_low = (next_valid parts t next fits).within in
      let here_after : (c : ℕ) → c < N t → primed_after (λ d. ready (B t + d)) i c ≡ after (B t + c) = λ c low.
      ap₂ (λ x y. if x then y else ready (B t + c)) (sym (ap (has (B t + c)) (writes-moved (B t) i) ∙ has-up (B t) c (writes i))) (sym (is_init-moved (B t) i)) in
      let there_after : (j : ℕ) → j ≢ t → (c : ℕ) → c < N j → ready (B j + c) ≡ after (B j + c) = λ j other c low.
      sym (ap (λ x. if x then is_init (moved (B t) i) else ready (B j + c)) (not_written (B t) (N t) (B j + c) (outside parts t next fits j c other low) i names_low)) in
      subst (IsPrimedFrom ready) (sym (instrs_of parts t next fits turns)) (
        finds_moved (B t) ready i here.0,
        primed_frame turns (after_turn parts t) (k + 1) after (fits_after parts t next fits) turn.1 (λ j low. elim (eqb_tells j t) [
          | inl same ↦ subst (λ (n : ℕ). IsPrimedFrom (λ c. after (B n + c)) (at (after_turn parts t) n).rest) (sym same.1)
              (subst (IsPrimedFrom (λ c. after (B t + c))) (sym (rest_here parts t next fits))
              (primed_alike (N t) (primed_after (λ c. ready (B t + c)) i) (λ c. after (B t + c)) here_after next.others (others_valid parts t next fits) here.1))
          | inr other ↦
              let inside : j < length parts = omega (arith, length-after parts t) in
              subst (IsPrimedFrom (λ c. after (B j + c))) (sym (rest_there parts t next fits j other.1))
              (primed_alike (N j) (λ c. ready (B j + c)) (λ c. after (B j + c)) (there_after j other.1) (at parts j).rest (fits.valid j inside) (primed j inside))
        ]),
      )
