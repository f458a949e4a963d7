-- What a read and a write mean, on the bytes that are told, and how a count of faults rises.
use Rattle.std.specs.Prelude.{◌≡◌, ℕ, ◌+◌, ◌-◌, ◌^◌, ◌≤◌, List, [], ◌∷◌, ◌++◌, Option, Some, None, Result, Ok, Err, length, take, drop, min}

-- a count after one more, which stands still at its type's end
abbrev pub raised : ℕ → ℕ
raised count = min (count + 1) (2 ^ 64 - 1)

-- the count rose between the two moments, or it stands at its type's end
abbrev pub Rose : ℕ → ℕ → Type 0
Rose before now = raised before ≤ now

-- the first n bytes that were left stand in the front of the buffer and are left no longer; n is 0 only at the end
pub record Read (bytes now before after : List ℕ) (n : ℕ) : Type 0 where
  pub front : after ≡ take n bytes ++ drop n before
  pub rest : now ≡ drop n bytes
  pub end : n ≡ 0 → bytes ≡ []

-- a read of n bytes, where the bytes are told before and after
abbrev pub GaveSome : Option (List ℕ) → Option (List ℕ) → List ℕ → List ℕ → ℕ → Type 0
GaveSome None _ before after n = Unit {0}
GaveSome (Some bytes) None before after n = ⊥
GaveSome (Some bytes) (Some now) before after n = Read bytes now before after n

-- a write of n bytes, where the bytes are told before and after: the first n of the piece were appended, and no more
abbrev pub TookSome : Option (List ℕ) → Option (List ℕ) → List ℕ → ℕ → Type 0
TookSome None _ piece n = Unit {0}
TookSome (Some bytes) None piece n = ⊥
TookSome (Some bytes) (Some now) piece n = now ≡ bytes ++ take n piece

-- where the bytes are told before, they are told after, and P holds of both
abbrev pub Told : Option (List ℕ) → Option (List ℕ) → (List ℕ → List ℕ → Type 0) → Type 0
Told None _ P = Unit {0}
Told (Some before) None P = ⊥
Told (Some before) (Some now) P = P before now

-- a source gave these bytes, and no others
abbrev pub Gave : Option (List ℕ) → Option (List ℕ) → List ℕ → Type 0
Gave left_before left_now bytes = Told left_before left_now (λ before now. before ≡ bytes ++ now)

-- a source gave all that it had left
abbrev pub GaveAll : Option (List ℕ) → Option (List ℕ) → List ℕ → Type 0
GaveAll left_before left_now bytes = Told left_before left_now (λ before now. (before ≡ bytes) × (now ≡ []))

-- a source gave its first n bytes
abbrev pub GaveFirst : Option (List ℕ) → Option (List ℕ) → ℕ → Type 0
GaveFirst left_before left_now n =
    Told left_before left_now (λ before now. (n ≤ length before) × (now ≡ drop n before))

-- a source gave some of its first bytes, at most n
abbrev pub GaveAtMost : Option (List ℕ) → Option (List ℕ) → ℕ → Type 0
GaveAtMost left_before left_now n =
    Told left_before left_now (λ before now. (length before ≤ length now + n) × (now ≡ drop (length before - length now) before))

-- a source has nothing left
abbrev pub IsSpent : Option (List ℕ) → Option (List ℕ) → Type 0
IsSpent left_before left_now = Told left_before left_now (λ before now. now ≡ [])

-- a sink took the whole piece, and no more
abbrev pub TookAll : Option (List ℕ) → Option (List ℕ) → List ℕ → Type 0
TookAll taken_before taken_now piece = Told taken_before taken_now (λ before now. now ≡ before ++ piece)

-- a sink took the first bytes of the piece, and no more
abbrev pub TookFirst : Option (List ℕ) → Option (List ℕ) → List ℕ → Type 0
TookFirst taken_before taken_now piece =
    Told taken_before taken_now (λ before now. now ≡ before ++ take (length now - length before) piece)

-- where the bytes are told, they stay as they were
abbrev pub Stays : Option (List ℕ) → Option (List ℕ) → Type 0
Stays told_before told_now = Told told_before told_now (λ before now. now ≡ before)

-- a call that wrote a text: with Ok the sink took all of it, and its count of faults stayed; with Err it took a front of it,
-- and its count rose
abbrev pub Wrote : {A E : Type 0} → Result A E → Option (List ℕ) → Option (List ℕ) → ℕ → ℕ → List ℕ → Type 0
Wrote (Ok _) taken_before taken_now faults faults_now text = TookAll taken_before taken_now text × (faults_now ≡ faults)
Wrote (Err _) taken_before taken_now faults faults_now text = TookFirst taken_before taken_now text × Rose faults faults_now

-- a text with pieces behind it, one after another
abbrev pub with_pieces : List ℕ → List (List ℕ) → List ℕ
with_pieces text [] = text
with_pieces text (piece ∷ pieces) = with_pieces (text ++ piece) pieces
