-- The turns of lines, one line after another.
use Rattle.std.proofs.Common.{◌≡◌, ℕ, List, [], ◌∷◌, ◌++◌, Result, Ok, Err, ap, append_assoc, refl}
use Rattle.pim_io.specs.Lines.{LineView}
use Rattle.pim_io.specs.Readings.{◌>>=◌}
use Rattle.pim_top.specs.commands.Share.{turn_of, turns_in}
use Rattle.pim_top.specs.declared.judgement.Judgement.{Judgement}

-- turns, and those of further lines behind them
abbrev pub with_turns : List ℕ → Result (List ℕ) Judgement → Result (List ℕ) Judgement
with_turns turns (Ok more) = Ok (turns ++ more)
with_turns turns (Err j) = Err j

pub none_before : (rest : Result (List ℕ) Judgement) → with_turns [] rest ≡ rest
none_before (Ok more) = refl
none_before (Err j) = refl

pub one_more : (turns : List ℕ) (line : LineView) (others : List LineView) (turn : ℕ) → turn_of line ≡ Ok turn →
    with_turns (turns ++ turn ∷ []) (turns_in others) ≡ with_turns turns (turns_in (line ∷ others))
one_more turns line others turn e = rw e (by (turns_in others))
  where
    by : (rest : Result (List ℕ) Judgement) → with_turns (turns ++ turn ∷ []) rest ≡ with_turns turns (rest >>= λ more. Ok (turn ∷ more))
    by (Ok more) = ap (λ (l : List ℕ). Ok l) (append_assoc turns (turn ∷ []) more)
    by (Err j) = refl

pub no_turn : (turns : List ℕ) (line : LineView) (others : List LineView) (j : Judgement) → turn_of line ≡ Err j →
    with_turns turns (turns_in (line ∷ others)) ≡ Err j
no_turn turns line others j e = rw e refl
