-- Tiles of rows and of answers.
use Rattle.std.proofs.Common.{◌≡◌, ◌∙◌, ◌+◌, ◌*◌, ◌<◌, ℕ, Bool, cond, eqb, List, inl, inr, length, sym, ap, arith}
use Rattle.std.specs.Prelude.{map}
use Rattle.std.proofs.lemmas.Bool.{eq-eqb, ne_eqb}
use Rattle.std.proofs.Math.Nat.{eq-or-lt_of_le}
use Rattle.pim_adder.specs.Drawn.{RowsView, row_line}
use Rattle.std.proofs.lemmas.List.FromFn.{length-map-range_with_len}
use Rattle.pim_io.specs.Bits.{bits_of}
use Rattle.pim_io.specs.Lanes.{lane}
use Rattle.pim_isa.specs.Programs.{ProgramView}
use Rattle.pim_isa.specs.Results.{load}
use Rattle.pim_isa.specs.Steps.{bit, exec}
use Rattle.pim_isa.specs.declared.target.Fill.TheVariants.{Zeros}
use Rattle.pim_lanes.specs.Banks.{BankView, row_of}
use Rattle.pim_vectors.specs.Tiles.{IsLane, TileView, column_of, vector_of}
use Rattle.pim_bench.specs.inner.Executed.{Answers, Holds, later}

pub vector_long : (t : TileView) (r : ℕ) → length (vector_of t r) ≡ t.columns
unfolding vector_of
vector_long t r = length-map-range_with_len (λ c. lane (column_of t c) r) 0 t.columns

-- one more row is packed
pub packed_more : (start row : RowsView) (old new : TileView) (lane : ℕ) (line : List ℕ) → lane < 4096 → old.words ≡ 64 → Holds start old lane → row ≡ later lane start
    → line ≡ row_line row → ((r : ℕ) → IsLane old r → vector_of new r ≡ cond (eqb r lane) (bits_of line) (vector_of old r)) → Holds start new (lane + 1)
packed_more start row old new lane line few words holds is_row is_line packed k small =
    packed k (omega (arith, words, few)) ∙ elim (eq-or-lt_of_le {n = k} {m = lane} (omega arith)) [
      | inl here ↦ ap (λ b. cond b (bits_of line) (vector_of old k)) (eq-eqb k lane here)
          ∙ ap bits_of (is_line ∙ ap row_line (is_row ∙ ap (λ n. later n start) (sym here)))
      | inr before ↦ ap (λ b. cond b (bits_of line) (vector_of old k)) (ne_eqb k lane (λ e. omega (arith, e))) ∙ holds k before
    ]

-- rows that were packed, executed and gathered are answered
pub answered : (p : ProgramView) (start : RowsView) (vectors results : TileView) (loaded ran : BankView) (words : ℕ) → words ≡ 64 → Holds start vectors 4096
    → ((r : ℕ) → r < 64 * words → row_of loaded r ≡ load p Zeros (vector_of vectors r))
    → ((r : ℕ) → r < 64 * words → row_of ran r ≡ exec p.instrs (row_of loaded r))
    → ((r : ℕ) → r < 64 * words → vector_of results r ≡ map (λ o. bit (row_of ran r) o.cell) p.outputs)
    → Answers p start results 4096
answered p start vectors results loaded ran words many holds load_is run_is gather_is k small =
    let row : k < 64 * words = omega (arith, many, small) in
    let outs = λ (m : List Bool). map (λ o. bit m o.cell) p.outputs in
    gather_is k row ∙ ap outs (run_is k row ∙ ap (exec p.instrs) (load_is k row ∙ ap (load p Zeros) (holds k small)))
