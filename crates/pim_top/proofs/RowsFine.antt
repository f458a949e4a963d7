-- A file and lines that a command takes which executes each line as a row are not refused.
use Rattle.std.proofs.Common.{◌≡◌, ◌⊎◌, ℕ, ◌+◌, ◌≤◌, Bool, true, false, cond, eqb, leb, List, [], ◌∷◌, None, Some, Result, Ok, Err, length, take, inl, inr, refl, sym, ap, ◌∙◌, subst, arith}
use Rattle.std.specs.Prelude.{All}
use Rattle.std.proofs.lemmas.Bool.{le-leb}
use Rattle.std.proofs.lemmas.Bool.Decides.{nat_tests}
use Rattle.std.proofs.lemmas.List.Elements.{All-head, All-tail}
use Rattle.pim_batch.specs.Runners.{Runner}
use Rattle.pim_io.specs.declared.limits.TheConstants.{MAX_INPUT, MAX_PROGRAM}
use Rattle.pim_vectors.specs.Lines.{lines}
use Rattle.pim_vectors.specs.Tiles.{IsVector}
use Rattle.pim_vectors.specs.declared.limits.TheConstants.{MAX_LINES}
use Rattle.pim_top.specs.Calls.{IsCalm}
use Rattle.pim_top.specs.Decides.{RowsDecide}
use Rattle.pim_top.specs.Judged.{first_refusal, input_refusal, is_vector, judged_lines, settled}
use Rattle.pim_top.specs.Reads.{Tells}
use Rattle.pim_top.specs.Rows.{IsUnloaded, RowsEnd}
use Rattle.pim_top.specs.Statuses.{answer_status}
use Rattle.pim_top.specs.Streams.{Seen, Stream}
use Rattle.pim_top.specs.Walks.{ran}
use Rattle.pim_top.specs.declared.judgement.Judgement.{Judgement}
use Rattle.pim_top.specs.declared.judgement.Judgement.TheVariants as judgement
use Rattle.pim_top.specs.declared.refusal.Origin.TheVariants as origin
use Rattle.pim_top.specs.declared.refusal.Refusal.{Refusal}
use Rattle.pim_top.specs.declared.refusal.Refusal.TheVariants as refusal
use Rattle.pim_top.specs.declared.status.Status.TheVariants as status
use Rattle.pim_top.proofs.RowsEnds.{rows-decided}
use Rattle.pim_top.proofs.WalkStates.{vector-yes}

-- the file gives a runner, and the lines are vectors of it, all of them within the limits
pub record AreTaken (load : List ℕ → Result Runner Judgement) (file input : List ℕ) : Type 0 where
  pub file_fits : length file ≤ MAX_PROGRAM
  pub runner : Runner
  pub loaded : load file ≡ Ok runner
  pub fits : length input ≤ MAX_INPUT
  pub few : length (lines input) ≤ MAX_LINES
  pub vectors : All (IsVector runner.width) (lines input)

-- few vectors are not refused
none-refused : (width n : ℕ) (ls : List (List ℕ)) → n + length ls ≤ MAX_LINES → All (IsVector width) ls → first_refusal width n None ls ≡ None
none-refused width n [] few all = refl
none-refused width n (line ∷ ls) few all =
    let more : eqb n MAX_LINES ≡ false = grind (arith, nat_tests) in
    let fits = vector-yes width line (All-head (IsVector width) line ls all) in
    ap (λ (b : Bool). cond b (Some (refusal.Judged judgement.TooManyLines)) (cond (is_vector width line) (first_refusal width (n + 1) None ls) (Some (refusal.Judged (judgement.Vector (n + 1)))))) more
    ∙ ap (λ (b : Bool). cond b (first_refusal width (n + 1) None ls) (Some (refusal.Judged (judgement.Vector (n + 1))))) fits
    ∙ none-refused width (n + 1) ls (omega (arith, few)) (All-tail (IsVector width) line ls all)

-- an input of few vectors within the limit is not refused
pub fine-input : (width : ℕ) (bytes : List ℕ) → length bytes ≤ MAX_INPUT → length (lines bytes) ≤ MAX_LINES → All (IsVector width) (lines bytes) → input_refusal width bytes ≡ None
fine-input width bytes fits few all =
    let yes = le-leb (length bytes) MAX_INPUT fits in
    ap (λ (b : Bool). first_refusal width 0 (cond b None (Some (refusal.TooLong origin.Input))) (judged_lines width bytes)) yes
    ∙ ap (first_refusal width 0 None) (judged bytes yes)
    ∙ none-refused width 0 (lines bytes) (omega arith) all
  where
    judged : (bytes : List ℕ) → leb (length bytes) MAX_INPUT ≡ true → judged_lines width bytes ≡ lines bytes
    judged bytes e = ap (λ (b : Bool). cond b (lines bytes) (lines (settled width (take MAX_INPUT bytes)))) e

abbrev ok_of : Runner → Result Runner Judgement
ok_of r = Ok r

done : (load : List ℕ → Result Runner Judgement) (file input : List ℕ) (answer : Result (List ℕ) Refusal) → AreTaken load file input → RowsDecide load file input answer → answer_status answer ≡ status.Done
done load file input answer fine h =
    let same : h.runner ≡ fine.runner = same-ok h.runner fine.runner (sym h.loaded ∙ fine.loaded) in
    let none : input_refusal h.runner.width input ≡ None = subst (λ (r : Runner). input_refusal r.width input ≡ None) (sym same) (fine-input fine.runner.width input fine.fits fine.few fine.vectors) in
    ap answer_status (h.is ∙ ap (ran h.runner input) none)
  where
    by : Result Runner Judgement → Runner → Runner
    by (Ok r) s = r
    by (Err j) s = s

    same-ok : (r s : Runner) → ok_of r ≡ ok_of s → r ≡ s
    same-ok r s e = ap (λ (x : Result Runner Judgement). by x s) e

-- what the command takes is done, or memory ran out
pub rows-fine : {Y : Type 0} (load : List ℕ → Result Runner Judgement) (seen : Seen) (file input : List ℕ) (result : Result Y Refusal) → Tells (Some MAX_PROGRAM) seen.program file → Tells (Some MAX_INPUT) seen.input input → IsCalm seen → RowsEnd load seen result → AreTaken load file input → (answer_status result ≡ status.Done) ⊎ (answer_status result ≡ status.NoMemory)
rows-fine load seen file input result t u calm h fine = elim (rows-decided load seen file input result t u calm h) [
  | inl (inl long) ↦ absurd (let z : ⊥ = omega (arith, fine.file_fits, long.0) in z)
  | inl (inr judged) ↦ absurd (let a = fine.loaded in let b = judged.2 in let z : ⊥ = cc in z)
  | inr (inl late) ↦ inl (late.3 ∙ done load file input late.0 fine late.2)
  | inr (inr memory) ↦ inr memory
]

-- a file of which no program was made gives no runner
pub unloaded : {X : Type 0} (load : List ℕ → Result X Judgement) (by : Result X Judgement → Result Runner Judgement) → ((j : Judgement) → by (Err j) ≡ Err j) → (s : Stream) (r : Refusal) → IsUnloaded load s r → IsUnloaded (λ file. by (load file)) s r
unloaded load by keeps s refusal.Usage h = h
unloaded load by keeps s refusal.NoMemory h = h
unloaded load by keeps s (refusal.ReadFault origin.Program) h = h
unloaded load by keeps s (refusal.ReadFault origin.Input) h = h
unloaded load by keeps s (refusal.TooLong origin.Program) h = h
unloaded load by keeps s (refusal.TooLong origin.Input) h = h
unloaded load by keeps s refusal.WriteFault h = h
unloaded load by keeps s (refusal.Judged j) h = elim h [
  | inl memory ↦ inl memory
  | inr loaded ↦ inr (record { file = loaded.file; read = loaded.read; is = ap by loaded.is ∙ keeps j })
]
