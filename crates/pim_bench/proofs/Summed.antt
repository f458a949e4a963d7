-- The lines of a summary, one after another.
use Rattle.std.proofs.Common.{◌≡◌, ◌∙◌, ◌++◌, ℕ, List, [], ap, codes}
use Rattle.pim_isa.specs.Programs.{ProgramView}
use Rattle.pim_bench.specs.Summaries.{head_line, program_line, summary}
use Rattle.pim_bench.specs.Trials.{wrong_of}

abbrev with_line : ℕ → List ℕ → ProgramView → List ℕ → List ℕ
with_line bits name p text = text ++ program_line name p (wrong_of p bits)

pub summed : (bits : ℕ) (t0 t1 t2 t3 t4 written : List ℕ) (wide tight plim : ProgramView) → t0 ≡ [] → t1 ≡ t0 ++ head_line bits → t2 ≡ t1 ++ program_line (codes "wide") wide (wrong_of wide bits)
    → t3 ≡ t2 ++ program_line (codes "tight") tight (wrong_of tight bits) → t4 ≡ t3 ++ program_line (codes "plim") plim (wrong_of plim bits) → written ≡ t4
    → written ≡ summary bits wide tight plim
summed bits t0 t1 t2 t3 t4 written wide tight plim e0 e1 e2 e3 e4 is =
    is ∙ e4 ∙ ap (with_line bits (codes "plim") plim) (e3 ∙ ap (with_line bits (codes "tight") tight) (e2 ∙ ap (with_line bits (codes "wide") wide) (e1 ∙ ap (λ t. t ++ head_line bits) e0)))
