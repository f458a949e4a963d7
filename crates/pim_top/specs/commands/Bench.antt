-- What `bench` writes.
use Rattle.std.specs.Prelude.{ℕ, List, Result, Ok, Err}
use Rattle.pim_bench.specs.Summaries.{IsSummary}
use Rattle.pim_top.specs.declared.judgement.Judgement.{Judgement}

-- the text of `bench` for numbers of so many bits; nothing is refused
abbrev pub BenchAnswers : ℕ → Result (List ℕ) Judgement → Type 0
BenchAnswers bits (Ok written) = IsSummary bits written
BenchAnswers bits (Err j) = ⊥
