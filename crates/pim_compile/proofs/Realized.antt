-- What a program realizes goes by what a function gives.
use Rattle.std.proofs.Common.{◌≡◌, ℕ, Bool, List, length, ◌∙◌}
use Rattle.pim_isa.specs.Programs.{ProgramView}
use Rattle.pim_isa.specs.Realizes.{Realizes}

-- what is realized, where two functions give the same
pub Realizes-same : (p : ProgramView) (labels : List (List ℕ)) (f h : List Bool → List Bool) → ((bits : List Bool) → length bits ≡ length labels → f bits ≡ h bits) → Realizes p labels f → Realizes p labels h
Realizes-same p labels f h same r = record {
  inputs = r.inputs;
  keeps_inputs = r.keeps_inputs;
  gives_outputs = λ m bits len wide front. r.gives_outputs m bits len wide front ∙ same bits len;
  keeps_length = r.keeps_length;
  keeps_others = r.keeps_others;
}
