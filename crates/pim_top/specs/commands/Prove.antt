-- What `prove` says of a program file and a netlist.
use Rattle.std.specs.Prelude.{◌≡◌, ◌≤◌, ◌^◌, ℕ, List, None, Some, Result, Ok, Err, codes, length}
use Rattle.pim_io.specs.declared.limits.TheConstants.{MAX_INPUT, MAX_PROGRAM}
use Rattle.pim_isa.specs.Programs.{ProgramView}
use Rattle.pim_net.specs.Netlist.{DraftView, NetView, draft_of}
use Rattle.pim_net.specs.WellFormed.{IsNet}
use Rattle.pim_io.specs.Bits.{line_of}
use Rattle.pim_prove.specs.Vectors.{digits}
use Rattle.pim_text.specs.Text.{counted_text}
use Rattle.pim_prove.specs.Proving.{IsEqual, IsFirstDifference, refusal_of}
use Rattle.pim_top.specs.Netlists.{net_of}
use Rattle.pim_top.specs.Programs.{program_of}
use Rattle.pim_top.specs.declared.judgement.Judgement.{Judgement}
use Rattle.pim_top.specs.declared.judgement.Judgement.TheVariants.{Netlist, Prove, Unequal}

-- the bytes are of a program and of a netlist of which this holds
pub record AreCompared (file input : List ℕ) (P : ProgramView → NetView → Type 0) : Type 0 where
  pub program : ProgramView
  pub net : NetView
  pub is_program : program_of file ≡ Ok program
  pub is_net : net_of input ≡ Ok (draft_of net)
  pub checked : IsNet net
  pub holds : P program net

-- the line that is written where all vectors agree, with their number
abbrev pub equal_line : NetView → List ℕ
equal_line net = counted_text (codes "equal ") (2 ^ length net.inputs)

-- the program is compared with the netlist, and gives its outputs for every vector, whatever the other cells hold; this is written
pub record AgreesWith (written : List ℕ) (program : ProgramView) (net : NetView) : Type 0 where
  pub compared : refusal_of program net ≡ None
  pub equal : IsEqual program net
  pub is_line : written ≡ equal_line net

-- it is compared, and this is the least vector at which it doesn't give them, and the first output that differs there
pub record DiffersAt (vector : List ℕ) (output : ℕ) (program : ProgramView) (net : NetView) : Type 0 where
  pub compared : refusal_of program net ≡ None
  pub number : ℕ
  pub is_vector : vector ≡ line_of (digits (length net.inputs) number)
  pub first : IsFirstDifference program net number output

-- the line that `prove` writes, or what it says against the netlist of the input, where the program file is one
abbrev pub ProveAnswers : List ℕ → List ℕ → Result (List ℕ) Judgement → Type 0
ProveAnswers file input (Ok written) = AreCompared file input (AgreesWith written)
ProveAnswers file input (Err (Netlist fault)) = net_of input ≡ Err fault
ProveAnswers file input (Err (Prove fault)) = AreCompared file input (λ program net. refusal_of program net ≡ Some fault)
ProveAnswers file input (Err (Unequal vector output)) = AreCompared file input (DiffersAt vector output)
ProveAnswers file input (Err j) = ⊥

-- the bytes are a program and a netlist within the limits that are compared
pub record ProvesFine (file input : List ℕ) : Type 0 where
  pub file_fits : length file ≤ MAX_PROGRAM
  pub program : ProgramView
  pub is_program : program_of file ≡ Ok program
  pub fits : length input ≤ MAX_INPUT
  pub draft : DraftView
  pub is_net : net_of input ≡ Ok draft
  pub compared : (net : NetView) → IsNet net → draft_of net ≡ draft → refusal_of program net ≡ None
