-- What `imply` says of a netlist's bytes.
use Rattle.std.specs.Prelude.{◌≡◌, ◌≤◌, ℕ, List, Result, Ok, Err, length}
use Rattle.pim_aig.specs.Flat.{ands, flat}
use Rattle.pim_aig.specs.declared.graph.TheConstants.{MAX_ANDS}
use Rattle.pim_imply.specs.Compiled.{IComputes, IsUnfit}
use Rattle.pim_imply.specs.Costs.{impcost, needed_of}
use Rattle.pim_imply.specs.Programs.{ImplyView}
use Rattle.pim_imply.specs.Reading.{imply_of}
use Rattle.pim_imply.specs.Text.{text}
use Rattle.pim_imply.specs.declared.refusal.ImplyRefusal.{ImplyRefusal}
use Rattle.pim_io.specs.declared.limits.TheConstants.{MAX_INPUT}
use Rattle.pim_net.specs.Netlist.{DraftView, NetView, draft_of}
use Rattle.pim_net.specs.WellFormed.{IsNet}
use Rattle.pim_top.specs.Netlists.{net_of}
use Rattle.pim_top.specs.declared.judgement.Judgement.{Judgement}
use Rattle.pim_top.specs.declared.judgement.Judgement.TheVariants.{Imply, Netlist}

-- the written bytes are the text of a program of `false` and `imp`, and are read as it; the program computes the netlist of the bytes,
-- from every earlier content of the other cells; it has as many cells as are needed, which is no more than the budget, and takes
-- exactly the cycles that the gates of the netlist cost
pub record Implied (budget : ℕ) (bytes written : List ℕ) : Type 0 where
  pub net : NetView
  pub program : ImplyView
  pub checked : IsNet net
  pub is_net : net_of bytes ≡ Ok (draft_of net)
  pub is_text : written ≡ text program
  pub read : imply_of written ≡ Ok program
  pub computes : IComputes program net
  pub within : program.cells ≤ budget
  pub needed : program.cells ≡ needed_of (flat net)
  pub cycles : length program.instrs ≡ impcost (flat net)

-- the bytes are a netlist that is refused rightly so
pub record IsUnimplied (budget : ℕ) (bytes : List ℕ) (refusal : ImplyRefusal) : Type 0 where
  pub net : NetView
  pub checked : IsNet net
  pub is_net : net_of bytes ≡ Ok (draft_of net)
  pub right : IsUnfit net budget refusal

-- the text that `imply` writes, or why it refuses the bytes
abbrev pub ImplyAnswers : ℕ → List ℕ → Result (List ℕ) Judgement → Type 0
ImplyAnswers budget bytes (Ok written) = Implied budget bytes written
ImplyAnswers budget bytes (Err (Netlist fault)) = net_of bytes ≡ Err fault
ImplyAnswers budget bytes (Err (Imply refusal)) = IsUnimplied budget bytes refusal
ImplyAnswers budget bytes (Err j) = ⊥

-- the flat graph of the netlist is within the limit, and the budget is at least what is needed
pub record IsRoomy (budget : ℕ) (net : NetView) : Type 0 where
  pub few : ands net ≤ MAX_ANDS
  pub room : needed_of (flat net) ≤ budget

-- the bytes are a netlist within the limits for which the budget is enough
pub record ImpliesFine (budget : ℕ) (bytes : List ℕ) : Type 0 where
  pub fits : length bytes ≤ MAX_INPUT
  pub draft : DraftView
  pub is_net : net_of bytes ≡ Ok draft
  pub enough : (net : NetView) → IsNet net → draft_of net ≡ draft → IsRoomy budget net
