-- What `bench` writes: an adder is compiled three times, and each program is tried on the rows.
use Rattle.std.specs.Prelude.{◌≡◌, ◌≤◌, ℕ, ◌+◌, ◌*◌, ◌++◌, ◌∷◌, [], List, length, codes, decimal}
use Rattle.pim_adder.specs.Adders.{adder}
use Rattle.pim_compile.specs.Choices.{IsChosen}
use Rattle.pim_compile.specs.Computes.{Computes}
use Rattle.pim_compile.specs.Cycles.{IsQuick, TakesCycles}
use Rattle.pim_compile.specs.Networks.{FollowsSome, need, nors_of_two}
use Rattle.pim_compile.specs.Targets.{OnMagic, OnPlim}
use Rattle.pim_compile.specs.declared.compiling.Level.TheVariants.{Zero}
use Rattle.pim_isa.specs.Primed.{IsPrimed}
use Rattle.pim_isa.specs.Programs.{ProgramView}
use Rattle.pim_isa.specs.Writes.{nor_places}
use Rattle.pim_isa.specs.declared.target.Target.{Target}
use Rattle.pim_isa.specs.declared.target.Target.TheVariants.{Magic, Plim}
use Rattle.pim_net.specs.Netlist.{NetView, draft_of}
use Rattle.pim_net.specs.WellFormed.{IsNet}
use Rattle.pim_simpler.specs.Batching.{Batched}
use Rattle.pim_bench.specs.Trials.{wrong_of}
use Rattle.pim_bench.specs.declared.measuring.TheConstants.{WIDE_CELLS}
use Rattle.pim_bench.specs.declared.trial.TheConstants.{ROWS}

-- a program as `compile` gives it at level 0 for a target and a budget
pub record IsCompiled (n : NetView) (target : Target) (budget : ℕ) (p : ProgramView) : Type 0 where
  pub computes : Computes p n
  pub is_target : p.target ≡ target
  pub cells : p.cells ≤ budget
  pub primed : IsPrimed p.instrs
  pub follows : OnMagic target (FollowsSome Zero p n)
  pub batched : OnMagic target (Batched p)
  pub nors : OnMagic target (length (nor_places p.instrs) ≤ nors_of_two n)
  pub chosen : OnMagic target (IsChosen Zero n budget p)
  pub quick : OnMagic target (IsQuick Zero n budget p)
  pub cycles : OnPlim target (TakesCycles Zero n budget p)

-- the first line: how many bits, inputs, outputs and rows there are
abbrev pub head_line : ℕ → List ℕ
head_line bits = codes "bench " ++ decimal bits ++ codes " inputs " ++ decimal (2 * bits + 1)
    ++ codes " outputs " ++ decimal (bits + 1) ++ codes " rows " ++ decimal ROWS ++ 10 ∷ []

-- the line of a program: its name, how many cells and cycles it has, and how many rows it answers wrongly
abbrev pub program_line : List ℕ → ProgramView → ℕ → List ℕ
program_line name p wrong = name ++ codes " cells " ++ decimal p.cells
    ++ codes " cycles " ++ decimal (length p.instrs) ++ codes " wrong " ++ decimal wrong ++ 10 ∷ []

-- the whole text, for three programs
abbrev pub summary : ℕ → ProgramView → ProgramView → ProgramView → List ℕ
summary bits wide tight plim = head_line bits
    ++ program_line (codes "wide") wide (wrong_of wide bits)
    ++ program_line (codes "tight") tight (wrong_of tight bits)
    ++ program_line (codes "plim") plim (wrong_of plim bits)

-- the text is that of three programs of the adder: for MAGIC with many cells and with those that it needs, and for PLiM with
-- those that it needs
pub record IsSummary (bits : ℕ) (text : List ℕ) : Type 0 where
  pub net : NetView
  pub checked : IsNet net
  pub is_adder : draft_of net ≡ adder bits
  pub wide : ProgramView
  pub is_wide : IsCompiled net Magic WIDE_CELLS wide
  pub tight : ProgramView
  pub is_tight : IsCompiled net Magic (need net Magic) tight
  pub plim : ProgramView
  pub is_plim : IsCompiled net Plim (need net Plim) plim
  pub is : text ≡ summary bits wide tight plim
