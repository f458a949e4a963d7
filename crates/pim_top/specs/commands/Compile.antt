-- What `compile` says of a netlist's bytes.
use Rattle.std.specs.Prelude.{◌≡◌, ◌⊎◌, ◌≤◌, ℕ, List, Result, Ok, Err, length}
use Rattle.pim_aig.specs.Flat.{ands}
use Rattle.pim_aig.specs.declared.graph.TheConstants.{MAX_ANDS}
use Rattle.pim_compile.specs.Computes.{Computes}
use Rattle.pim_compile.specs.Cycles.{IsQuick, TakesCycles}
use Rattle.pim_compile.specs.Networks.{coarse_need, need}
use Rattle.pim_compile.specs.Refusals.{IsAccepted, IsCoarse, IsRefusal}
use Rattle.pim_compile.specs.Targets.{OnMagic, OnPlim}
use Rattle.pim_compile.specs.declared.compiling.Level.{Level}
use Rattle.pim_compile.specs.declared.compiling.Level.TheVariants as efforts
use Rattle.pim_compile.specs.declared.refusal.Refusal.{Refusal}
use Rattle.pim_file.specs.Text.{text}
use Rattle.pim_isa.specs.Primed.{IsPrimed}
use Rattle.pim_isa.specs.Programs.{ProgramView}
use Rattle.pim_isa.specs.Sound.{IsProgram}
use Rattle.pim_isa.specs.declared.target.Target.{Target}
use Rattle.pim_isa.specs.declared.target.Target.TheVariants as machines
use Rattle.pim_net.specs.Netlist.{DraftView, NetView, draft_of}
use Rattle.pim_net.specs.WellFormed.{IsNet}
use Rattle.pim_words.specs.declared.command.LevelWord.{LevelWord}
use Rattle.pim_words.specs.declared.command.LevelWord.TheVariants as levels
use Rattle.pim_words.specs.declared.command.TargetWord.{TargetWord}
use Rattle.pim_words.specs.declared.command.TargetWord.TheVariants as targets
use Rattle.pim_top.specs.Netlists.{net_of}
use Rattle.pim_top.specs.declared.judgement.Judgement.{Judgement}
use Rattle.pim_top.specs.declared.judgement.Judgement.TheVariants.{Compile, Netlist}
use Rattle.pim_io.specs.declared.limits.TheConstants.{MAX_INPUT}

-- the machine that a word of `--target` names
abbrev pub machine_of : TargetWord → Target
machine_of targets.Magic = machines.Magic
machine_of targets.Plim = machines.Plim

-- the effort that a word of `--level` names
abbrev pub level_of : LevelWord → Level
level_of levels.Zero = efforts.Zero
level_of levels.One = efforts.One
level_of levels.Two = efforts.Two

-- what a budget says with which the netlist was compiled: for MAGIC at level 0 it is at least the need
abbrev pub WasEnough : TargetWord → LevelWord → ℕ → NetView → Type 0
WasEnough target level budget net = IsAccepted net (machine_of target) (level_of level) budget

-- the flat graph of the netlist is within the limit, and the budget is at least the need; or at least the bound that is easier to
-- reckon
pub record IsEnough (target : TargetWord) (budget : ℕ) (net : NetView) : Type 0 where
  pub few : ands net ≤ MAX_ANDS
  pub room : (need net (machine_of target) ≤ budget) ⊎ (coarse_need net (machine_of target) ≤ budget)

-- the compiler refuses the netlist rightly so
abbrev pub IsRefusedFor : TargetWord → ℕ → NetView → Refusal → Type 0
IsRefusedFor target budget net refusal = IsRefusal net (machine_of target) budget refusal × IsCoarse net (machine_of target) budget refusal

-- the written bytes are the text of a program for the target that computes the netlist of the bytes, from every earlier content of
-- the other cells; it names no cell beyond the budget, primes every NOR target, takes the cycles of the level for PLiM, and for MAGIC
-- few where the budget has a cell for each gate; the budget was enough
pub record Compiled (target : TargetWord) (level : LevelWord) (budget : ℕ) (bytes written : List ℕ) : Type 0 where
  pub net : NetView
  pub program : ProgramView
  pub checked : IsNet net
  pub valid : IsProgram program
  pub is_net : net_of bytes ≡ Ok (draft_of net)
  pub is_text : written ≡ text program
  pub computes : Computes program net
  pub primed : IsPrimed program.instrs
  pub cycles : OnPlim (machine_of target) (TakesCycles (level_of level) net budget program)
  pub quick : OnMagic (machine_of target) (IsQuick (level_of level) net budget program)
  pub is_target : program.target ≡ machine_of target
  pub within : program.cells ≤ budget
  pub enough : WasEnough target level budget net

-- the bytes are a netlist that the compiler refuses rightly so
pub record IsUncompiled (target : TargetWord) (budget : ℕ) (bytes : List ℕ) (refusal : Refusal) : Type 0 where
  pub net : NetView
  pub checked : IsNet net
  pub is_net : net_of bytes ≡ Ok (draft_of net)
  pub right : IsRefusedFor target budget net refusal

-- the text that `compile` writes, or why it refuses the bytes
abbrev pub CompileAnswers : TargetWord → LevelWord → ℕ → List ℕ → Result (List ℕ) Judgement → Type 0
CompileAnswers target level budget bytes (Ok written) = Compiled target level budget bytes written
CompileAnswers target level budget bytes (Err (Netlist fault)) = net_of bytes ≡ Err fault
CompileAnswers target level budget bytes (Err (Compile refusal)) = IsUncompiled target budget bytes refusal
CompileAnswers target level budget bytes (Err j) = ⊥

-- the bytes are a netlist within the limits for which the budget is enough
pub record CompilesFine (target : TargetWord) (budget : ℕ) (bytes : List ℕ) : Type 0 where
  pub fits : length bytes ≤ MAX_INPUT
  pub draft : DraftView
  pub is_net : net_of bytes ≡ Ok draft
  pub enough : (net : NetView) → IsNet net → draft_of net ≡ draft → IsEnough target budget net
