-- The flat graph of a netlist.
use Rattle.std.specs.Prelude.{ℕ, suc, ◌+◌, ◌-◌, if◌then◌else◌, List, [], ◌∷◌, length, map, Option, Some, None, slice_get, sum_by}
use Rattle.pim_net.specs.Covers.{CoverView}
use Rattle.pim_net.specs.Netlist.{NetView}
use Rattle.pim_net.specs.Tables.{put}
use Rattle.pim_net.specs.declared.cover.Bit3.{Bit3}
use Rattle.pim_net.specs.declared.cover.Bit3.TheVariants.{Zero, One, Any}
use Rattle.pim_net.specs.declared.parts.Equation.{Equation}
use Rattle.pim_net.specs.declared.parts.OutRef.{OutRef}
use Rattle.pim_aig.specs.Chains.{cover_from}
use Rattle.pim_aig.specs.Graph.{AigView}
use Rattle.pim_aig.specs.Literals.{plain, complement}
use Rattle.pim_aig.specs.declared.literal.Lit.{Lit}
use Rattle.pim_aig.specs.declared.graph.And.{And}

-- the AND nodes so far, and the literal of each signal that has one
pub record Flattened : Type 0 where
  pub ands : List And
  pub lits : ℕ → Lit

-- before there is any literal
abbrev pub no_literals : ℕ → Lit
no_literals s = record { 0 = 0 }

-- the inputs from number k on have the plain literals of the nodes from k + 1 on
abbrev pub inputs_from : (ℕ → Lit) → ℕ → List ℕ → ℕ → Lit
inputs_from lits k [] = lits
inputs_from lits k (s ∷ ss) = inputs_from (put lits s (plain (1 + k))) (k + 1) ss

-- one equation's cover
abbrev pub equation_from : ℕ → (ℕ → Lit) → List And → Option Equation → Flattened
equation_from inputs lits ands None = record { ands = ands; lits = lits }
equation_from inputs lits ands (Some e) =
    let built = cover_from inputs lits ands e.cover in
    record { ands = built.ands; lits = put lits e.sig built.lit }

-- the covers of the equations of these numbers, one after another
abbrev pub equations_from : ℕ → List Equation → (ℕ → Lit) → List And → List ℕ → Flattened
equations_from inputs equations lits ands [] = record { ands = ands; lits = lits }
equations_from inputs equations lits ands (k ∷ ks) =
    let next = equation_from inputs lits ands (slice_get equations k) in
    equations_from inputs equations next.lits next.ands ks

-- the literals of all signals, and the AND nodes
abbrev pub flattened : NetView → Flattened
flattened n =
    equations_from (length n.inputs) n.equations (inputs_from no_literals 0 n.inputs) [] n.topo

-- an output's literal, with its sign
abbrev pub output_literal : (ℕ → Lit) → OutRef → Lit
output_literal lits o = if o.neg then complement (lits o.sig) else lits o.sig

-- the flat graph: each equation by depth becomes chains of AND nodes
abbrev pub flat : NetView → AigView
flat n = record {
  inputs = length n.inputs;
  ands = (flattened n).ands;
  outputs = map (output_literal (flattened n).lits) n.outputs;
}

-- how many columns a row asks
abbrev pub asked_count : List Bit3 → ℕ
asked_count [] = 0
asked_count (Zero ∷ row) = suc (asked_count row)
asked_count (One ∷ row) = suc (asked_count row)
asked_count (Any ∷ row) = asked_count row

-- the AND nodes of a cover: one less than the columns that it asks for each row, and one less than its rows
abbrev pub cover_ands : CoverView → ℕ
cover_ands c = sum_by (λ row. asked_count row - 1) c.rows + (length c.rows - 1)

-- the AND nodes of all equations
abbrev pub ands : NetView → ℕ
ands n = sum_by (λ e. cover_ands e.cover) n.equations
