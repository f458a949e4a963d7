-- Small drafts, with their faults, values and depths by computation.
use Rattle.std.specs.Prelude.{◌≡◌, ℕ, true, false, List, [], ◌∷◌, map, Some, None, refl}
use Rattle.std.proofs.Common.{◌+◌, ◌<◌, zero, suc, length, get_or, ap, sym, ◌∙◌, lit<, arith}
use Rattle.pim_net.specs.Netlist.{DraftView, NetView}
use Rattle.pim_net.specs.Cycles.{Reads, IsCycle}
use Rattle.pim_net.specs.Values.{outs}
use Rattle.pim_net.specs.Depths.{depth}
use Rattle.pim_net.specs.Faults.{net_fault}
use Rattle.pim_net.specs.declared.cover.Bit3.{Bit3}
use Rattle.pim_net.specs.declared.cover.Bit3.TheVariants.{Zero, One, Any}
use Rattle.pim_net.specs.declared.parts.Equation.{Equation}
use Rattle.pim_net.specs.declared.parts.OutRef.{OutRef}
use Rattle.pim_net.specs.declared.fault.NetFault.TheVariants.{Twice, Undriven, Cycle}

-- an equation whose cover holds where these cells do
abbrev product : ℕ → List ℕ → List Bit3 → Equation
product s ins cells = record { sig = s; cover = record { ins = ins; rows = cells ∷ []; phase = true } }

abbrev out : ℕ → OutRef
out s = record { sig = s; neg = false }

abbrev draft : List ℕ → List Equation → List OutRef → DraftView
draft inputs equations outputs =
    record { inputs = inputs; input_labels = []; equations = equations; outputs = outputs; output_labels = [] }

-- signal 2 is signal 0 and signal 1; the outputs are signal 2 and its complement
abbrev and_net : NetView
and_net = record {
  inputs = 0 ∷ 1 ∷ [];
  input_labels = [];
  equations = product 2 (0 ∷ 1 ∷ []) (One ∷ One ∷ []) ∷ [];
  outputs = out 2 ∷ record { sig = 2; neg = true } ∷ [];
  output_labels = [];
  topo = 0 ∷ [];
}

and_of_ones : outs and_net (true ∷ true ∷ []) ≡ true ∷ false ∷ []
and_of_ones = refl

and_of_one : outs and_net (true ∷ false ∷ []) ≡ false ∷ true ∷ []
and_of_one = refl

-- a cover of phase 0, whose one row asks for a 0 and passes over a column
off_net : NetView
off_net = record {
  inputs = 0 ∷ 1 ∷ [];
  input_labels = [];
  equations = record { sig = 2; cover = record { ins = 0 ∷ 1 ∷ []; rows = (Zero ∷ Any ∷ []) ∷ []; phase = false } } ∷ [];
  outputs = out 2 ∷ [];
  output_labels = [];
  topo = 0 ∷ [];
}

off_set : outs off_net (false ∷ true ∷ []) ≡ false ∷ []
unfolding off_net
off_set = refl

off_set_else : outs off_net (true ∷ true ∷ []) ≡ true ∷ []
unfolding off_net
off_set_else = refl

-- the AND is well-formed, and its depth is 1
and_fault : net_fault (draft (0 ∷ 1 ∷ []) (product 2 (0 ∷ 1 ∷ []) (One ∷ One ∷ []) ∷ []) (out 2 ∷ [])) ≡ None
and_fault = refl

and_depth : depth (0 ∷ 1 ∷ []) (product 2 (0 ∷ 1 ∷ []) (One ∷ One ∷ []) ∷ []) 2 ≡ Some 1
and_depth = refl

-- a chain of equations, the last of them first: 3 equals 2, 2 is not 1, and 1 equals the input 0
abbrev chain : List Equation
chain = product 3 (2 ∷ []) (One ∷ []) ∷ product 2 (1 ∷ []) (Zero ∷ []) ∷ product 1 (0 ∷ []) (One ∷ []) ∷ []

-- one of its outputs is the input itself
abbrev chain_net : NetView
chain_net = record {
  inputs = 0 ∷ [];
  input_labels = [];
  equations = chain;
  outputs = out 3 ∷ out 0 ∷ [];
  output_labels = [];
  topo = 2 ∷ 1 ∷ 0 ∷ [];
}

chain_of_one : outs chain_net (true ∷ []) ≡ false ∷ true ∷ []
chain_of_one = refl

chain_of_zero : outs chain_net (false ∷ []) ≡ true ∷ false ∷ []
chain_of_zero = refl

chain_fault : net_fault (draft (0 ∷ []) chain (out 3 ∷ out 0 ∷ [])) ≡ None
chain_fault = refl

-- an input has depth 0, and each equation is one deeper than the one that it reads
chain_depths : map (depth (0 ∷ []) chain) (0 ∷ 1 ∷ 2 ∷ 3 ∷ []) ≡ Some 0 ∷ Some 1 ∷ Some 2 ∷ Some 3 ∷ []
chain_depths = refl

-- a cover without rows is false, or true where its phase is 0, and without columns its depth is 1
abbrev constants : List Equation
constants = record { sig = 0; cover = record { ins = []; rows = []; phase = true } } ∷ record { sig = 1; cover = record { ins = 0 ∷ []; rows = []; phase = false } } ∷ []

constants_net : NetView
constants_net = record { inputs = []; input_labels = []; equations = constants; outputs = out 0 ∷ out 1 ∷ []; output_labels = []; topo = 0 ∷ 1 ∷ [] }

constant_outs : outs constants_net [] ≡ false ∷ true ∷ []
unfolding constants_net
constant_outs = refl

constant_depths : map (depth [] constants) (0 ∷ 1 ∷ []) ≡ Some 1 ∷ Some 2 ∷ []
constant_depths = refl

-- a signal that equals itself
itself : net_fault (draft [] (product 5 (5 ∷ []) (One ∷ []) ∷ []) (out 5 ∷ [])) ≡ Some (Cycle (5 ∷ []))
itself = refl

-- 3 reads 4 and 4 reads 3; what reads the cycle is not part of it
two_cycle : net_fault (draft [] (product 7 (3 ∷ []) (One ∷ []) ∷ product 3 (4 ∷ []) (One ∷ []) ∷ product 4 (3 ∷ []) (One ∷ []) ∷ []) (out 7 ∷ [])) ≡ Some (Cycle (3 ∷ 4 ∷ []))
two_cycle = refl

-- 3 reads the input 0, then 5, which has a depth, and then 4, which reads 3: the walk goes past the columns with a depth
past_columns : net_fault (draft (0 ∷ []) (product 5 (0 ∷ []) (One ∷ []) ∷ product 3 (0 ∷ 5 ∷ 4 ∷ []) (One ∷ One ∷ One ∷ []) ∷ product 4 (5 ∷ 3 ∷ []) (One ∷ Any ∷ []) ∷ []) (out 3 ∷ [])) ≡ Some (Cycle (3 ∷ 4 ∷ []))
past_columns = refl

-- that list is a cycle: the equation at 1 reads 4, and the one at 2 reads 3
is_two_cycle : IsCycle (product 7 (3 ∷ []) (One ∷ []) ∷ product 3 (4 ∷ []) (One ∷ []) ∷ product 4 (3 ∷ []) (One ∷ []) ∷ []) (3 ∷ 4 ∷ [])
is_two_cycle = record {
  some = lit< tt;
  next = after;
  round = (product 4 (3 ∷ []) (One ∷ []), (2, lit< tt, refl), refl, (0, lit< tt, refl));
}
  where
    after : (i : ℕ) → i + 1 < 2 → Reads (product 7 (3 ∷ []) (One ∷ []) ∷ product 3 (4 ∷ []) (One ∷ []) ∷ product 4 (3 ∷ []) (One ∷ []) ∷ []) (get_or (3 ∷ 4 ∷ []) i 0) (get_or (3 ∷ 4 ∷ []) (i + 1) 0)
    after zero h = (product 3 (4 ∷ []) (One ∷ []), (1, lit< tt, refl), refl, (0, lit< tt, refl))
    after (suc i) h = absurd (omega arith)

-- 3 alone is no cycle where its equation reads 4 alone
not_alone : IsCycle (product 3 (4 ∷ []) (One ∷ []) ∷ []) (3 ∷ []) → ⊥
not_alone cycle =
    let r = cycle.round in
    let first : (r.1).0 ≡ 0 = omega (arith, (r.1).1) in
    let equation : product 3 (4 ∷ []) (One ∷ []) ≡ r.0 = ap (λ k. get_or (product 3 (4 ∷ []) (One ∷ []) ∷ []) k r.0) (sym first) ∙ (r.1).2 in
    let long : 1 ≡ length r.0.cover.ins = ap (λ (e : Equation). length e.cover.ins) equation in
    let only : (r.3).0 ≡ 0 = omega (arith, long, (r.3).1) in
    let column : 4 ≡ 3 = ap (λ (e : Equation). get_or e.cover.ins 0 3) equation ∙ ap (λ j. get_or r.0.cover.ins j 3) (sym only) ∙ (r.3).2 in
    omega (arith, column)

-- an equation's column before an output
column_undriven : net_fault (draft (0 ∷ []) (product 1 (0 ∷ 8 ∷ []) (One ∷ One ∷ []) ∷ []) (out 9 ∷ [])) ≡ Some (Undriven 8)
column_undriven = refl

output_undriven : net_fault (draft (0 ∷ []) [] (out 0 ∷ out 9 ∷ [])) ≡ Some (Undriven 9)
output_undriven = refl

-- the second driver of 2 comes before that of 1, and before the missing one of 6
second_driver : net_fault (draft (0 ∷ 1 ∷ 2 ∷ []) (product 2 (6 ∷ []) (One ∷ []) ∷ product 1 (0 ∷ []) (One ∷ []) ∷ []) (out 2 ∷ [])) ≡ Some (Twice 2)
second_driver = refl
