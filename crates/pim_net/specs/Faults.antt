-- Why a draft is no netlist: the first fault, with its evidence.
use Rattle.std.specs.Prelude.{ℕ, zero, suc, ◌==◌, ◌++◌, if◌then◌else◌, List, [], ◌∷◌, reverse, length, Option, Some, None, is_some, is_none, option_map, find}
use Rattle.std.specs.Option.{option_or}
use Rattle.pim_net.specs.Netlist.{DraftView}
use Rattle.pim_net.specs.Drivers.{place, driven, read, equation_of}
use Rattle.pim_net.specs.Depths.{depth}
use Rattle.pim_net.specs.declared.parts.Equation.{Equation}
use Rattle.pim_net.specs.declared.parts.OutRef.{OutRef}
use Rattle.pim_net.specs.declared.fault.NetFault.{NetFault}
use Rattle.pim_net.specs.declared.fault.NetFault.TheVariants.{Twice, Undriven, Cycle, NoMemory}

-- the first of these signals that also stands before it
abbrev pub first_repeat : List ℕ → List ℕ → Option ℕ
first_repeat before [] = None
first_repeat before (s ∷ rest) = if is_some (place s before) then Some s else first_repeat (before ++ s ∷ []) rest

-- the first driver whose signal an earlier one drives
abbrev pub twice : List ℕ → List Equation → Option ℕ
twice inputs equations = first_repeat [] (driven inputs equations)

-- the first signal that is read and that nothing drives
abbrev pub undriven : List ℕ → List Equation → List OutRef → Option ℕ
undriven inputs equations outputs = find (λ s. is_none (place s (driven inputs equations))) (read equations outputs)

-- the first column of an equation that has no depth
abbrev pub column_without : (ℕ → Option ℕ) → Option Equation → Option ℕ
column_without depths None = None
column_without depths (Some e) = find (λ c. is_none (depths c)) e.cover.ins

-- the signal that a walk goes on to from a signal: the first column without a depth of its equation
abbrev pub next_signal : List ℕ → List Equation → ℕ → Option ℕ
next_signal inputs equations s = column_without (depth inputs equations) (equation_of equations s)

-- the part of a walk, latest signal first, back to a signal
abbrev pub back_to : ℕ → List ℕ → List ℕ
back_to s [] = []
back_to s (x ∷ walked) = if x == s then x ∷ [] else x ∷ back_to s walked

-- a walk that stands before a signal, with what was walked, latest signal first: where the signal was walked before, the
-- part from there on; else it goes on to the next signal, for at most k signals
abbrev pub walk : (ℕ → Option ℕ) → ℕ → List ℕ → Option ℕ → List ℕ
walk next zero walked at = []
walk next (suc k) walked None = []
walk next (suc k) walked (Some s) =
    if is_some (place s walked) then reverse (back_to s walked) else walk next k (s ∷ walked) (next s)

-- the cycle that a walk from the first equation without a depth comes to, if there is such an equation
abbrev pub cycle : List ℕ → List Equation → Option (List ℕ)
cycle inputs equations =
    option_map (λ e. walk (next_signal inputs equations) (suc (length equations)) [] (Some e.sig))
    (find (λ e. is_none (depth inputs equations e.sig)) equations)

-- the signals that a fault names, in order
abbrev pub signals_of : NetFault → List ℕ
signals_of (Twice s) = s ∷ []
signals_of (Undriven s) = s ∷ []
signals_of (Cycle signals) = signals
signals_of NoMemory = []

-- the fault of these parts: a second driver before a lack of one, and that before a cycle
abbrev pub fault_of : List ℕ → List Equation → List OutRef → Option NetFault
fault_of inputs equations outputs =
    option_or (option_map Twice (twice inputs equations))
    (option_or (option_map Undriven (undriven inputs equations outputs)) (option_map Cycle (cycle inputs equations)))

-- the fault of a draft
abbrev pub net_fault : DraftView → Option NetFault
net_fault d = fault_of d.inputs d.equations d.outputs
