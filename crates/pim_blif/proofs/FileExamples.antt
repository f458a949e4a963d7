-- Small files, with the netlist or the fault that each gives, by computation.
use Rattle.std.specs.Prelude.{◌≡◌, ◌&&◌, ℕ, List, [], ◌∷◌, ◌++◌, Bool, true, false, not, Ok, Err, Some, None, refl, codes, length, map, replicate}
use Rattle.std.proofs.Common.{leb, ap, ◌∙◌}
use Rattle.pim_net.specs.declared.cover.Bit3.{Bit3}
use Rattle.pim_net.specs.declared.cover.Bit3.TheVariants.{Zero, One, Any}
use Rattle.pim_net.specs.declared.fault.NetFault.TheVariants as net_faults
use Rattle.pim_net.specs.declared.kind.Kind.TheVariants as kinds
use Rattle.pim_net.specs.declared.parts.Equation.{Equation}
use Rattle.pim_net.specs.declared.parts.OutRef.{OutRef}
use Rattle.pim_blif.specs.declared.fault.BlifFault.TheVariants as faults
use Rattle.pim_blif.specs.Directives.{PassedOver, Unsupported, passed_over, directive_of, directive_named}
use Rattle.pim_blif.specs.Signals.{is_known, distinct}
use Rattle.pim_blif.specs.Rows.{row_at}
use Rattle.pim_blif.specs.StatementFaults.{fault_if, name_fault, outputs_fault}
use Rattle.pim_blif.specs.Files.{net_of, netlist_by, judged_net}

-- a line before others
line : List ℕ → List ℕ → List ℕ
line text rest = text ++ 10 ∷ rest

-- an equation of a signal: a cover of these columns, with these rows and this phase
equation : ℕ → List ℕ → List (List Bit3) → Bool → Equation
equation sig ins rows phase = record { sig = sig; cover = record { ins = ins; rows = rows; phase = phase } }

-- an output that is a signal as it is
plain : ℕ → OutRef
plain sig = record { sig = sig; neg = false }

-- an exclusive or: the signals are numbered as they come
exclusive_or : net_of (line (codes ".model x") (line (codes ".inputs a b") (line (codes ".outputs f") (line (codes ".names a b f") (line (codes "10 1") (line (codes "01 1") (line (codes ".end") []))))))) ≡ Ok (record {
  inputs = 0 ∷ 1 ∷ [];
  input_labels = codes "a" ∷ codes "b" ∷ [];
  equations = equation 2 (0 ∷ 1 ∷ []) ((One ∷ Zero ∷ []) ∷ (Zero ∷ One ∷ []) ∷ []) true ∷ [];
  outputs = plain 2 ∷ [];
  output_labels = codes "f" ∷ [];
})
unfolding net_of netlist_by judged_net directive_named row_at line equation plain
exclusive_or = refl

-- a cover whose rows tell where it is false
off_set : net_of (line (codes ".inputs a b") (line (codes ".outputs f") (line (codes ".names a b f") (line (codes "1- 0") [])))) ≡ Ok (record {
  inputs = 0 ∷ 1 ∷ [];
  input_labels = codes "a" ∷ codes "b" ∷ [];
  equations = equation 2 (0 ∷ 1 ∷ []) ((One ∷ Any ∷ []) ∷ []) false ∷ [];
  outputs = plain 2 ∷ [];
  output_labels = codes "f" ∷ [];
})
unfolding net_of netlist_by judged_net directive_named row_at line equation plain
off_set = refl

-- constants: a cover without rows is false, and one with the row `1` is true
constants : net_of (line (codes ".outputs f g") (line (codes ".names f") (line (codes ".names g") (line (codes "1") [])))) ≡ Ok (record {
  inputs = [];
  input_labels = [];
  equations = equation 0 [] [] true ∷ equation 1 [] ([] ∷ []) true ∷ [];
  outputs = plain 0 ∷ plain 1 ∷ [];
  output_labels = codes "f" ∷ codes "g" ∷ [];
})
unfolding net_of netlist_by judged_net directive_named row_at line equation plain
constants = refl

-- a file without a statement has a fault in its first line
no_statement : net_of (line (codes "# nothing") []) ≡ Err (faults.Syntax 1)
unfolding net_of netlist_by line
no_statement = refl

-- a row where no cover is open
stray_row : net_of (line (codes ".inputs a") (line (codes "1 1") [])) ≡ Err (faults.Syntax 2)
unfolding net_of netlist_by directive_named line
stray_row = refl

-- a directive that is passed over ends a cover
passed_over_ends : net_of (line (codes ".names a f") (line (codes ".area 1") (line (codes "1 1") []))) ≡ Err (faults.Syntax 3)
unfolding net_of netlist_by directive_named row_at line
passed_over_ends = refl

-- a directive that is not supported, and a word of a dot alone
latch : net_of (line (codes ".model q") (line (codes ".latch x f") [])) ≡ Err (faults.Unsupported 2 (codes ".latch"))
unfolding net_of netlist_by directive_named line
latch = refl

dot : net_of (line (codes ". x") []) ≡ Err (faults.Unsupported 1 (codes "."))
unfolding net_of netlist_by directive_named line
dot = refl

-- `.model` stands before every other statement
late_model : net_of (line (codes ".area 1") (line (codes ".model m") [])) ≡ Err (faults.Unsupported 2 (codes ".model"))
unfolding net_of netlist_by directive_named line
late_model = refl

-- behind `.end` nothing may stand
behind_end : net_of (line (codes ".end") (line (codes ".delay") [])) ≡ Err (faults.Syntax 2)
unfolding net_of netlist_by directive_named line
behind_end = refl

model_behind_end : net_of (line (codes ".end") (line (codes ".model m") [])) ≡ Err (faults.Unsupported 2 (codes ".model"))
unfolding net_of netlist_by directive_named line
model_behind_end = refl

-- a cover that drives nothing
no_driven : net_of (line (codes ".names") []) ≡ Err (faults.Syntax 1)
unfolding net_of netlist_by directive_named line
no_driven = refl

-- the width of a row is judged before its cells, and those before its output character
width_first : row_at 4 2 (Some true) (codes "x" ∷ codes "0" ∷ []) ≡ Err (faults.RowWidth 4)
unfolding row_at
width_first = refl

cells_next : row_at 4 2 (Some true) (codes "1x" ∷ codes "0" ∷ []) ≡ Err (faults.Syntax 4)
unfolding row_at
cells_next = refl

mixed_last : row_at 4 2 (Some true) (codes "1-" ∷ codes "0" ∷ []) ≡ Err (faults.MixedPhase 4)
unfolding row_at
mixed_last = refl

-- a pattern and an output character are two words
not_one_word : row_at 4 2 None (codes "101" ∷ []) ≡ Err (faults.Syntax 4)
unfolding row_at
not_one_word = refl

-- an input that is one already, in an earlier statement or in this one
twice : net_of (line (codes ".inputs a") (line (codes ".outputs b") (line (codes ".inputs b c a") []))) ≡ Err (faults.TwiceInput 3)
unfolding net_of netlist_by directive_named line
twice = refl

-- the limits: the length of a name, and the number of outputs
longest_name : name_fault [] (replicate 4096 120) ≡ None
longest_name = refl

long_name : name_fault [] (replicate 4097 120) ≡ Some (faults.TooLarge kinds.Name)
long_name = refl

last_output : outputs_fault [] 1048575 (codes "f" ∷ []) ≡ None
last_output = refl

many_outputs : outputs_fault [] 1048575 (codes "f" ∷ codes "f" ∷ []) ≡ Some (faults.TooLarge kinds.Outputs)
many_outputs = refl

-- where all numbers but one are in use, a new name has the last, and where all are, it is one too many
last_signal : (names : List (List ℕ)) → length names ≡ 1048575 → is_known names (codes "f") ≡ false → name_fault names (codes "f") ≡ None
last_signal names count new =
    ap (λ known. fault_if (not known && leb 1048576 (length names)) (faults.TooLarge kinds.Signals)) new
    ∙ ap (λ n. fault_if (leb 1048576 n) (faults.TooLarge kinds.Signals)) count

many_signals : (names : List (List ℕ)) → length names ≡ 1048576 → is_known names (codes "f") ≡ false → name_fault names (codes "f") ≡ Some (faults.TooLarge kinds.Signals)
many_signals names count new =
    ap (λ known. fault_if (not known && leb 1048576 (length names)) (faults.TooLarge kinds.Signals)) new
    ∙ ap (λ n. fault_if (leb 1048576 n) (faults.TooLarge kinds.Signals)) count

-- a netlist that is not well-formed, with the label of the signal
undriven : net_of (line (codes ".outputs f") (line (codes ".names u f") (line (codes "1 1") []))) ≡ Err (faults.Net (net_faults.Undriven 1) (codes "u" ∷ []))
unfolding net_of netlist_by judged_net directive_named row_at line
undriven = refl

-- names are numbered where they first come
numbering : distinct (codes "b" ∷ codes "a" ∷ codes "b" ∷ codes "c" ∷ codes "a" ∷ []) ≡ codes "b" ∷ codes "a" ∷ codes "c" ∷ []
numbering = refl

-- loads are passed over for one signal and for every one; wires have no default
default_load : directive_of (codes ".default_max_input_load") ≡ Some PassedOver
unfolding directive_named
default_load = refl

default_wire : directive_of (codes ".default_wire") ≡ Some Unsupported
unfolding directive_named
default_wire = refl

-- each of the fourteen directives is passed over
all_passed_over : map (λ name. directive_of (46 ∷ name)) passed_over ≡ replicate 14 (Some PassedOver)
unfolding directive_named
all_passed_over = refl
