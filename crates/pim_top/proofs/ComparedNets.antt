-- Netlists that a program is compared with.
use Rattle.std.proofs.Common.{◌≡◌, ◌≤◌, Bool, true, false, cond, Option, None, Some, length, refl, arith}
use Rattle.std.proofs.lemmas.Bool.Decides.{nat_tests}
use Rattle.std.specs.Prelude.{nat_lt, option_map}
use Rattle.pim_aig.specs.Flat.{ands}
use Rattle.pim_aig.specs.declared.graph.TheConstants.{MAX_ANDS}
use Rattle.pim_isa.specs.Programs.{ProgramView}
use Rattle.pim_net.specs.Netlist.{NetView}
use Rattle.pim_prove.specs.Clean.{unset_of}
use Rattle.pim_prove.specs.Proving.{ports_differ, refusal_of}
use Rattle.pim_prove.specs.declared.fault.ProveFault.{ProveFault}
use Rattle.pim_prove.specs.declared.fault.ProveFault.TheVariants.{Inputs, Nodes, NotClean, Ports}
use Rattle.pim_prove.specs.declared.proving.TheConstants.{MAX_PROVE_INPUTS}

-- they have no more inputs than the limit
pub few_inputs : (p : ProgramView) (n : NetView) → refusal_of p n ≡ None → length n.inputs ≤ MAX_PROVE_INPUTS
few_inputs p n h = by (ports_differ p n) (nat_lt MAX_PROVE_INPUTS (length n.inputs)) refl h
  where
    rest : Option ProveFault
    rest = cond (nat_lt MAX_ANDS (ands n)) (Some Nodes) (option_map (λ unset. NotClean unset) (unset_of p))

    by : (a b : Bool) → nat_lt MAX_PROVE_INPUTS (length n.inputs) ≡ b → cond a (Some Ports) (cond b (Some Inputs) rest) ≡ None → length n.inputs ≤ MAX_PROVE_INPUTS
    by true b e h = absurd (let z : ⊥ = cc in z)
    by false true e h = absurd (let z : ⊥ = cc in z)
    by false false e h = grind (arith, nat_tests)
