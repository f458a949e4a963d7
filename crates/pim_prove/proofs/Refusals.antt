-- Why a program isn't compared with a netlist, test by test.
use Rattle.std.proofs.Common.{◌≡◌, Bool, true, false, not, eqb, length, Option, Some, None, refl, sym}
use Rattle.std.specs.Prelude.{is_some}
use Rattle.std.proofs.lemmas.Bool.{eqb-true, or_parts}
use Rattle.pim_isa.specs.Programs.{ProgramView}
use Rattle.pim_net.specs.Netlist.{NetView}
use Rattle.pim_prove.specs.declared.unset.Unset.{Unset}
use Rattle.pim_prove.specs.Proving.{ports_differ}

-- ports that don't differ
pub same_ports : (p : ProgramView) (n : NetView) → ports_differ p n ≡ false → (length p.inputs ≡ length n.inputs) × (length p.outputs ≡ length n.outputs)
same_ports p n same =
    let both = or_parts (not (eqb (length p.inputs) (length n.inputs))) (not (eqb (length p.outputs) (length n.outputs))) same in (
      eqb-true (length p.inputs) (length n.inputs) (not_not (eqb (length p.inputs) (length n.inputs)) both.0),
      eqb-true (length p.outputs) (length n.outputs) (not_not (eqb (length p.outputs) (length n.outputs)) both.1),
    )
  where
    not_not : (b : Bool) → not b ≡ false → b ≡ true
    not_not true same = refl
    not_not false same = sym same

-- no unset cell
pub none_of_not : (o : Option Unset) → ((x : Unset) → o ≡ Some x → ⊥) → is_some o ≡ false
none_of_not None never = refl
none_of_not (Some x) never = absurd (never x refl)
