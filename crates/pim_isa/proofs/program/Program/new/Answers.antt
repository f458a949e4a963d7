use Rattle.std.proofs.Common.{◌≡◌, None}
use Rattle.pim_isa.specs.Validity.{fault_of}
use Rattle.pim_isa.proofs.SoundLemmas.{sound_from_none, none_from_sound}
use Rattle.pim_isa.proofs.program.Program.new.Goals as goal

-- a sound draft has no fault
pub returns-in-Some-clause-accepts : goal.returns-in-Some-clause-accepts
returns-in-Some-clause-accepts c = λ sound. let none : fault_of c.args.draft ≡ None = none_from_sound c.args.draft sound in cc

pub invariant_of-result : goal.invariant_of-result
invariant_of-result c =
    let none : fault_of c.args.draft ≡ None = cc in
    rw c.draft.view_is (record {
      small = c.fault.ensures.small;
      few_ports = c.requires.few_ports;
      few_instrs = c.requires.few_instrs;
      input_labels = c.fault.ensures.input_labels;
      output_labels = c.fault.ensures.output_labels;
      faultless = none;
      sound = sound_from_none c.args.draft none;
    })

pub returns-clause-sound : goal.returns-clause-sound
returns-clause-sound c = let none : fault_of c.args.draft ≡ None = cc in sound_from_none c.args.draft none
