use Rattle.pim_file.proofs.KeptLemmas.{kept_is_small}
use Rattle.pim_file.proofs.binary.parsing.parse_binary.Goals as goal

-- what is read is a form, which is longer than twice its parts
pub new-requires : goal.new-requires
new-requires c =
    let few = kept_is_small c.args.bytes.now c.in_ok-draft.draft c.requires.tag c.requires.short c.in_ok-draft.ensures in
    record { few_ports = few.ports; few_instrs = few.instrs }
