use Rattle.std.proofs.Common.{◌≡◌, List, subst, rules}
use Rattle.std.specs.List.{AllByRecursion}
use Rattle.pim_isa.specs.declared.port.Port.{Port}
use Rattle.pim_asm.specs.Listing.{listing_of}
use Rattle.pim_asm.specs.inner.Bytes.{HasByteLabel}
use Rattle.pim_asm.proofs.ReadBack.{asm_of-listing}
use Rattle.pim_asm.proofs.listings.listing.Goals as goal

pub returns-clause-again : goal.returns-clause-again
returns-clause-again c =
    let p = c.args.program.now in
    let laws = c.line_laws.ensures in
    let ins : AllByRecursion HasByteLabel p.inputs = subst (λ (ports : List Port). AllByRecursion HasByteLabel ports) c.inputs.ensures.value c.in_ok-push_ports.ensures.small in
    let outs : AllByRecursion HasByteLabel p.outputs = subst (λ (ports : List Port). AllByRecursion HasByteLabel ports) c.outputs.ensures.value c.in_ok-push_ports-2.ensures.small in
    let text : c.into_bytes.result.items ≡ listing_of p = search rules in
    rw text (asm_of-listing laws.read laws.words laws.lack laws.program p c.target.ensures.valid ins outs)
