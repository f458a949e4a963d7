use Rattle.std.proofs.Common.{◌+◌, ◌<◌, ◌^◌, subst}
use Rattle.std.specs.List.{All}
use Rattle.std.proofs.lemmas.List.Elements.{All-head, All-tail}
use Rattle.pim_isa.specs.declared.instr.Instr.{Instr}
use Rattle.pim_isa.specs.Touches.{names}
use Rattle.pim_share.proofs.parts.Part.next.Goals as goal

pub moved-requires : goal.moved-requires
moved-requires c =
    let P : Instr → Type 0 = λ i. All (λ n. c.self.inside.base + n < 2 ^ 32) (names i) in
    All-head P c.in-Some.first.now c.in-Some.rest.now (subst (All P) c.in-Some.ensures.cases.0 c.self.invariant)

pub invariant_of-self : goal.invariant_of-self
invariant_of-self c =
    let P : Instr → Type 0 = λ i. All (λ n. c.self.inside.base + n < 2 ^ 32) (names i) in
    All-tail P c.in-Some.first.now c.in-Some.rest.now (subst (All P) c.in-Some.ensures.cases.0 c.self.invariant)
