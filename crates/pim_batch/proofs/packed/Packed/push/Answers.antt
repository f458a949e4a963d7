use Rattle.std.proofs.Common.{◌++◌, ◌∷◌, [], ap, ◌∙◌, arith}
use Rattle.pim_io.specs.Bits.{bits_of}
use Rattle.pim_batch.specs.inner.Packing.{PackedView}
use Rattle.pim_batch.proofs.PackingLemmas.{has_room, pushed_open, pushed_full}
use Rattle.pim_batch.proofs.packed.Packed.push.Goals as goal

pub invariant_of-self : goal.invariant_of-self
invariant_of-self c =
    let before = c.self.invariant in
    record {
      columns = c.pack.ensures.columns ∙ before.columns;
      short = before.short;
      within = omega (arith, has_room c.self.inside.tile c.self.inside.stage c.self.inside.count c.args.self.now c.self.view_is c.requires.room);
    }

pub returns-then-self-ne0-clause-pushed : goal.returns-then-self-ne0-clause-pushed
returns-then-self-ne0-clause-pushed c =
    let inside = c.self.inside in
    pushed_open inside.tile inside.stage c.pack.new.self inside.count (bits_of c.args.line.now) c.pack.ensures.vectors c.if-self-ne0.true
    ∙ ap (λ (p : PackedView). p.rows ++ bits_of c.args.line.now ∷ []) c.self.view_is

pub returns-clause-pushed : goal.returns-clause-pushed
returns-clause-pushed c =
    let inside = c.self.inside in
    pushed_full inside.tile inside.stage c.pack.new.self c.put_block.new.self inside.count (bits_of c.args.line.now)
    c.pack.ensures.vectors c.if-self-ne0.false
    (has_room inside.tile inside.stage inside.count c.args.self.now c.self.view_is c.requires.room) c.put_block.ensures.vectors
    ∙ ap (λ (p : PackedView). p.rows ++ bits_of c.args.line.now ∷ []) c.self.view_is
