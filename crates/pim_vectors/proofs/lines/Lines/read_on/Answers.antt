use Rattle.std.proofs.Common.{ℕ, ◌-◌, List, take, drop, refl, ◌∙◌}
use Rattle.std.proofs.lemmas.List.{with_items_is}
use Rattle.pim_vectors.proofs.Taking.{held_after, took_from}
use Rattle.pim_vectors.proofs.lines.Lines.read_on.Goals as goal

pub returns-clause-took : goal.returns-clause-took
returns-clause-took g c =
    let inside = c.self.inside in
    let held : ℕ = inside.end - inside.start in
    let new : List ℕ = c.refill-read.new.buffer in
    took_from _ c.args.self.now _ _ _ (take c.in-Ok.n (drop held new)) c.self.view_is refl refl refl
    (held_after _ new inside.buffer.items c.deref_mut.result.now inside.start held c.in-Ok.n
    (with_items_is inside.buffer new (c.refill-read.auto.buffer ∙ c.deref_mut.ensures.len)) c.deref_mut.ensures.value c.in-Ok.ensures.kept)
    c.in-Ok.ensures.gave
