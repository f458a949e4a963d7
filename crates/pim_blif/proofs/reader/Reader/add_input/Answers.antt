use Rattle.std.proofs.Common.{◌≡◌, true, Err, ap, sym, ◌∙◌, inr}
use Rattle.pim_blif.specs.declared.fault.BlifFault.TheVariants as faults
use Rattle.pim_blif.specs.Signals.{signal_number}
use Rattle.pim_blif.specs.inner.InputMarks.{is_marked}
use Rattle.pim_blif.specs.inner.Judging.{Known, with_input}
use Rattle.pim_blif.proofs.Marks.{twice_is}
use Rattle.pim_blif.proofs.reader.Reader.add_input.Goals as goal

pub returns-then-is_marked-clause-exact : goal.returns-then-is_marked-clause-exact
returns-then-is_marked-clause-exact c =
    let i = c.self.inside in
    let same = c.bytes-name.ensures.bytes in
    let k : Known = record { names = i.names; draft = i.draft; cover = i.cover; started = i.started; ended = i.ended } in
    let marked : is_marked i.marks (signal_number i.names c.bytes-name.result.now) ≡ true =
    ap (is_marked i.marks) (sym c.in_ok-sig.ensures.number) ∙ sym c.is_marked.ensures ∙ c.if-is_marked.true in
    let here : with_input c.args.line k c.bytes-name.result.now ≡ Err (faults.TwiceInput c.args.line) =
    twice_is c.args.line k i.marks c.bytes-name.result.now _ c.self.invariant.marked c.in_ok-sig.ensures.exact marked in
    inr (ap (λ (v : Known). with_input c.args.line v c.args.name.now) (sym c.self.view_is) ∙ ap (with_input c.args.line k) (sym same) ∙ here)
