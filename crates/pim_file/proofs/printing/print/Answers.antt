use Rattle.std.proofs.Common.{◌≡◌, ℕ, ◌<◌, take, Err, List, [], ◌++◌, ◌∙◌, ap, sym, subst, Ok, codes, length}
use Rattle.pim_text.specs.Text.{counted_text, ports_text}
use Rattle.pim_file.specs.Text.{head_text, instrs_text, text as text_of}
use Rattle.pim_file.specs.declared.fault.FileFault.TheVariants as faults
use Rattle.pim_file.specs.ProgramFile.{parse1_of}
use Rattle.pim_file.proofs.Laws.{parse1_of-text, parse1_of-cut}
use Rattle.pim_file.proofs.printing.print.Goals as goal

-- six pieces, appended one after another to nothing
six_pieces : (t0 t1 t2 t3 t4 t5 t6 out h i o c n e : List ℕ) → t0 ≡ [] → t1 ≡ t0 ++ h → t2 ≡ t1 ++ i → t3 ≡ t2 ++ o → t4 ≡ t3 ++ c → t5 ≡ t4 ++ n → t6 ≡ t5 ++ e → out ≡ t6 → out ≡ h ++ i ++ o ++ c ++ n ++ e
six_pieces t0 t1 t2 t3 t4 t5 t6 out h i o c n e p0 p1 p2 p3 p4 p5 p6 p =
    let first : t1 ≡ h = p1 ∙ ap (λ t. t ++ h) p0 in
    cc

pub returns : goal.returns
returns c =
    let p = c.args.program.now in
    let head : c.push_head.new.text ≡ c.new-text.result ++ head_text p.target p.cells =
    rw (← c.target.ensures.value, ← c.cells.ensures.value) c.in_ok-push_head.ensures in
    let ins : c.push_ports.new.text ≡ c.push_head.new.text ++ ports_text (codes "input ") p.inputs =
    rw (← c.inputs.ensures.value) c.in_ok-push_ports.ensures in
    let outs : c.push_ports-2.new.text ≡ c.push_ports.new.text ++ ports_text (codes "output ") p.outputs =
    rw (← c.outputs.ensures.value) c.in_ok-push_ports-2.ensures in
    let cycles : c.counted.new.self ≡ c.push_ports-2.new.text ++ counted_text (codes "cycles ") (length p.instrs) =
    rw (← c.instrs.ensures.value) c.in_ok-counted.ensures in
    let body : c.push_instrs.new.text ≡ c.counted.new.self ++ instrs_text p.instrs =
    rw (← c.instrs-2.ensures.value) c.in_ok-push_instrs.ensures in
    let whole : c.into_bytes.result.items ≡ text_of p =
    six_pieces _ _ _ _ _ _ _ _ _ _ _ _ _ _ c.new-text.ensures head ins outs cycles body c.in_ok-bytes.ensures c.into_bytes.ensures in
    record {
      text = whole;
      again = subst (λ (t : List ℕ). parse1_of t ≡ Ok p) (sym whole) (parse1_of-text c.line_laws.ensures.read c.line_laws.ensures.program c.text_laws.ensures p c.target.ensures.valid);
      cut = subst (λ (t : List ℕ). (k : ℕ) → k < length t → parse1_of (take k t) ≡ Err faults.Truncated) (sym whole) (λ k lt. parse1_of-cut c.line_laws.ensures.read c.line_laws.ensures.program c.text_laws.ensures p k c.target.ensures.valid lt);
    }
