use Rattle.std.proofs.Common.{◌≡◌, ℕ, min, length, sym, ◌∙◌, rules, ap, List, Bool, drop, eqb}
use Rattle.std.proofs.lemmas.List.{drop-map, length-map}
use Rattle.std.proofs.lemmas.Slice.Zip.{zip_end}
use Rattle.pim_isa.proofs.RowLemmas.{length-with_inputs, with_inputs_end}
use Rattle.pim_io.specs.Bits.{bits_of}
use Rattle.pim_isa.specs.Results.{with_inputs}
use Rattle.pim_isa.proofs.row.Row.put_line.Goals as goal

-- at the end nothing is left to put
pub returns-clause-bits : goal.returns-clause-bits
returns-clause-bits c =
    let all : length c.loop-port.yielded ≡ min (length c.args.inputs.now) (length c.args.line.now) =
    zip_end c.args.inputs.now c.args.line.now _ _ _ c.next.new.self _ (search rules) (search rules) c.loop-port.yielded_by c.in-None.is c.next.ensures.steps in
    sym (ap (λ (bs : List Bool). with_inputs (drop (length c.loop-port.yielded) c.args.inputs.now) bs c.loop-port.self)
    (sym (drop-map (λ (b : ℕ). eqb b 49) (length c.loop-port.yielded) c.args.line.now))
    ∙ with_inputs_end (length c.loop-port.yielded) c.args.inputs.now (bits_of c.args.line.now) c.loop-port.self
    (rw (length-map c.args.line.now (λ (b : ℕ). eqb b 49)) all))
    ∙ c.loop-port.invariant

-- a bit for each cell still
pub returns-clause-long : goal.returns-clause-long
returns-clause-long c = ap length (returns-clause-bits c) ∙ length-with_inputs c.args.inputs.now (bits_of c.args.line.now) c.args.self.now
