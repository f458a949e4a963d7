use Rattle.std.proofs.Common.{◌≡◌, ◌∙◌, ℕ, suc, ◌<◌, ◌++◌, List, [], ◌∷◌, length, get_or, sym, ap, subst, arith}
use Rattle.pim_isa.specs.PortLists.{input_ports}
use Rattle.pim_isa.specs.Programs.{ProgramView}
use Rattle.pim_nor.specs.Network.{NorView, IsOfFirst, AreInputsOrFirst}
use Rattle.pim_nor.specs.declared.network.Pin.{Pin}
use Rattle.pim_nor.specs.declared.network.Pin.TheVariants.{Input, Gate as Place}
use Rattle.pim_simpler.specs.inner.Kept.{ScheduleView, cell_of, output_ports}
use Rattle.pim_simpler.proofs.scheduler.Scheduler.finish.Goals as goal

-- what an output reads is an input or a gate that is there
outs_there : (inputs gates : ℕ) (outs : List Pin) → ((k : ℕ) (d : Pin) → k < length outs → IsOfFirst inputs gates (get_or outs k d)) → AreInputsOrFirst gates outs
outs_there inputs gates [] each = tt
outs_there inputs gates (Input j ∷ outs) each = (tt, outs_there inputs gates outs (λ k d small. each (suc k) d (omega arith)))
outs_there inputs gates (Place i ∷ outs) each = (each 0 (Place i) (omega arith), outs_there inputs gates outs (λ k d small. each (suc k) d (omega arith)))

pub add_outputs-requires-clause-there : goal.add_outputs-requires-clause-there
add_outputs-requires-clause-there c =
    let n : NorView = c.self.inside.net.now in
    let P : List Pin → Type 0 = λ ps. AreInputsOrFirst (length c.deref.result.now) ps in
    let Q : ℕ → Type 0 = λ k. AreInputsOrFirst k n.outs in
    let long : length c.deref.result.now ≡ length n.gates = ap (λ (xs : List ℕ). length xs) c.deref.ensures.value ∙ c.self.invariant.0 in
    subst P (sym c.outs-outs.ensures.pins) (subst Q (sym long) (outs_there n.inputs (length n.gates) n.outs c.outs-outs.ensures.sound.outs_there))

pub returns : goal.returns
returns c =
    let d : ProgramView = c.self.inside.draft in
    let with_ports : ProgramView → List (List ℕ) → List ℕ → List Pin → List (List ℕ) → ProgramView =
    λ e ins cells outs names. record e { inputs = e.inputs ++ input_ports 0 ins; outputs = e.outputs ++ output_ports (cell_of cells) outs names } in
    let ins = c.inputs.result.now in
    let cells : List ℕ = c.deref.result.now in
    let outs : List Pin = c.outs-outs.result.now in
    let names = c.outputs.result.now in
    c.in_ok-add_outputs.ensures
    ∙ (ap (λ (e : ProgramView). record e { outputs = e.outputs ++ output_ports (cell_of cells) outs names }) c.in_ok-add_inputs.ensures
    ∙ (ap (λ (xs : List (List ℕ)). with_ports d xs cells outs names) c.inputs.ensures
    ∙ (ap (λ (xs : List ℕ). with_ports d c.args.ports.now.inputs xs outs names) c.deref.ensures.value
    ∙ (ap (λ (xs : List Pin). with_ports d c.args.ports.now.inputs c.self.inside.cells.items xs names) c.outs-outs.ensures.pins
    ∙ (ap (λ (xs : List (List ℕ)). with_ports d c.args.ports.now.inputs c.self.inside.cells.items c.self.inside.net.now.outs xs) c.outputs.ensures
    ∙ ap (λ (s : ScheduleView). with_ports s.draft c.args.ports.now.inputs s.cells s.net.outs c.args.ports.now.outputs) c.self.view_is)))))
