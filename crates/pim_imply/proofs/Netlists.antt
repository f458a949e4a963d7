-- The program of a netlist's flat graph is one of the netlist.
use Rattle.std.proofs.Common.{◌≡◌, ◌<◌, ◌≤◌, Bool, List, ℕ, length, map, sym, ◌∙◌, subst}
use Rattle.pim_aig.specs.Flat.{ands, flat}
use Rattle.pim_aig.specs.Graph.{AigView}
use Rattle.pim_aig.specs.Values.{aval}
use Rattle.pim_aig.specs.declared.graph.TheConstants.{MAX_ANDS}
use Rattle.pim_isa.specs.PortLists.{labels_of}
use Rattle.pim_isa.specs.Programs.{PortsView}
use Rattle.pim_net.specs.Netlist.{NetView}
use Rattle.pim_net.specs.Values.{outs}
use Rattle.pim_imply.specs.Compiled.{IComputes, IsUnfit}
use Rattle.pim_imply.specs.Costs.{needed_of}
use Rattle.pim_imply.specs.Programs.{ImplyView}
use Rattle.pim_imply.specs.Realizes.{IRealizes}
use Rattle.pim_imply.specs.inner.Refusals.{IsRefusalFor}
use Rattle.pim_imply.specs.declared.refusal.ImplyRefusal.{ImplyRefusal}
use Rattle.pim_imply.specs.declared.refusal.ImplyRefusal.TheVariants as refusal

-- what is realized, where two functions give the same
realizes_same : (p : ImplyView) (labels : List (List ℕ)) (f h : List Bool → List Bool) → ((bits : List Bool) → length bits ≡ length labels → f bits ≡ h bits) → IRealizes p labels f → IRealizes p labels h
realizes_same p labels f h same r = record {
  inputs = r.inputs;
  keeps_inputs = r.keeps_inputs;
  gives_outputs = λ m bits len wide front. r.gives_outputs m bits len wide front ∙ same bits len;
  keeps_length = r.keeps_length;
  keeps_others = r.keeps_others;
}

pub computes : (p : ImplyView) (n : NetView) (g : AigView) (ports : PortsView) → ports.inputs ≡ n.input_labels → ports.outputs ≡ n.output_labels → length ports.inputs ≡ length n.inputs →
    ((bits : List Bool) → length bits ≡ length n.inputs → map (aval g bits) g.outputs ≡ outs n bits) →
    IRealizes p ports.inputs (λ bits. map (λ o. aval g bits o) g.outputs) → labels_of p.outputs ≡ ports.outputs → IComputes p n
computes p n g ports inputs outputs many values realizes labels = record {
  realizes = subst (λ (l : List (List ℕ)). IRealizes p l (outs n)) inputs
      (realizes_same p ports.inputs (λ bits. map (λ o. aval g bits o) g.outputs) (outs n) (λ bits len. values bits (len ∙ many)) realizes);
  labels = labels ∙ outputs;
}

-- the refusal of a netlist's flat graph is one of the netlist
pub unfit : (n : NetView) (needed budget : ℕ) (r : ImplyRefusal) → ands n ≤ MAX_ANDS → needed ≡ needed_of (flat n) → IsRefusalFor needed budget r → IsUnfit n budget r
unfit n needed budget (refusal.TooFewCells told) few is h = record { few = few; is = h.0 ∙ is; below = subst (λ (m : ℕ). budget < m) (sym h.0) h.1 }
unfit n needed budget refusal.TooLarge few is h = elim h [ ]
unfit n needed budget refusal.NoMemory few is h = tt
